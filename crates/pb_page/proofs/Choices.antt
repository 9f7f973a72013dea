-- How many of each voter's choices won, by the voters' positions.
use Rattle.std.proofs.Common.{◌≡◌, ◌∙◌, ℕ, List, [], ap, length, map, sym}
use Rattle.std.specs.List.{range_with_len}
use Rattle.std.proofs.lemmas.List.{get_or-map, length-map}
use Rattle.std.proofs.lemmas.List.FromFn.{fill_by_all}
use Rattle.pb_core.specs.Election.{ElectionView, VoterView}
use Rattle.pb_price.specs.Supporters.{ballot_at}
use Rattle.pb_reasons.specs.Comparison.{choices_of}

pub choices_by_ballot : (e : ElectionView) (winners : List ℕ)
    → map (λ voter. choices_of winners (ballot_at e voter)) (range_with_len 0 (length e.voters)) ≡ map (λ v. choices_of winners v.ballot) e.voters
choices_by_ballot e winners =
    let own : VoterView → ℕ = λ v. choices_of winners v.ballot in let d : VoterView = record { id = []; ballot = [] } in
    sym (fill_by_all (λ voter. choices_of winners (ballot_at e voter)) (map own e.voters) (length e.voters) 0 (length-map e.voters own)
    (λ k known. get_or-map own e.voters k d 0 known ∙ sym (ap (choices_of winners) (get_or-map (λ (v : VoterView). v.ballot) e.voters k d [] known))))
