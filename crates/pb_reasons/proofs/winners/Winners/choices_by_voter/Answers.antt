use Rattle.std.proofs.Common.{◌≡◌, ◌∙◌, ap, sym, map, List, ℕ, [], ◌∷◌, ◌++◌, arith}
use Rattle.std.specs.List.{range_with_len}
use Rattle.std.proofs.lemmas.List.FromFn.{map-range_with_len_more}
use Rattle.pb_core.specs.Election.{ElectionView, VoterView}
use Rattle.pb_price.specs.Supporters.{ballot_at}
use Rattle.pb_price.proofs.BuiltLists.{ballot_read}
use Rattle.pb_reasons.specs.Comparison.{choices_of}
use Rattle.pb_reasons.proofs.Comparing.{few_choices}
use Rattle.pb_reasons.proofs.winners.Winners.choices_by_voter.Goals as goal

pub choices-requires-clause-few : goal.choices-requires-clause-few
choices-requires-clause-few c =
    few_choices c.self.inside.election.now c.voters-voters.result.now c.loop-voter.voter-index c.voter-item.result c.places-ballot.result.now c.voters-voters.ensures.is_election
    c.voters-voters.ensures.voters c.loop-voter-test.true c.voter-item.is (c.places-ballot.ensures.places ∙ ap (λ (v : VoterView). v.ballot) c.voter.view_is)
    (rw c.places-ballot.ensures.places c.places-ballot.ensures.is_ballot)

pub loop-voter-preserved : goal.loop-voter-preserved
loop-voter-preserved c =
    let e = c.args.self.now.0 in
    let winners = c.args.self.now.1 in
    let i = c.loop-voter.voter-index in
    let ballot = c.places-ballot.result.now in
    let same : c.voters-voters.result.now ≡ e.voters = c.voters-voters.ensures.voters ∙ ap (λ (p : ElectionView × List ℕ). p.0.voters) c.self.view_is in
    let read : ballot ≡ ballot_at e i = ballot_read e c.voters-voters.result.now i c.voter-item.result ballot same c.loop-voter-test.true c.voter-item.is
    (c.places-ballot.ensures.places ∙ ap (λ (v : VoterView). v.ballot) c.voter.view_is) in
    let choices : c.choices.result ≡ choices_of winners (ballot_at e i) = c.choices.ensures ∙ ap (choices_of winners) read in
    let of_voter : ℕ → ℕ = λ voter. choices_of winners (ballot_at e voter) in
    c.in_ok-push.ensures.items ∙ ap (λ (xs : List ℕ). xs ++ c.choices.result ∷ []) c.loop-voter.invariant
    ∙ ap (λ (n : ℕ). map of_voter (range_with_len 0 i) ++ n ∷ []) choices
    ∙ sym (map-range_with_len_more of_voter 0 i i (omega arith))
