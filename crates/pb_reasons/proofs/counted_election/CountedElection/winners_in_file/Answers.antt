use Rattle.std.proofs.Common.{◌≡◌, ◌∙◌, ◌<◌, ap, length, subst, sym, ℕ, List}
use Rattle.std.specs.Prelude.{All}
use Rattle.pb_reasons.specs.Counted.{winners_of}
use Rattle.pb_reasons.proofs.Results.{winners_known}
use Rattle.pb_reasons.proofs.counted_election.CountedElection.winners_in_file.Goals as goal

pub places_at-requires : goal.places_at-requires
places_at-requires c =
    let many : length c.places.result.now ≡ length c.self.inside.election.projects = ap length c.places.ensures.places ∙ c.self.invariant.0.one_each in
    let known : All (λ place. place < length c.places.result.now) (winners_of c.self.inside.counted) =
    subst (λ (n : ℕ). All (λ place. place < n) (winners_of c.self.inside.counted)) (sym many) (winners_known _ c.self.invariant.0) in
    subst (λ (winners : List ℕ). All (λ place. place < length c.places.result.now) winners) (sym (c.winners.ensures ∙ c.self.invariant.1.winners)) known
