-- The winners of a count are projects of the election, and the budget pays for them.
use Rattle.std.proofs.Common.{◌≡◌, ℕ, ◌<◌, List, [], ◌∷◌, length, map, refl, arith}
use Rattle.std.specs.Prelude.{◌^◌, All, sum_by}
use Rattle.std.proofs.lemmas.List.Elements.{All-append, All-map}
use Rattle.std.proofs.lemmas.List.Sums.{sum_by-append, sum_by-cons}
use Rattle.pb_price.specs.Supporters.{SupportView, cost_at, support_of}
use Rattle.pb_reasons.proofs.Results.{counted_is_result, result_is_added}
use Rattle.pb_reasons.proofs.Tellable.{counted_can_be_told}
use Rattle.pb_reasons.specs.Counted.{winners_of}
use Rattle.pb_reasons.specs.CountedElection.{CountedElectionView, IsCountedElection}
use Rattle.pb_rounds.specs.Count.{spent_on}
use Rattle.pb_rounds.specs.Run.{ElectedView}

pub winners_are_known : (x : CountedElectionView) → IsCountedElection x → All (λ place. place < length x.election.projects) (winners_of x.counted)
winners_are_known x is =
    let IsKnown : ℕ → Type 0 = λ place. place < length x.election.projects in
    let told = counted_can_be_told x is in
    let added = result_is_added x.election x.counted is.is_election (counted_is_result x is) in
    All-append IsKnown (map (λ (w : ElectedView). w.place) x.counted.outcome.elected) x.counted.added
    (All-map IsKnown (λ (w : ElectedView). w.place) x.counted.outcome.elected told.known) added.known

places_cost : (s : SupportView) (elected : List ElectedView) → sum_by (cost_at s) (map (λ (w : ElectedView). w.place) elected) ≡ spent_on s elected
places_cost s [] = refl
places_cost s (w ∷ elected) =
    let later = places_cost s elected in
    omega (
      arith,
      later,
      sum_by-cons (cost_at s) w.place (map (λ (v : ElectedView). v.place) elected),
      sum_by-cons (λ (v : ElectedView). cost_at s v.place) w elected,
    )

pub winners_are_paid : (x : CountedElectionView) → IsCountedElection x → sum_by (cost_at (support_of x.election)) (winners_of x.counted) < 2 ^ 64
winners_are_paid x is =
    let s = support_of x.election in
    let elected = x.counted.outcome.elected in
    let added = result_is_added x.election x.counted is.is_election (counted_is_result x is) in
    let all = sum_by-append (cost_at s) (map (λ (w : ElectedView). w.place) elected) x.counted.added in
    omega (arith, all, places_cost s elected, added.paid, is.is_election.budget_bounded)
