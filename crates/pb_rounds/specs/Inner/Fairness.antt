-- What groups of voters have who all want a project that is not elected.
use Rattle.std.specs.Prelude.{ℕ, List, ◌+◌, ◌*◌, ◌<◌, ◌==◌, filter, sum_by}
use Rattle.std.specs.List.{list_any}
use Rattle.pb_price.specs.Supporters.{SupportView, supporters_at}
use Rattle.pb_rounds.specs.Fairness.{OfSomeMember, paid_within}
use Rattle.pb_rounds.specs.Run.{ElectedView, weight_of}
use Rattle.pb_rounds.specs.declared.measure.Measure.{Measure}

-- In each group some member paid more than the share less the amount, for elected projects that each took at
-- most the amount (so understood) from it. So too little was left to pay the amount.
abbrev pub IsFairToGroups : Measure → SupportView → (share : ℕ) → List ElectedView → Type 0
IsFairToGroups m s share elected = OfSomeMember s elected
    (λ place amount voter. share < paid_within m s share elected place amount voter + amount)

-- So in each group some member supports so many elected projects that, at the amount for each, they and one
-- more would take more than the share; under measure cost, so costly ones that, at the amount for as much
-- cost as the project's, they and the project would.
abbrev pub GroupsHaveWinners : Measure → SupportView → (share : ℕ) → List ElectedView → Type 0
GroupsHaveWinners m s share elected = OfSomeMember s elected (λ place amount voter.
    let supported = filter (λ w. list_any (λ v. v == voter) (supporters_at s w.place)) elected in
    share * weight_of m s place < amount * (sum_by (λ w. weight_of m s w.place) supported + weight_of m s place))
