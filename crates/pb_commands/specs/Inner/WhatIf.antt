-- Which values a change can have at most.
use Rattle.std.specs.Prelude.{ℕ, ◌-◌, length}
use Rattle.pb_core.specs.Election.{ElectionView, most_voters}
use Rattle.pb_core.specs.Money.{largest_money}
use Rattle.pb_reasons.specs.declared.changes.change.Change.{Change}
use Rattle.pb_reasons.specs.declared.changes.change.Change.TheVariants.{Cost, Voters}

-- the largest cost, or how many further voters the election can have
abbrev pub most_of : ElectionView → Change → ℕ
most_of e Cost = largest_money
most_of e Voters = most_voters - length e.voters
