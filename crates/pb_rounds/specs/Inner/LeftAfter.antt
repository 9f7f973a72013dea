-- What is left of a budget.
use Rattle.std.specs.Prelude.{ℕ, ◌-◌, List, sum_by}
use Rattle.pb_price.specs.Supporters.{SupportView, cost_at}

-- what is left once these are paid
abbrev pub left_after : SupportView → (left : ℕ) → (added : List ℕ) → ℕ
left_after s left added = left - sum_by (cost_at s) added
