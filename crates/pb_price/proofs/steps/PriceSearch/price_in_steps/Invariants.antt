use Rattle.std.proofs.Common.{ℕ, ◌-◌, ◌^◌, Some}
use Rattle.pb_price.specs.Price.{AtMost, HasPayers, IsPrice, PriceView}
use Rattle.pb_price.proofs.Heights.{height, highest}
use Rattle.pb_price.proofs.steps.PriceSearch.price_in_steps.Given as goal

abbrev pub invariant-loop-next : goal.invariant-loop-next
invariant-loop-next g l = record {
  payers : HasPayers l.self.supporters.now l.bound;
  at_most : (price : PriceView) → IsPrice l.self.supporters.now l.self.rests.now l.self.place (Some price) → AtMost l.bound price;
}

abbrev pub decreases-loop-next : goal.decreases-loop-next
decreases-loop-next g l = highest (2 ^ 64) - height l.bound
