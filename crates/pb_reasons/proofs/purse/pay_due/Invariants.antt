use Rattle.std.proofs.Common.{◌≡◌, List, ℕ, length}
use Rattle.pb_reasons.specs.Inner.Turns.{AreDue}
use Rattle.pb_reasons.proofs.Turns.{IsPaidSoFar}
use Rattle.pb_reasons.proofs.purse.pay_due.Given as goal

abbrev pub invariant-loop-round : goal.invariant-loop-round
invariant-loop-round l = record {
  one_each : length l.amounts.items ≡ length l.elected;
  paid : (ballot : List ℕ) → AreDue l.elected ballot l.due → IsPaidSoFar ballot l.fn.share l.elected l.due l.round-index l.rest l.amounts.items;
}
