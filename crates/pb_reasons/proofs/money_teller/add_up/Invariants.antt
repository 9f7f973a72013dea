use Rattle.std.proofs.Common.{◌≡◌, ◌+◌, ℕ, length, take}
use Rattle.std.specs.Prelude.{slice_index}
use Rattle.pb_reasons.specs.Inner.Money.{paid_to}
use Rattle.pb_reasons.proofs.money_teller.add_up.Given as goal

abbrev pub invariant-loop-payment : goal.invariant-loop-payment
invariant-loop-payment l = record {
  one_each : length l.sums.items ≡ length l.initial.sums.items;
  summed : (place : ℕ) → slice_index l.sums.items place ≡ slice_index l.initial.sums.items place + paid_to place (take l.payment-index l.payments);
}
