use Rattle.std.proofs.Common.{◌≡◌, ◌-◌, take}
use Rattle.std.specs.Prelude.{sum_by}
use Rattle.pb_reasons.proofs.money_teller.without.Given as goal

abbrev pub invariant-loop-payment : goal.invariant-loop-payment
invariant-loop-payment l = l.left ≡ l.amount - sum_by (λ p. p.amount) (take l.payment-index l.payments)
