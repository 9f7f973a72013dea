use Rattle.std.proofs.Common.{take}
use Rattle.std.specs.Prelude.{flat_map}
use Rattle.pb_page.specs.Inner.Counted.{payment_told}
use Rattle.pb_page.specs.Inner.Grown.{Grows}
use Rattle.pb_page.proofs.went.put_payments.Given as goal

abbrev pub invariant-loop-payment : goal.invariant-loop-payment
invariant-loop-payment l = Grows l.fn.page.items l.page.items (flat_map (payment_told l.language l.count) (take l.payment-index l.payments))
