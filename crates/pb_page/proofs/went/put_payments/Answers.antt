use Rattle.std.proofs.lemmas.List.{take_all}
use Rattle.pb_page.specs.Inner.Counted.{payment_told}
use Rattle.pb_page.proofs.Grown.{none, row_more}
use Rattle.pb_page.proofs.went.put_payments.Goals as goal

pub loop-payment-init : goal.loop-payment-init
loop-payment-init c = none c.args.page.now.items

pub loop-payment-preserved : goal.loop-payment-preserved
loop-payment-preserved c =
    row_more (payment_told c.args.language.now c.args.count.now) c.args.payments.now c.loop-payment.payment-index _ _ _ _
    c.loop-payment-test.true c.payment-item.is c.loop-payment.invariant c.in_ok-put_payment.ensures

pub returns : goal.returns
returns c = rw (take_all c.loop-payment.payment-index c.args.payments.now c.loop-payment-test.false) at c.loop-payment.invariant
