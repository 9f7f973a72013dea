use Rattle.std.proofs.Common.{◌≡◌, ap, arith, sym}
use Rattle.std.proofs.lemmas.List.Sums.{sum_by_more}
use Rattle.pb_price.specs.Supporters.{support_in}
use Rattle.pb_reasons.specs.Inner.Spending.{counts_within}
use Rattle.pb_reasons.proofs.fairness.within_need.Goals as goal

pub loop-payment-preserved : goal.loop-payment-preserved
loop-payment-preserved c =
    let k = c.args.count.now in
    let p = c.payment-item.result in
    let counts = counts_within k.rule.options.measure (support_in k.rule.options.grain k.election) c.args.place in
    let more = sum_by_more counts c.args.payments.now c.loop-payment.payment-index p c.loop-payment-test.true in
    let here = ap counts (sym c.payment-item.is) in
    let counted : c.counted.result ≡ counts p =
    rw (c.weight_of.ensures.weight, c.weight_of-weight.ensures.weight, c.need.view_is, c.needed.ensures, c.rule.ensures, c.supporters-supporters.ensures) at c.counted.ensures in
    let h = c.loop-payment.invariant in
    record { spent = omega (arith, more, here, h.spent, c.from-spent.ensures, counted); small = omega (arith, h.small, c.counted.type_inv, c.from-spent.ensures) }
