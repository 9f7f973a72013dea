use Rattle.std.proofs.Common.{◌≢◌, ◌^◌, sym, ◌∙◌, arith}
use Rattle.pb_price.proofs.Heights.{apart_by_test, height_small, price_higher}
use Rattle.pb_price.proofs.SupporterLists.{cost_fits, support_form}
use Rattle.pb_price.proofs.steps.PriceSearch.price_in_steps.Goals as goal

pub loop-next-smaller : goal.loop-next-smaller
loop-next-smaller g c =
    let s = c.args.self.now.supporters.now in
    let apart : c.in_ok-next.next ≢ c.loop-next.bound = apart_by_test c.in_ok-next.next c.loop-next.bound (sym c.eq.ensures ∙ c.if-eq.false) in
    let more = price_higher s (support_form s c.base.ensures.is_support).few_voters c.loop-next.bound c.in_ok-next.next c.loop-next.invariant.payers c.in_ok-next.ensures.payers
    c.in_ok-next.ensures.rises apart in
    let small = height_small c.in_ok-next.next (2 ^ 64) c.in_ok-next.ensures.payers.some
    (let most = c.in_ok-next.ensures.small apart in let fits = cost_fits s c.base.ensures.is_support c.args.self.now.place c.args.self.now.known in omega (arith, most, fits)) in
    omega (arith, more, small)
