use Rattle.std.proofs.Common.{ap, arith, length}
use Rattle.std.proofs.lemmas.List.Sums.{sum_by_more}
use Rattle.pb_price.specs.Supporters.{supporters_at}
use Rattle.pb_rounds.proofs.pricing.workers_for.Goals as goal

pub loop-place-preserved : goal.loop-place-preserved
loop-place-preserved g c =
    let more = sum_by_more (λ place. length (supporters_at c.args.supporters.now place)) c.args.places.now c.loop-place.place-index 0 c.loop-place-test.true in
    omega (arith, more, c.loop-place.invariant, c.saturating_add-approvals.ensures, ap length c.of.ensures.supporters)
