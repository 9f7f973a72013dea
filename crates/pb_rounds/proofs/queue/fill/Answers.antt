use Rattle.std.proofs.Common.{◌*◌, ◌∙◌, ap, refl, arith}
use Rattle.pb_price.specs.Inner.Payment.{nothing}
use Rattle.pb_price.specs.Price.{PriceView}
use Rattle.pb_rounds.proofs.QueueSteps.{full_more}
use Rattle.pb_rounds.proofs.queue.fill.Goals as goal

pub new-requires-clause-fits : goal.new-requires-clause-fits
new-requires-clause-fits g c =
    let fits = c.weight-weight.ensures.fits nothing (record { some = omega arith; few = omega arith; alone = λ whole. refl }) in
    omega (arith, fits, ap (λ (p : PriceView). p.payers * c.weight-weight.result) c.whole.ensures)

pub loop-place-preserved : goal.loop-place-preserved
loop-place-preserved g c =
    full_more c.args.measure c.args.supporters.now c.loop-place.place c.loop-place.queue.keys c.loop-place.invariant c.new.result
    (c.new.ensures ∙ ap (λ (p : PriceView). record { price = p; weight = c.weight-weight.result; place = c.loop-place.place }) c.whole.ensures
    ∙ ap (λ n. record { price = nothing; weight = n; place = c.loop-place.place }) c.weight-weight.ensures.weight)
    c.insert.new.self.keys c.in_ok-insert.ensures.keys c.insert.ensures.ordered
