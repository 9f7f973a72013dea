use Rattle.std.proofs.Common.{sym, ◌∙◌, ap, arith}
use Rattle.pb_price.specs.Price.{PriceView}
use Rattle.pb_price.proofs.NextBounds.{whole_bound}
use Rattle.pb_price.proofs.steps.next_bound.Goals as goal

pub next_payment-requires-clause-bound : goal.next_payment-requires-clause-bound
next_payment-requires-clause-bound g c payment least =
    omega (
      arith,
      whole_bound c.args.supporters.now c.args.rests.now c.args.place (sym c.grain.ensures.grain ∙ c.in-Hundredths.is) c.args.bound c.requires.payers c.requires.bound payment least,
      ap (λ (p : PriceView). p.amount) c.bound.view_is,
    )
