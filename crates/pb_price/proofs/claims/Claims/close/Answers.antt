use Rattle.std.proofs.Common.{ap, arith, sym, ◌∙◌}
use Rattle.pb_price.proofs.ClaimSteps.{all_drawn}
use Rattle.pb_price.proofs.claims.Claims.close.Goals as goal

pub free-requires : goal.free-requires
free-requires g c = λ k l. absurd (omega (arith, l, c.close_with.ensures.counts.1, c.args.self.no_slots))

pub returns : goal.returns
returns g c =
    let key = c.args.self.table.shared.key in
    all_drawn key.pieces key.workers c.args.claim.seat.id c.args.claim.seat.me.0 _ _ c.close_with.ensures.values.2 (c.requires.all ∙ ap (λ b. b.workers) (sym c.args.self.of_batch))
