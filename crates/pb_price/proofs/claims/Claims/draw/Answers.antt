use Rattle.std.proofs.Common.{◌<◌, ap, arith, subst, sym}
use Rattle.pb_price.specs.Inner.Claims.{past_end}
use Rattle.pb_price.proofs.ClaimSteps.{draws_keep}
use Rattle.pb_price.proofs.claims.Claims.draw.Goals as goal

pub fetch_add-requires : goal.fetch_add-requires
fetch_add-requires g c =
    let key = c.args.self.now.table.shared.key in
    let may = subst (λ pieces. past_end pieces c.args.claim.now.seat.me.0.numbers < c.args.claim.now.seat.me.0.seats)
    (ap (λ b. b.pieces) (sym c.args.self.now.of_batch)) c.requires.may_draw in
    (c.requires.same, omega (arith, c.args.self.now.one_word), draws_keep key.pieces key.workers _ _ _ may)
