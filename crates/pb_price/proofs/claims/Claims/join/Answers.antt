use Rattle.std.proofs.Common.{arith}
use Rattle.pb_price.proofs.ClaimSteps.{joins_keep}
use Rattle.pb_price.proofs.claims.Claims.join.Goals as goal

pub join_seat-requires : goal.join_seat-requires
join_seat-requires g c =
    let key = c.args.self.now.table.shared.key in
    (c.requires.same.0, c.requires.same.1, c.args.other.no_slots, omega (arith, c.args.self.now.one_word), joins_keep key.pieces key.workers _ _ _ _)
