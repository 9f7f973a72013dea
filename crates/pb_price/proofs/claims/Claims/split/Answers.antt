use Rattle.std.proofs.Common.{arith}
use Rattle.pb_price.proofs.ClaimSteps.{splits_keep}
use Rattle.pb_price.proofs.claims.Claims.split.Goals as goal

pub split_seat-seat-requires : goal.split_seat-seat-requires
split_seat-seat-requires g c =
    let key = c.args.self.now.table.shared.key in
    (c.requires.same, omega (arith, c.args.self.now.one_word), splits_keep key.pieces key.workers _ _ c.requires.seats c.requires.fresh)
