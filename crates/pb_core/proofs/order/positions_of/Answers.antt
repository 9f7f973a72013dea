use Rattle.std.proofs.Common.{◌<◌, arith, length}
use Rattle.pb_core.proofs.Orders.{order_known, put_more}
use Rattle.pb_core.proofs.order.positions_of.Goals as goal

pub index_mut-requires : goal.index_mut-requires
index_mut-requires g c =
    let i = c.loop-position.position in
    let below : i < length c.args.places.now = omega arith in
    omega (arith, order_known c.args.places.now c.requires.each_once i 0 below, c.loop-position.invariant.one_each, c.loop-position.positions.ok.0)

pub loop-position-preserved : goal.loop-position-preserved
loop-position-preserved g c =
    let i = c.loop-position.position in
    let below : i < length c.args.places.now = omega arith in
    put_more c.args.places.now c.loop-position.positions.items i c.requires.each_once below c.loop-position.invariant
