use Rattle.pb_core.proofs.Orders.{ArePut}
use Rattle.pb_core.proofs.order.positions_of.Given as goal

abbrev pub invariant-loop-position : goal.invariant-loop-position
invariant-loop-position g l = ArePut l.places l.positions.items l.position
