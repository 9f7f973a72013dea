use Rattle.std.proofs.Common.{slice_index}
use Rattle.pb_core.proofs.Orders.{AreExchanged}
use Rattle.pb_core.proofs.ballot.exchange.Given as goal

abbrev pub invariant-loop-i : goal.invariant-loop-i
invariant-loop-i g l = AreExchanged (slice_index l.list) l.fn.places.items l.places.items l.i
