use Rattle.pb_core.specs.Inner.Order.{voter_in}
use Rattle.pb_core.proofs.Orders.{AreExchanged}
use Rattle.pb_core.proofs.election.put_ballots_in_order.Given as goal

abbrev pub invariant-loop-i : goal.invariant-loop-i
invariant-loop-i g l = AreExchanged (voter_in l.order) l.fn.voters.items l.voters.items l.i
