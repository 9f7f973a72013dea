use Rattle.pb_core.proofs.Orders.{AreExchanged}
use Rattle.pb_commands.specs.Inner.Tables.{in_file_place}
use Rattle.pb_commands.proofs.voters_table.put_in_file_order.Given as goal

abbrev pub invariant-loop-i : goal.invariant-loop-i
invariant-loop-i l = AreExchanged (in_file_place l.count.order) l.fn.payments.items l.payments.items l.i
