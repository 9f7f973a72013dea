use Rattle.std.proofs.Common.{◌≡◌, take, string_bytes}
use Rattle.pb_commands.specs.Inner.Tables.{payments_text}
use Rattle.pb_commands.proofs.voters_table.write_payments.Given as goal

abbrev pub invariant-loop-i : goal.invariant-loop-i
invariant-loop-i l = string_bytes l.text ≡ payments_text l.count (take l.i l.payments)
