use Rattle.std.proofs.Common.{take}
use Rattle.pb_commands.proofs.LastGiven.{AreGivers}
use Rattle.pb_commands.proofs.ballots_table.givers_of.Given as goal

abbrev pub invariant-loop-index : goal.invariant-loop-index
invariant-loop-index l = AreGivers (take l.index l.desk.journal) l.givers
