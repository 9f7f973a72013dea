use Rattle.std.proofs.Common.{map, string_bytes}
use Rattle.pb_read.proofs.IdLists.{HasIds}
use Rattle.pb_read.proofs.project_ids.ProjectIds.of.Given as goal

abbrev pub invariant-loop-project : goal.invariant-loop-project
invariant-loop-project l = HasIds l.table (map string_bytes l.ids.items) l.project-items l.project-index
