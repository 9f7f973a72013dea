use Rattle.std.proofs.Common.{take}
use Rattle.pb_export.specs.Inner.Growing.{Grows}
use Rattle.pb_export.specs.FileRows.{projects_rows}
use Rattle.pb_export.proofs.write_pb.put_projects.Given as goal

abbrev pub invariant-loop-place : goal.invariant-loop-place
invariant-loop-place l = Grows (projects_rows l.told.votes.now l.told.selected.now l.told.further.now (take l.place l.projects)) l.fn.rows.text l.rows.text
