use Rattle.std.proofs.Common.{take}
use Rattle.pb_core.specs.Election.{project_ids}
use Rattle.pb_export.specs.Inner.Growing.{Grows}
use Rattle.pb_export.specs.FileRows.{votes_rows}
use Rattle.pb_export.proofs.write_pb.put_votes.Given as goal

abbrev pub invariant-loop-voter : goal.invariant-loop-voter
invariant-loop-voter l = Grows (votes_rows (project_ids l.election) l.further (take l.voter-index l.voter-items)) l.fn.rows.text l.rows.text
