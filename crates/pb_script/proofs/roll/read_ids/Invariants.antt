use Rattle.std.proofs.Common.{◌≤◌, ◌-◌, ◌+◌}
use Rattle.pb_read.specs.StandsFor.{most_records}
use Rattle.pb_script.specs.Inner.Roll.{HaveIds}
use Rattle.pb_script.proofs.roll.read_ids.Given as goal

abbrev pub invariant-rows : goal.invariant-rows
invariant-rows g l = (l.ids ≤ most_records) × (l.rows ≤ l.ids + 1) × HaveIds l.initial.records.left l.records.left l.rows l.ids l.roll

abbrev pub decreases-rows : goal.decreases-rows
decreases-rows g l = most_records + 2 - l.rows
