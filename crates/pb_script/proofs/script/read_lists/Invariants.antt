use Rattle.std.proofs.Common.{◌≤◌, ◌-◌, ◌+◌}
use Rattle.pb_read.specs.StandsFor.{most_records}
use Rattle.pb_script.specs.Inner.ScriptReading.{HaveAsked}
use Rattle.pb_script.proofs.script.read_lists.Given as goal

abbrev pub invariant-rows : goal.invariant-rows
invariant-rows g l = (l.rows ≤ most_records) × HaveAsked l.run.admission.now l.run.clerks l.initial.records.left l.records.left l.rows l.lists.items

abbrev pub decreases-rows : goal.decreases-rows
decreases-rows g l = most_records + 1 - l.rows
