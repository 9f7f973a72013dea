use Rattle.pb_commands.proofs.RowsGrown.{whole_text}
use Rattle.pb_commands.specs.Audited.{IsReport, IsTextOf}
use Rattle.pb_commands.proofs.run_audit.desk_text.Goals as goal

pub returns-in-Ok-clause-ok : goal.returns-in-Ok-clause-ok
returns-in-Ok-clause-ok g c =
    whole_text (IsTextOf (IsReport c.args.counting.now.rule.now) c.args.desk) c.start-rows.result.text c.put_desk.new.rows.text c.finished.result c.start-rows.ensures.text c.in-Ok.ensures.ok c.finished.ensures.text
