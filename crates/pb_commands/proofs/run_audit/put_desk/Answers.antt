use Rattle.pb_commands.proofs.Closings.{report_follows, row_alone}
use Rattle.pb_commands.proofs.run_audit.put_desk.Goals as goal

pub returns-in-Ok-put-clause-ok : goal.returns-in-Ok-put-clause-ok
returns-in-Ok-put-clause-ok g c =
    let rule = c.args.counting.now.rule.now in
    let shut = rw c.in-Ok-Some.field-0-is at c.in-Ok-Some.ensures.shut in
    report_follows rule c.args.desk c.in-Ok-Some.count c.args.rows.now.text c.put_entries.new.rows.text c.put_report-put.new.rows.text shut.0 shut.2 c.in-Ok.ensures
    c.in-Ok-put.ensures

pub returns-in-Ok-None-clause-ok : goal.returns-in-Ok-None-clause-ok
returns-in-Ok-None-clause-ok g c =
    row_alone c.args.counting.now.rule.now c.args.desk c.args.rows.now.text c.put_entries.new.rows.text (c.in-Ok-None.ensures.open c.in-Ok-None.field-0-is) c.in-Ok.ensures
