use Rattle.pb_closing.proofs.ClosedAs.{closed_as}
use Rattle.pb_closing.proofs.close_and_count.close_and_count.Goals as goal

pub returns-in-Ok-clause-closed : goal.returns-in-Ok-clause-closed
returns-in-Ok-clause-closed g c =
    closed_as c.args.shared c.args.clerks.items c.args.rule.now c.in-Ok.desk c.count_desk.result c.in-Ok.ensures.ok c.count_desk.ensures
