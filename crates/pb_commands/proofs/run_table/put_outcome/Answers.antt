use Rattle.pb_commands.specs.Tables.{table_of}
use Rattle.pb_commands.proofs.run_table.put_outcome.Goals as goal

pub returns-in-Report : goal.returns-in-Report
unfolding table_of
returns-in-Report c = rw c.in-Report.is c.put_report.ensures
