use Rattle.pb_commands.proofs.Accepted.{one_text}
use Rattle.pb_commands.proofs.AuditAccepted.{one_audit}
use Rattle.pb_commands.proofs.BallotsRuns.{one_table}
use Rattle.pb_commands.proofs.laws.one_report.Goals as goal

pub returns : goal.returns
returns c = record {
  counted = λ bytes rule first second. one_text rule bytes first second;
  audited = one_audit;
  ballots = λ voter bytes journal first second. one_table voter bytes journal first second;
}
