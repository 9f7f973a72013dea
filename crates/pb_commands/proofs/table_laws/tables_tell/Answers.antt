use Rattle.pb_commands.proofs.TablesTell.{elected_told, missing_told, paid_told, payments_told}
use Rattle.pb_commands.proofs.table_laws.tables_tell.Goals as goal

pub returns : goal.returns
returns c = record {
  missing = λ x place is. missing_told x place is;
  payments = λ x is. payments_told x is;
  elected = λ x round w is. elected_told x round w is;
  paid = λ x is. paid_told x is;
}
