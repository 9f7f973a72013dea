use Rattle.pb_reasons.proofs.FairRows.{rows_are_fair}
use Rattle.pb_reasons.proofs.laws.rows_are_fair.Goals as goal

pub returns : goal.returns
returns c = rows_are_fair
