use Rattle.pb_rows.proofs.OnlyThese.{ComeBack-only}
use Rattle.pb_rows.proofs.RoundTrip.{records_of-text_of_rows}
use Rattle.pb_rows.proofs.laws.rows_come_back.Goals as goal

pub returns-clause-back : goal.returns-clause-back
returns-clause-back c = records_of-text_of_rows

pub returns-clause-only : goal.returns-clause-only
returns-clause-only c = ComeBack-only
