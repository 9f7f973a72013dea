use Rattle.pb_core.proofs.MoneyBack.{reads_back, spelled}
use Rattle.pb_core.proofs.laws.money_reads_back.Goals as goal

pub returns : goal.returns
returns c = record { back = reads_back; spelled = spelled }
