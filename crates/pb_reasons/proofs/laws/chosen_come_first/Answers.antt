use Rattle.pb_reasons.proofs.ChosenFirst.{chosen_come_first}
use Rattle.pb_reasons.proofs.laws.chosen_come_first.Goals as goal

pub returns : goal.returns
returns c = chosen_come_first
