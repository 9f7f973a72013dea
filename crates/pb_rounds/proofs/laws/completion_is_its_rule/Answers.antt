use Rattle.pb_rounds.proofs.RaisesEnd.{add1_completed, completed_is_decided, spent_is_undecided, undecided_is_spent}
use Rattle.pb_rounds.proofs.laws.completion_is_its_rule.Goals as goal

pub returns-clause-decided : goal.returns-clause-decided
returns-clause-decided c m grain e step limit raises h =
    (add1_completed m grain e h step limit raises, completed_is_decided m grain e step limit raises)

pub returns-clause-spent : goal.returns-clause-spent
returns-clause-spent c m grain e step limit h = (undecided_is_spent m grain e step limit h, spent_is_undecided m grain e step limit)
