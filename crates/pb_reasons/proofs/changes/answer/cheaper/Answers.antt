use Rattle.pb_reasons.proofs.Searches.{served}
use Rattle.pb_reasons.proofs.changes.answer.cheaper.Goals as goal

pub row-requires-clause-in_range : goal.row-requires-clause-in_range
row-requires-clause-in_range g c κs within = served _ _ _ _ c.requires.lost.own
