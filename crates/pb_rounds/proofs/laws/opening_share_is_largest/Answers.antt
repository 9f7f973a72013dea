use Rattle.pb_rounds.proofs.Completing.{opening_exact, opening_largest, opening_of_nobody, opening_within}
use Rattle.pb_rounds.proofs.laws.opening_share_is_largest.Goals as goal

pub returns-clause-within : goal.returns-clause-within
returns-clause-within c = opening_within

pub returns-clause-largest : goal.returns-clause-largest
returns-clause-largest c = opening_largest

pub returns-clause-exactly : goal.returns-clause-exactly
returns-clause-exactly c = opening_exact

pub returns-clause-nobody : goal.returns-clause-nobody
returns-clause-nobody c = opening_of_nobody
