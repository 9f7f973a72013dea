use Rattle.pb_read.proofs.Checks.{accepted_listed, listed_first}
use Rattle.pb_read.proofs.laws.first_listed.Goals as goal

pub returns-clause-first : goal.returns-clause-first
returns-clause-first c = listed_first

pub returns-clause-accepts : goal.returns-clause-accepts
returns-clause-accepts c = accepted_listed
