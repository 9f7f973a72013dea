use Rattle.pb_script.proofs.OpenToAll.{admits, form, only, refuses}
use Rattle.pb_script.proofs.laws.open_to_all_admits_all_rows.Goals as goal

pub returns-clause-admits : goal.returns-clause-admits
returns-clause-admits c = admits

pub returns-clause-only : goal.returns-clause-only
returns-clause-only c = only

pub returns-clause-refuses : goal.returns-clause-refuses
returns-clause-refuses c = refuses

pub returns-clause-form : goal.returns-clause-form
returns-clause-form c = form
