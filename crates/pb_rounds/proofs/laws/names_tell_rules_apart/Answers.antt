use Rattle.pb_rounds.proofs.NamesApart.{names_apart}
use Rattle.pb_rounds.proofs.laws.names_tell_rules_apart.Goals as goal

pub returns : goal.returns
returns c first second = names_apart first second
