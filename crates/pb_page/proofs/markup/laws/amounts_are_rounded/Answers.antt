use Rattle.pb_page.proofs.Rounding.{rounded_down, rounded_up}
use Rattle.pb_page.proofs.markup.laws.amounts_are_rounded.Goals as goal

pub returns-clause-up : goal.returns-clause-up
returns-clause-up c = rounded_up

pub returns-clause-down : goal.returns-clause-down
returns-clause-down c = rounded_down
