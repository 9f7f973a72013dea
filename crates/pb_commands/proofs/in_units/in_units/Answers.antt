use Rattle.pb_commands.proofs.UnitTexts.{units_of_one}
use Rattle.pb_commands.proofs.in_units.in_units.Goals as goal

pub returns : goal.returns
returns c = rw (c.from.ensures, c.amount.view_is) (units_of_one c.args.count.now c.args.amount c.parts.result c.parts.ensures)
