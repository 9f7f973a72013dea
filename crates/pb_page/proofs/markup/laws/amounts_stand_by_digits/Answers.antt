use Rattle.pb_page.proofs.Shown.{amounts_stand}
use Rattle.pb_page.proofs.markup.laws.amounts_stand_by_digits.Goals as goal

pub returns : goal.returns
returns c = amounts_stand
