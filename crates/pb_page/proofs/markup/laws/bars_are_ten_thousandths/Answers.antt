use Rattle.pb_page.proofs.Rounding.{wide}
use Rattle.pb_page.proofs.markup.laws.bars_are_ten_thousandths.Goals as goal

pub returns : goal.returns
returns c = wide
