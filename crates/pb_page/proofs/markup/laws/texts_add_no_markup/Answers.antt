use Rattle.pb_page.proofs.Delimiters.{texts_add_none}
use Rattle.pb_page.proofs.markup.laws.texts_add_no_markup.Goals as goal

pub returns : goal.returns
returns c = texts_add_none
