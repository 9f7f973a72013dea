use Rattle.std.proofs.Common.{map}
use Rattle.pb_page.specs.Inner.Value.{text_of}
use Rattle.pb_page.proofs.Grown.{piece}
use Rattle.pb_page.proofs.put.put.Goals as goal

pub returns : goal.returns
returns c = piece c.args.piece.now (map (text_of c.args.language.now.words) c.args.values.now) _ _ c.in_ok-fill.ensures
