use Rattle.std.proofs.Common.{lit<, rules}
use Rattle.std.proofs.lemmas.Iterator.Search.{position_from_yields_List}
use Rattle.std.proofs.lemmas.Iterator.Splits.{YieldsList-from_str_split}
use Rattle.pb_read.specs.Inner.Ids.{is_unknown}
use Rattle.pb_read.proofs.blame.unknown_piece.Goals as goal

pub returns : goal.returns
returns c =
    position_from_yields_List (is_unknown c.args.known.now) _ _ c.position.result c.position.ensures.ran (YieldsList-from_str_split 44 c.args.vote.now (lit< tt) c.split.ensures.text c.split.ensures.has_more c.split.ensures.pattern) (λ x b q called. search rules)
