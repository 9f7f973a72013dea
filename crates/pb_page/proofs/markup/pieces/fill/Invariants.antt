use Rattle.std.proofs.Common.{◌≡◌, ◌++◌, drop, map}
use Rattle.pb_page.specs.Inner.Filling.{filled}
use Rattle.pb_page.specs.Inner.Value.{text_of}
use Rattle.pb_page.proofs.markup.pieces.fill.Given as goal

abbrev pub invariant-loop-byte : goal.invariant-loop-byte
invariant-loop-byte l =
    l.page.items ++ filled (drop l.byte-index l.bytes) (drop l.used (map (text_of l.words) l.values))
    ≡ l.fn.page.items ++ filled l.bytes (map (text_of l.words) l.values)
