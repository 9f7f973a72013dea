use Rattle.std.proofs.Common.{map, take}
use Rattle.std.specs.Prelude.{flat_map}
use Rattle.pb_page.specs.Inner.Grown.{Grows}
use Rattle.pb_page.specs.Inner.Value.{at_place, character_said}
use Rattle.pb_page.proofs.sentences.say.Given as goal

abbrev pub invariant-loop-byte : goal.invariant-loop-byte
invariant-loop-byte l = Grows l.fn.page.items l.page.items
    (flat_map (character_said (map (at_place l.language) l.places)) (take l.byte-index l.bytes))
