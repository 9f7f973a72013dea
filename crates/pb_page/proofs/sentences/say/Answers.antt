use Rattle.std.proofs.Common.{get_or, map}
use Rattle.std.proofs.lemmas.List.{get_or_default}
use Rattle.pb_page.specs.Inner.Value.{at_place, character_said}
use Rattle.pb_page.proofs.Grown.{none, row_more}
use Rattle.pb_page.proofs.sentences.say.Goals as goal

pub loop-byte-init : goal.loop-byte-init
loop-byte-init c = none c.args.page.now.items

pub loop-byte-preserved : goal.loop-byte-preserved
loop-byte-preserved c =
    let bytes = c.as_bytes-bytes.result.now in
    let i = c.loop-byte.byte-index in
    row_more (character_said (map (at_place c.args.language.now) c.args.places.now)) bytes i (get_or bytes i 0) _ _ _
    c.loop-byte-test.true (get_or_default bytes i 0 _ c.loop-byte-test.true) c.loop-byte.invariant c.in_ok-say_byte.ensures
