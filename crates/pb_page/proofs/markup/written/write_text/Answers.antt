use Rattle.std.proofs.Common.{◌∙◌, ◌++◌, List, ℕ, ap, get_or, sym, take}
use Rattle.std.proofs.lemmas.List.{flat_map_more, take_more, take_all}
use Rattle.pb_page.specs.Markup.{character, written}
use Rattle.pb_page.proofs.markup.written.write_text.Goals as goal

pub loop-byte-preserved : goal.loop-byte-preserved
loop-byte-preserved c =
    let bytes = c.as_bytes-bytes.result.now in
    let i = c.loop-byte.byte-index in
    let byte = get_or bytes i 0 in
    let old = c.args.page.now.items in
    c.in_ok-write_byte.ensures
    ∙ ap (λ (l : List ℕ). l ++ character byte) c.loop-byte.invariant
    ∙ flat_map_more character old (take i bytes) byte
    ∙ ap (λ (l : List ℕ). old ++ written l) (sym (take_more bytes i 0 c.loop-byte-test.true))

pub returns : goal.returns
returns c =
    rw (take_all c.loop-byte.byte-index c.as_bytes-bytes.result.now c.loop-byte-test.false, c.as_bytes-bytes.ensures.value) at c.loop-byte.invariant
