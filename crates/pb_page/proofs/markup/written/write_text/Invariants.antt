use Rattle.std.proofs.Common.{◌≡◌, ◌++◌, take}
use Rattle.pb_page.specs.Markup.{written}
use Rattle.pb_page.proofs.markup.written.write_text.Given as goal

abbrev pub invariant-loop-byte : goal.invariant-loop-byte
invariant-loop-byte l = l.page.items ≡ l.fn.page.items ++ written (take l.byte-index l.bytes)
