use Rattle.std.proofs.Common.{◌≡◌, ◌++◌, take, string_bytes}
use Rattle.pb_rows.specs.Numbers.{places_text}
use Rattle.pb_rows.proofs.places.write_places.Given as goal

abbrev pub invariant-loop-i : goal.invariant-loop-i
invariant-loop-i g l = string_bytes l.text ≡ string_bytes l.fn.text ++ places_text (take l.i l.places)
