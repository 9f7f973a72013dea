-- Lists of numbers as text.
use Rattle.std.specs.Prelude.{ℕ, List, decimal, map}
use Rattle.std.specs.List.{join_with_byte}

-- places as text: each in decimal, with `,` between two
unfoldable pub places_text : List ℕ → List ℕ
places_text places = join_with_byte 44 (map decimal places)
