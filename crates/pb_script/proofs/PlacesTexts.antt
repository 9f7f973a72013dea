-- Places as text are text.
use Rattle.std.proofs.Common.{ℕ, ◌<◌, ◌^◌, List, [], ◌∷◌, map, decimal, arith}
use Rattle.std.specs.List.{join_with_byte}
use Rattle.std.specs.Str.{IsAscii, IsUtf8}
use Rattle.std.proofs.lemmas.Fmt.{IsAscii-decimal}
use Rattle.std.proofs.lemmas.List.Elements.{All-head, All-tail}
use Rattle.std.proofs.lemmas.Str.{IsAscii-append, IsUtf8-from_ascii}
use Rattle.std.proofs.lemmas.Str.Ascii.{IsAscii-cons, IsAscii-nil}
use Rattle.csv.specs.Records.{AllText}
use Rattle.pb_rows.specs.Numbers.{places_text}
use Rattle.pb_rows.specs.Inner.Numbers.{AreNumbers}

places_ascii : (places : List ℕ) → AreNumbers places → IsAscii (join_with_byte 44 (map decimal places))
places_ascii [] are = IsAscii-nil
places_ascii (p ∷ []) are = IsAscii-decimal p (let fits = All-head (λ q. q < 2 ^ 32) p [] are in omega arith)
places_ascii (p ∷ q ∷ ps) are =
    IsAscii-append (decimal p) (44 ∷ join_with_byte 44 (map decimal (q ∷ ps))) (IsAscii-decimal p (let fits = All-head (λ q. q < 2 ^ 32) p (q ∷ ps) are in omega arith))
    (IsAscii-cons 44 (join_with_byte 44 (map decimal (q ∷ ps))) (omega arith) (places_ascii (q ∷ ps) (All-tail (λ q. q < 2 ^ 32) p (q ∷ ps) are)))

pub places_are_text : (places : List ℕ) → AreNumbers places → IsUtf8 (places_text places)
unfolding places_text
places_are_text places are = IsUtf8-from_ascii (join_with_byte 44 (map decimal places)) (places_ascii places are)

-- four fields are text with another text in the place of the last
pub four_text : (c w v p q : List ℕ) → AllText (c ∷ w ∷ v ∷ p ∷ []) → IsUtf8 q → AllText (c ∷ w ∷ v ∷ q ∷ [])
unfolding AllText
four_text c w v p q are is = (are.0, (are.1.0, (are.1.1.0, (is, are.1.1.1.1))))
