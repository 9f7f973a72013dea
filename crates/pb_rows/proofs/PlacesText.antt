-- The texts that spell lists of places.
use Rattle.std.proofs.Common.{◌≡◌, ◌≢◌, ◌∙◌, ◌+◌, ◌<◌, ◌^◌, ◌++◌, ℕ, zero, suc, List, [], ◌∷◌, length, get_or, map, take, decimal, false, true, refl, sym, ap, arith, append_assoc, length-append}
use Rattle.std.specs.Prelude.{All, ◌==◌}
use Rattle.std.specs.List.{join_with_byte, slice_split}
use Rattle.std.proofs.lemmas.Bool.{eqb-true, ne_eqb}
use Rattle.std.proofs.lemmas.List.{get_or-map, length-map, take_more}
use Rattle.std.proofs.lemmas.Fmt.{decimal_injective, decimal_is_IsNumeral, decimal_nonempty}
use Rattle.std.proofs.lemmas.List.Elements.{All-from_get_or}
use Rattle.std.proofs.lemmas.List.Splits.{join_with_byte-slice_split, slice_split_at, slice_split_none}
use Rattle.std.proofs.lemmas.Str.Parse.{not_in_digits}
use Rattle.pb_rows.proofs.NumberFacts.{own}
use Rattle.pb_rows.specs.Numbers.{places_text}
use Rattle.pb_rows.specs.Inner.Numbers.{AreNumbers}

-- all but the first
rest_are : (p : ℕ) (ps : List ℕ) → AreNumbers (p ∷ ps) → AreNumbers ps
rest_are p ps are = λ k d within. are (suc k) d (omega arith)

first_is : (p : ℕ) (ps : List ℕ) → AreNumbers (p ∷ ps) → p < 2 ^ 64
first_is p ps are =
    let small : p < 2 ^ 32 = are 0 0 (omega arith) in
    omega arith

-- no number has a comma in it
no_comma : (n : ℕ) → n < 2 ^ 64 → All (λ b. (b == 44) ≡ false) (decimal n)
no_comma n small =
    All-from_get_or (λ b. (b == 44) ≡ false) (decimal n) 0 (λ i within. ne_eqb _ 44
    (not_in_digits own (decimal n) 44 (decimal_is_IsNumeral n small).0.1 (λ r. absurd (omega (arith, r.0))) i within))

-- the text of some places, cut at its commas
pub places_text-split : (p : ℕ) (ps : List ℕ) → AreNumbers (p ∷ ps) → slice_split (λ b. b == 44) (places_text (p ∷ ps)) ≡ map decimal (p ∷ ps)
unfolding places_text
places_text-split p [] are = slice_split_none (λ b. b == 44) (decimal p) (no_comma p (first_is p [] are))
places_text-split p (q ∷ qs) are =
    slice_split_at (λ b. b == 44) (decimal p) 44 (places_text (q ∷ qs)) (no_comma p (first_is p (q ∷ qs) are)) refl
    ∙ ap (λ (t : List (List ℕ)). decimal p ∷ t) (places_text-split q qs (rest_are p (q ∷ qs) are))

-- some places have some text
pub places_text-some : (p : ℕ) (ps : List ℕ) → AreNumbers (p ∷ ps) → 0 < length (places_text (p ∷ ps))
unfolding places_text
places_text-some p [] are = decimal_nonempty p (first_is p [] are)
places_text-some p (q ∷ qs) are =
    omega (arith, decimal_nonempty p (first_is p (q ∷ qs) are), length-append (decimal p) (44 ∷ join_with_byte 44 (map decimal (q ∷ qs))))

-- two lists of numbers that are spelled alike
map_decimal-injective : (ps qs : List ℕ) → AreNumbers ps → AreNumbers qs → map decimal ps ≡ map decimal qs → ps ≡ qs
map_decimal-injective [] [] are are' same = refl
map_decimal-injective [] (q ∷ qs) are are' same = cc same
map_decimal-injective (p ∷ ps) [] are are' same = cc same
map_decimal-injective (p ∷ ps) (q ∷ qs) are are' same =
    let first = decimal_injective p q (first_is p ps are) (first_is q qs are') (cc same) in
    let rest = map_decimal-injective ps qs (rest_are p ps are) (rest_are q qs are') (cc same) in
    cc

-- a text spells one list of places
pub places_text-injective : (ps qs : List ℕ) → AreNumbers ps → AreNumbers qs → places_text ps ≡ places_text qs → ps ≡ qs
unfolding places_text
places_text-injective [] [] are are' same = refl
places_text-injective [] (q ∷ qs) are are' same = absurd (omega (arith, places_text-some q qs are', ap length same))
places_text-injective (p ∷ ps) [] are are' same = absurd (omega (arith, places_text-some p ps are, ap length same))
places_text-injective (p ∷ ps) (q ∷ qs) are are' same =
    map_decimal-injective (p ∷ ps) (q ∷ qs) are are'
    (sym (places_text-split p ps are) ∙ ap (slice_split (λ b. b == 44)) same ∙ places_text-split q qs are')

-- an empty text is the text of no places
pub places_text-empty : (text : List ℕ) → true ≡ (length text == 0) → text ≡ places_text []
unfolding places_text
places_text-empty [] empty = refl
places_text-empty (b ∷ bs) empty = absurd (omega (arith, eqb-true (suc (length bs)) 0 (sym empty)))

-- pieces of a text that are numbers, one after the other, are all its places
pub places_text-join : (text places : List ℕ) → map decimal places ≡ slice_split (λ b. b == 44) text → text ≡ places_text places
unfolding places_text
places_text-join text places pieces = rw pieces (sym (join_with_byte-slice_split 44 text))

-- where one piece of a text is no number, the text is no list of places
pub places_text-broken : (text piece : List ℕ) (k : ℕ) → false ≡ (length text == 0)
    → (k < length (slice_split (λ b. b == 44) text)) × (piece ≡ get_or (slice_split (λ b. b == 44) text) k piece)
    → ((number : ℕ) → number < 2 ^ 32 → piece ≢ decimal number)
    → (list : List ℕ) → AreNumbers list → text ≢ places_text list
unfolding places_text
places_text-broken text piece k some at none [] are same = empty_is_nothing (rw same at some)
  where
    empty_is_nothing : false ≡ (length (places_text []) == 0) → ⊥
    empty_is_nothing h = cc h
places_text-broken text piece k some at none (p ∷ ps) are same =
    let cut : slice_split (λ b. b == 44) text ≡ map decimal (p ∷ ps) = rw same (places_text-split p ps are) in
    let here = rw cut at at in
    let size = length-map (p ∷ ps) decimal in
    let within : k < length (p ∷ ps) = omega (arith, here.0) in
    none (get_or (p ∷ ps) k 0) (are k 0 within) (here.1 ∙ get_or-map decimal (p ∷ ps) k 0 piece within)

-- one more place after some
places_text-snoc : (p : ℕ) (ps : List ℕ) (q : ℕ) → places_text ((p ∷ ps) ++ q ∷ []) ≡ (places_text (p ∷ ps) ++ 44 ∷ []) ++ decimal q
unfolding places_text
places_text-snoc p [] q = sym (append_assoc (decimal p) (44 ∷ []) (decimal q))
places_text-snoc p (r ∷ rs) q =
    let rest = join_with_byte 44 (map decimal (r ∷ rs)) in
    rw (places_text-snoc r rs q) (sym (append_assoc (decimal p ++ (44 ∷ rest)) (44 ∷ []) (decimal q) ∙ append_assoc (decimal p) (44 ∷ rest) ((44 ∷ []) ++ decimal q)
    ∙ ap (λ (t : List ℕ). decimal p ++ (44 ∷ t)) (sym (append_assoc rest (44 ∷ []) (decimal q)))))

-- the first place
pub places_text-first : (places : List ℕ) (i : ℕ) → i ≡ 0 → i < length places → places_text (take (i + 1) places) ≡ places_text (take i places) ++ decimal (get_or places i 0)
unfolding places_text
places_text-first [] i first within = absurd (omega arith)
places_text-first (p ∷ ps) zero first within = refl
places_text-first (p ∷ ps) (suc i) first within = cc first

-- a place after the first
pub places_text-next : (places : List ℕ) (i : ℕ) → 0 < i → i < length places
    → places_text (take (i + 1) places) ≡ (places_text (take i places) ++ 44 ∷ []) ++ decimal (get_or places i 0)
places_text-next [] i later within = absurd (omega arith)
places_text-next (p ∷ ps) zero later within = absurd (omega arith)
places_text-next (p ∷ ps) (suc i) later within =
    let inside : i < length ps = omega arith in
    let more : suc i + 1 ≡ suc (i + 1) = omega arith in
    rw (more, take_more ps i 0 inside) (places_text-snoc p (take i ps) (get_or ps i 0))
