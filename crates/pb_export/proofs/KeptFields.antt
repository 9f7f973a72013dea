-- The fields of a record that are kept.
use Rattle.std.proofs.Common.{◌≡◌, ◌<◌, ◌≤◌, ◌+◌, ◌++◌, ℕ, zero, suc, List, [], ◌∷◌, append_assoc, drop, get_or, length, Option, refl, ap, sym, ◌∙◌, arith}
use Rattle.std.specs.Prelude.{option_map, unwrap_or}
use Rattle.std.specs.Str.{IsUtf8, trim}
use Rattle.std.proofs.lemmas.Bool.{le-ltb, lt-ltb}
use Rattle.std.proofs.lemmas.List.{drop_more}
use Rattle.std.proofs.lemmas.Str.{IsUtf8-nil}
use Rattle.csv.specs.Records.{AllText, field_at}
use Rattle.pb_read.specs.Rows.{field}
use Rattle.pb_rows.specs.Reading.{Fields}
use Rattle.pb_export.specs.Inner.Carried.{texts_at}

-- what csv has at a place
there : (row : Fields) (place : ℕ) → unwrap_or (field_at row place) [] ≡ field row place
unfolding field_at
there [] place = refl
there (x ∷ row) zero = refl
there (x ∷ row) (suc place) = there row place

pub field_there : {A : Type 0} (f : A → List ℕ) (got : Option A) (row : Fields) (place : ℕ) → option_map f got ≡ field_at row place → unwrap_or (option_map f got) [] ≡ field row place
field_there f got row place is = ap (λ (t : Option (List ℕ)). unwrap_or t []) is ∙ there row place

pub field_is_text : (row : Fields) (place : ℕ) → AllText row → place < length row → IsUtf8 (field row place)
unfolding AllText
field_is_text [] place are within = absurd (omega (arith, within))
field_is_text (x ∷ row) zero are within = are.0
field_is_text (x ∷ row) (suc place) are within = field_is_text row place are.1 (omega (arith, within))

-- also where the record does not have it
pub field_is_utf8 : (row : Fields) (place : ℕ) → AllText row → IsUtf8 (field row place)
unfolding AllText
field_is_utf8 [] place are = IsUtf8-nil
field_is_utf8 (x ∷ row) zero are = are.0
field_is_utf8 (x ∷ row) (suc place) are = field_is_utf8 row place are.1

module _ (row : Fields) (places : List ℕ) (i place : ℕ) (more : i < length places) (is : place ≡ get_or places i 0) (kept : Fields)
    (so_far : kept ++ texts_at row (drop i places) ≡ texts_at row places) where
  left : texts_at row (drop i places) ≡ texts_at row (place ∷ drop (i + 1) places)
  left = ap (texts_at row) (drop_more places i 0 more ∙ ap (λ (p : ℕ). p ∷ drop (i + 1) places) (sym is))

  -- one field more
  pub kept_more : (new : Fields) → new ≡ kept ++ trim (field row place) ∷ [] → place < length row → new ++ texts_at row (drop (i + 1) places) ≡ texts_at row places
  kept_more new new_is within =
      let rest = texts_at row (drop (i + 1) places) in
      let here : texts_at row (drop i places) ≡ trim (field row place) ∷ rest = left ∙ rw (lt-ltb place (length row) within) refl in
      ap (λ (t : Fields). t ++ rest) new_is ∙ append_assoc kept (trim (field row place) ∷ []) rest ∙ sym (ap (λ (t : Fields). kept ++ t) here) ∙ so_far

  -- a field that the record does not have
  pub kept_same : length row ≤ place → kept ++ texts_at row (drop (i + 1) places) ≡ texts_at row places
  kept_same past =
      let rest = texts_at row (drop (i + 1) places) in
      let here : texts_at row (drop i places) ≡ rest = left ∙ rw (le-ltb place (length row) past) refl in
      sym (ap (λ (t : Fields). kept ++ t) here) ∙ so_far
