-- Trimming twice is trimming once.
use Rattle.std.proofs.Common.{◌≡◌, ℕ, Bool, true, false, ◌&&◌, ◌==◌, cond, List, [], ◌∷◌, length, refl, ap}
use Rattle.pb_core.proofs.Conditions.{left_of, right_of, both}
use Rattle.std.specs.Char.{is_whitespace}
use Rattle.std.specs.Prelude.{encode_utf8_all}
use Rattle.std.specs.Str.{IsUtf8, chars, skip_leading_whitespace, drop_trailing_whitespace, trim, trim_start, trim_end}
use Rattle.std.proofs.Math.Utf8.{scalar, scalars}
use Rattle.std.proofs.lemmas.Str.{scalars-chars, chars-encodes}

skip-scalars : (cs : List ℕ) → scalars cs ≡ true → scalars (skip_leading_whitespace cs) ≡ true
skip-scalars [] h = h
skip-scalars (c ∷ cs) h =
    elim (is_whitespace c) as (λ w. scalars (cond w (skip_leading_whitespace cs) (c ∷ cs)) ≡ true)
    [ true ↦ skip-scalars cs (right_of (scalar c) (scalars cs) h) | false ↦ h ]

drop-scalars : (cs : List ℕ) → scalars cs ≡ true → scalars (drop_trailing_whitespace cs) ≡ true
drop-scalars [] h = h
drop-scalars (c ∷ cs) h =
    elim (is_whitespace c && length (drop_trailing_whitespace cs) == 0) as (λ w. scalars (cond w [] (c ∷ drop_trailing_whitespace cs)) ≡ true) [
      | true ↦ refl
      | false ↦ both (scalar c) (scalars (drop_trailing_whitespace cs)) (left_of (scalar c) (scalars cs) h) (drop-scalars cs (right_of (scalar c) (scalars cs) h))
    ]

-- dropping white space from the end a second time changes nothing
drop-drop : (cs : List ℕ) → drop_trailing_whitespace (drop_trailing_whitespace cs) ≡ drop_trailing_whitespace cs
drop-drop [] = refl
drop-drop (c ∷ cs) =
    let rest : List ℕ = drop_trailing_whitespace cs in
    let stays : drop_trailing_whitespace rest ≡ rest = drop-drop cs in
    let again : (w : Bool) → (is_whitespace c && length rest == 0) ≡ w → drop_trailing_whitespace (cond w [] (c ∷ rest)) ≡ cond w [] (c ∷ rest) =
    λ w is. elim w as (λ v. (is_whitespace c && length rest == 0) ≡ v → drop_trailing_whitespace (cond v [] (c ∷ rest)) ≡ cond v [] (c ∷ rest)) [
      | true ↦ λ _. refl
      | false ↦ λ no_end. rw stays (rw no_end refl)
    ] is in
    again (is_whitespace c && length rest == 0) refl

-- what begins with no white space still does once white space is dropped from its end
skip-drop-skip : (cs : List ℕ) → skip_leading_whitespace (drop_trailing_whitespace (skip_leading_whitespace cs)) ≡ drop_trailing_whitespace (skip_leading_whitespace cs)
skip-drop-skip [] = refl
skip-drop-skip (c ∷ cs) =
    let by_first : (w : Bool) → is_whitespace c ≡ w →
    skip_leading_whitespace (drop_trailing_whitespace (cond w (skip_leading_whitespace cs) (c ∷ cs))) ≡ drop_trailing_whitespace (cond w (skip_leading_whitespace cs) (c ∷ cs)) =
    λ w is. elim w as (λ v. is_whitespace c ≡ v →
    skip_leading_whitespace (drop_trailing_whitespace (cond v (skip_leading_whitespace cs) (c ∷ cs))) ≡ drop_trailing_whitespace (cond v (skip_leading_whitespace cs) (c ∷ cs))) [
      | true ↦ λ _. skip-drop-skip cs
      | false ↦ λ is_no. rw is_no (rw is_no refl)
    ] is in
    by_first (is_whitespace c) refl

-- trimming a trimmed text changes nothing
pub trim-trim : (bs : List ℕ) → IsUtf8 bs → trim (trim bs) ≡ trim bs
unfolding trim_start trim_end
trim-trim bs is_text =
    let cs : List ℕ = chars bs in
    let a : List ℕ = skip_leading_whitespace cs in
    let b : List ℕ = drop_trailing_whitespace a in
    let a_scalars : scalars a ≡ true = skip-scalars cs (scalars-chars bs is_text) in
    let b_scalars : scalars b ≡ true = drop-scalars a a_scalars in
    let a_back : chars (encode_utf8_all a) ≡ a = chars-encodes a a_scalars in
    let b_back : chars (encode_utf8_all b) ≡ b = chars-encodes b b_scalars in
    let a_stays : skip_leading_whitespace b ≡ b = skip-drop-skip cs in
    let b_stays : drop_trailing_whitespace b ≡ b = drop-drop a in
    rw a_back (rw b_back (rw a_stays (rw b_back (ap encode_utf8_all b_stays))))
