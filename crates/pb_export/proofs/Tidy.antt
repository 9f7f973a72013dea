-- Texts without white space at their ends, which trimming leaves as they are.
use Rattle.std.proofs.Common.{◌≡◌, ◌<◌, ◌≤◌, ◌+◌, ◌/◌, ◌%◌, ◌^◌, ◌==◌, ◌&&◌, ℕ, zero, suc, Bool, true, false, cond, not, List, [], ◌∷◌, ◌++◌, length, codes, decimal, nat_lt, refl, ap, sym, ◌∙◌, arith, length-append}
use Rattle.std.specs.Char.{is_whitespace}
use Rattle.std.specs.List.{list_all}
use Rattle.std.specs.Prelude.{encode_utf8_all}
use Rattle.std.specs.Str.{IsAscii, IsUtf8, chars, skip_leading_whitespace, drop_trailing_whitespace, trim, trim_start, trim_end}
use Rattle.std.proofs.Math.Utf8.{scalar, scalars}
use Rattle.std.proofs.lemmas.Bool.{and_from, and_parts, and_right, cond-false, false≢true, ne_eqb}
use Rattle.std.proofs.lemmas.Bool.Decides.{nat_tests}
use Rattle.std.proofs.lemmas.Fmt.{decimal_by_steps}
use Rattle.std.proofs.lemmas.List.Folds.{list_all-append}
use Rattle.std.proofs.lemmas.Str.{chars-encodes, chars-IsAscii, chars_from_encodes, encodes-chars, scalars-chars, IsUtf8-from_ascii}
use Rattle.std.proofs.lemmas.Str.Ascii.{IsAscii-cons, IsAscii-nil}
use Rattle.pb_core.specs.MoneyText.{money_text}
use Rattle.pb_export.specs.FileRows.{amount_text}

length-skip : (cs : List ℕ) → length (skip_leading_whitespace cs) ≤ length cs
length-skip [] = omega arith
length-skip (c ∷ cs) =
    let rest = length-skip cs in
    elim (is_whitespace c) as (λ w. length (cond w (skip_leading_whitespace cs) (c ∷ cs)) ≤ suc (length cs)) [ true ↦ omega (arith, rest) | false ↦ omega arith ]

length-dropped : (cs : List ℕ) → length (drop_trailing_whitespace cs) ≤ length cs
length-dropped [] = omega arith
length-dropped (c ∷ cs) =
    let rest = length-dropped cs in
    elim (is_whitespace c && length (drop_trailing_whitespace cs) == 0) as (λ w. length (cond w [] (c ∷ drop_trailing_whitespace cs)) ≤ suc (length cs)) [
      | true ↦ omega arith
      | false ↦ omega (arith, rest)
    ]

-- where nothing was skipped by length, nothing was skipped
skip_same : (cs : List ℕ) → length (skip_leading_whitespace cs) ≡ length cs → skip_leading_whitespace cs ≡ cs
skip_same [] same = refl
skip_same (c ∷ cs) same =
    let rest = length-skip cs in
    elim (is_whitespace c) as (λ w. length (cond w (skip_leading_whitespace cs) (c ∷ cs)) ≡ suc (length cs) → cond w (skip_leading_whitespace cs) (c ∷ cs) ≡ c ∷ cs) [
      | true ↦ λ long. absurd (omega (arith, rest, long))
      | false ↦ λ long. refl
    ] same

skip-scalars : (cs : List ℕ) → scalars cs ≡ true → scalars (skip_leading_whitespace cs) ≡ true
skip-scalars [] are = are
skip-scalars (c ∷ cs) are =
    elim (is_whitespace c) as (λ w. scalars (cond w (skip_leading_whitespace cs) (c ∷ cs)) ≡ true) [ true ↦ skip-scalars cs (and_parts (scalar c) (scalars cs) are).1 | false ↦ are ]

-- a text whose characters neither begin nor end with white space is tidy, and the other way round
pub trim_same : (bs : List ℕ) → IsUtf8 bs → skip_leading_whitespace (chars bs) ≡ chars bs → drop_trailing_whitespace (chars bs) ≡ chars bs → trim bs ≡ bs
unfolding trim_start trim_end
trim_same bs text starts ends =
    let back : encode_utf8_all (chars bs) ≡ bs = encodes-chars bs text in
    rw starts (rw back (rw ends back))

pub same_trim : (bs : List ℕ) → IsUtf8 bs → trim bs ≡ bs → (skip_leading_whitespace (chars bs) ≡ chars bs) × (drop_trailing_whitespace (chars bs) ≡ chars bs)
unfolding trim_start trim_end
same_trim bs text tidy =
    let cs : List ℕ = chars bs in
    let a : List ℕ = skip_leading_whitespace cs in
    let a_back : chars (encode_utf8_all a) ≡ a = chars-encodes a (skip-scalars cs (scalars-chars bs text)) in
    let shown : drop_trailing_whitespace (chars (encode_utf8_all a)) ≡ cs = chars_from_encodes (drop_trailing_whitespace (chars (encode_utf8_all a))) bs text tidy in
    let dropped : drop_trailing_whitespace a ≡ cs = ap drop_trailing_whitespace (sym a_back) ∙ shown in
    let long : length a ≡ length cs = omega (arith, length-skip cs, length-dropped a, ap length dropped) in
    let starts : a ≡ cs = skip_same cs long in
    (starts, ap drop_trailing_whitespace (sym starts) ∙ dropped)

-- what begins with no white space still does with more after it, and what ends with none with more before it
pub skip-append : (xs ys : List ℕ) → 0 < length xs → skip_leading_whitespace xs ≡ xs → skip_leading_whitespace (xs ++ ys) ≡ xs ++ ys
skip-append [] ys some starts = absurd (omega (arith, some))
skip-append (c ∷ xs) ys some starts =
    let rest = length-skip xs in
    elim (is_whitespace c) as (λ w. cond w (skip_leading_whitespace xs) (c ∷ xs) ≡ c ∷ xs → cond w (skip_leading_whitespace (xs ++ ys)) (c ∷ (xs ++ ys)) ≡ c ∷ (xs ++ ys)) [
      | true ↦ λ same. absurd (omega (arith, rest, ap length same))
      | false ↦ λ same. refl
    ] starts

pub drop-append : (xs ys : List ℕ) → 0 < length ys → drop_trailing_whitespace ys ≡ ys → drop_trailing_whitespace (xs ++ ys) ≡ xs ++ ys
drop-append [] ys some ends = ends
drop-append (c ∷ xs) ys some ends =
    let rest : drop_trailing_whitespace (xs ++ ys) ≡ xs ++ ys = drop-append xs ys some ends in
    let stays : (length (xs ++ ys) == 0) ≡ false = ne_eqb (length (xs ++ ys)) 0 (λ none. absurd (omega (arith, none, length-append xs ys, some))) in
    let goes_on : (is_whitespace c && length (drop_trailing_whitespace (xs ++ ys)) == 0) ≡ false = and_right (is_whitespace c) _ (ap (λ (t : List ℕ). length t == 0) rest ∙ stays) in
    cond-false _ [] (c ∷ drop_trailing_whitespace (xs ++ ys)) goes_on ∙ ap (λ (t : List ℕ). c ∷ t) rest

-- a character of ASCII that is no white space
abbrev pub is_plain : ℕ → Bool
is_plain c = nat_lt c 128 && not (is_whitespace c)

skip-plain : (cs : List ℕ) → list_all is_plain cs ≡ true → skip_leading_whitespace cs ≡ cs
skip-plain [] are = refl
skip-plain (c ∷ cs) are =
    elim (is_whitespace c) as (λ w. not w ≡ true → cond w (skip_leading_whitespace cs) (c ∷ cs) ≡ c ∷ cs) [ true ↦ λ no_white. absurd (false≢true no_white) | false ↦ λ _. refl ]
    (and_parts (nat_lt c 128) (not (is_whitespace c)) (and_parts (is_plain c) (list_all is_plain cs) are).0).1

drop-plain : (cs : List ℕ) → list_all is_plain cs ≡ true → drop_trailing_whitespace cs ≡ cs
drop-plain [] are = refl
drop-plain (c ∷ cs) are =
    let parts = and_parts (is_plain c) (list_all is_plain cs) are in
    elim (is_whitespace c) as (λ w. not w ≡ true → cond (w && length (drop_trailing_whitespace cs) == 0) [] (c ∷ drop_trailing_whitespace cs) ≡ c ∷ cs) [
      | true ↦ λ no_white. absurd (false≢true no_white)
      | false ↦ λ _. ap (λ (t : List ℕ). c ∷ t) (drop-plain cs parts.1)
    ] (and_parts (nat_lt c 128) (not (is_whitespace c)) parts.0).1

ascii : (cs : List ℕ) → list_all is_plain cs ≡ true → IsAscii cs
ascii [] are = IsAscii-nil
ascii (c ∷ cs) are =
    let parts = and_parts (is_plain c) (list_all is_plain cs) are in
    let small = (and_parts (nat_lt c 128) (not (is_whitespace c)) parts.0).0 in
    IsAscii-cons c cs (grind (arith, nat_tests, small)) (ascii cs parts.1)

pub plain_text : (cs : List ℕ) → list_all is_plain cs ≡ true → IsUtf8 cs
plain_text cs are = IsUtf8-from_ascii cs (ascii cs are)

pub plain_tidy : (cs : List ℕ) → list_all is_plain cs ≡ true → trim cs ≡ cs
plain_tidy cs are =
    let same : chars cs ≡ cs = chars-IsAscii cs (ascii cs are) in
    trim_same cs (plain_text cs are) (ap skip_leading_whitespace same ∙ skip-plain cs are ∙ sym same) (ap drop_trailing_whitespace same ∙ drop-plain cs are ∙ sym same)

digit_plain : (d : ℕ) → d < 10 → is_plain (48 + d) ≡ true
digit_plain zero below = refl
digit_plain (suc zero) below = refl
digit_plain (suc (suc zero)) below = refl
digit_plain (suc (suc (suc zero))) below = refl
digit_plain (suc (suc (suc (suc zero)))) below = refl
digit_plain (suc (suc (suc (suc (suc zero))))) below = refl
digit_plain (suc (suc (suc (suc (suc (suc zero)))))) below = refl
digit_plain (suc (suc (suc (suc (suc (suc (suc zero))))))) below = refl
digit_plain (suc (suc (suc (suc (suc (suc (suc (suc zero)))))))) below = refl
digit_plain (suc (suc (suc (suc (suc (suc (suc (suc (suc zero))))))))) below = refl
digit_plain (suc (suc (suc (suc (suc (suc (suc (suc (suc (suc d)))))))))) below = absurd (omega (arith, below))

pub decimal_plain : (n : ℕ) → n < 2 ^ 64 → list_all is_plain (decimal n) ≡ true
decimal_plain =
    decimal_by_steps (λ n ds. list_all is_plain ds ≡ true)
    (λ n below. and_from _ true (digit_plain n below) refl)
    (λ n ds big all. list_all-append is_plain ds ((48 + n % 10) ∷ []) ∙ and_from _ _ all (and_from _ true (digit_plain (n % 10) (omega arith)) refl))

pub money_plain : (h : ℕ) → h < 2 ^ 64 → list_all is_plain (money_text h) ≡ true
money_plain h small =
    let whole = decimal_plain (h / 100) (omega arith) in
    let tenths = digit_plain (h / 10 % 10) (omega arith) in
    let hundredths = digit_plain (h % 10) (omega arith) in
    list_all-append is_plain (decimal (h / 100) ++ codes ".") ((48 + h / 10 % 10) ∷ (48 + h % 10) ∷ [])
    ∙ and_from _ _ (list_all-append is_plain (decimal (h / 100)) (codes ".") ∙ and_from _ true whole refl) (and_from _ _ tenths (and_from _ true hundredths refl))

pub amount_plain : (h : ℕ) → h < 2 ^ 64 → list_all is_plain (amount_text h) ≡ true
amount_plain h small =
    elim (h % 100 == 0) as (λ b. list_all is_plain (cond b (decimal (h / 100)) (money_text h)) ≡ true) [
      | true ↦ decimal_plain (h / 100) (omega (arith, small))
      | false ↦ money_plain h small
    ]
