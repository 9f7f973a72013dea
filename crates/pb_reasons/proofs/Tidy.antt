-- Digits have no white space at their ends, so trimming leaves them as they are.
use Rattle.std.proofs.Common.{Bool, ◌≡◌, ◌+◌, ◌<◌, ◌%◌, ◌^◌, ◌==◌, ◌&&◌, ℕ, zero, suc, true, false, cond, not, List, [], ◌∷◌, length, decimal, nat_lt, refl, ap, sym, ◌∙◌, arith}
use Rattle.std.specs.Char.{is_whitespace}
use Rattle.std.specs.List.{list_all}
use Rattle.std.specs.Prelude.{encode_utf8_all}
use Rattle.std.specs.Str.{IsAscii, IsUtf8, chars, skip_leading_whitespace, drop_trailing_whitespace, trim, trim_start, trim_end}
use Rattle.std.proofs.lemmas.Bool.{and_from, and_parts, false≢true}
use Rattle.std.proofs.lemmas.Bool.Decides.{nat_tests}
use Rattle.std.proofs.lemmas.Fmt.{decimal_by_steps}
use Rattle.std.proofs.lemmas.List.Folds.{list_all-append}
use Rattle.std.proofs.lemmas.Str.{chars-IsAscii, encodes-chars, IsUtf8-from_ascii}
use Rattle.std.proofs.lemmas.Str.Ascii.{IsAscii-cons, IsAscii-nil}

trim_same : (bs : List ℕ) → IsUtf8 bs → skip_leading_whitespace (chars bs) ≡ chars bs → drop_trailing_whitespace (chars bs) ≡ chars bs → trim bs ≡ bs
unfolding trim_start trim_end
trim_same bs text starts ends =
    let back : encode_utf8_all (chars bs) ≡ bs = encodes-chars bs text in
    rw starts (rw back (rw ends back))

-- a character of ASCII that is no white space
abbrev is_plain : ℕ → Bool
is_plain c = nat_lt c 128 && not (is_whitespace c)

skip-plain : (cs : List ℕ) → list_all is_plain cs ≡ true → skip_leading_whitespace cs ≡ cs
skip-plain [] are = refl
skip-plain (c ∷ cs) are =
    elim (is_whitespace c) as (λ w. not w ≡ true → cond w (skip_leading_whitespace cs) (c ∷ cs) ≡ c ∷ cs) [ true ↦ λ no_white. absurd (false≢true no_white) | false ↦ λ _. refl ]
    (and_parts (nat_lt c 128) (not (is_whitespace c)) (and_parts (is_plain c) (list_all is_plain cs) are).0).1

drop-plain : (cs : List ℕ) → list_all is_plain cs ≡ true → drop_trailing_whitespace cs ≡ cs
drop-plain [] are = refl
drop-plain (c ∷ cs) are =
    let parts = and_parts (is_plain c) (list_all is_plain cs) are in
    elim (is_whitespace c) as (λ w. not w ≡ true → cond (w && length (drop_trailing_whitespace cs) == 0) [] (c ∷ drop_trailing_whitespace cs) ≡ c ∷ cs) [
      | true ↦ λ no_white. absurd (false≢true no_white)
      | false ↦ λ _. ap (λ (t : List ℕ). c ∷ t) (drop-plain cs parts.1)
    ] (and_parts (nat_lt c 128) (not (is_whitespace c)) parts.0).1

ascii : (cs : List ℕ) → list_all is_plain cs ≡ true → IsAscii cs
ascii [] are = IsAscii-nil
ascii (c ∷ cs) are =
    let parts = and_parts (is_plain c) (list_all is_plain cs) are in
    let small = (and_parts (nat_lt c 128) (not (is_whitespace c)) parts.0).0 in
    IsAscii-cons c cs (grind (arith, nat_tests, small)) (ascii cs parts.1)

plain_text : (cs : List ℕ) → list_all is_plain cs ≡ true → IsUtf8 cs
plain_text cs are = IsUtf8-from_ascii cs (ascii cs are)

plain_tidy : (cs : List ℕ) → list_all is_plain cs ≡ true → trim cs ≡ cs
plain_tidy cs are =
    let same : chars cs ≡ cs = chars-IsAscii cs (ascii cs are) in
    trim_same cs (plain_text cs are) (ap skip_leading_whitespace same ∙ skip-plain cs are ∙ sym same) (ap drop_trailing_whitespace same ∙ drop-plain cs are ∙ sym same)

digit_plain : (d : ℕ) → d < 10 → is_plain (48 + d) ≡ true
digit_plain zero below = refl
digit_plain (suc zero) below = refl
digit_plain (suc (suc zero)) below = refl
digit_plain (suc (suc (suc zero))) below = refl
digit_plain (suc (suc (suc (suc zero)))) below = refl
digit_plain (suc (suc (suc (suc (suc zero))))) below = refl
digit_plain (suc (suc (suc (suc (suc (suc zero)))))) below = refl
digit_plain (suc (suc (suc (suc (suc (suc (suc zero))))))) below = refl
digit_plain (suc (suc (suc (suc (suc (suc (suc (suc zero)))))))) below = refl
digit_plain (suc (suc (suc (suc (suc (suc (suc (suc (suc zero))))))))) below = refl
digit_plain (suc (suc (suc (suc (suc (suc (suc (suc (suc (suc d)))))))))) below = absurd (omega (arith, below))

decimal_plain : (n : ℕ) → n < 2 ^ 64 → list_all is_plain (decimal n) ≡ true
decimal_plain =
    decimal_by_steps (λ n ds. list_all is_plain ds ≡ true)
    (λ n below. and_from _ true (digit_plain n below) refl)
    (λ n ds big all. list_all-append is_plain ds ((48 + n % 10) ∷ []) ∙ and_from _ _ all (and_from _ true (digit_plain (n % 10) (omega arith)) refl))

pub trim-decimal : (n : ℕ) → n < 2 ^ 64 → trim (decimal n) ≡ decimal n
trim-decimal n below = plain_tidy (decimal n) (decimal_plain n below)
