-- Characters as they stand in a page.
use Rattle.std.proofs.Common.{◌≡◌, ◌≢◌, ◌⊎◌, ℕ, ◌+◌, ◌%◌, ◌<◌, ◌≤◌, ◌^◌, Bool, false, [], ◌∷◌, ◌++◌, append-nil, decimal, refl, sym, ◌∙◌, inl, inr, arith}
use Rattle.std.specs.Prelude.{◌||◌, ◌==◌, All, codes}
use Rattle.std.proofs.lemmas.Bool.{both_ways, cases_Bool, cases_lt, eq-eqb, le-ltb, ne_eqb, or_parts, true≢false}
use Rattle.std.proofs.lemmas.Fmt.{decimal_by_steps}
use Rattle.std.proofs.lemmas.List.Elements.{All-append, All-cons, All-nil}
use Rattle.pb_page.specs.Markup.{character, is_delimiter, written}
use Rattle.pb_page.specs.Inner.Controls.{is_control}

abbrev pub is_special : ℕ → Bool
is_special c = (c == 38) || (is_delimiter c || is_control c)

abbrev pub is_mark : ℕ → Bool
is_mark c = is_delimiter c || is_control c

-- no character from 128 on is special
large_is_plain : (c : ℕ) → 128 ≤ c → is_special c ≡ false
large_is_plain c large =
    let and : c == 38 ≡ false = ne_eqb c 38 (λ e. absurd (omega arith)) in
    let less : c == 60 ≡ false = ne_eqb c 60 (λ e. absurd (omega arith)) in
    let more : c == 62 ≡ false = ne_eqb c 62 (λ e. absurd (omega arith)) in
    let quote : c == 34 ≡ false = ne_eqb c 34 (λ e. absurd (omega arith)) in
    let single : c == 39 ≡ false = ne_eqb c 39 (λ e. absurd (omega arith)) in
    let last : c == 127 ≡ false = ne_eqb c 127 (λ e. absurd (omega arith)) in
    rw (and, less, more, quote, single, last, le-ltb c 32 (omega arith)) refl

-- how a character is written: as it is, or by its number
pub data IsWritten (c : ℕ) : Type 0 where
  plain : is_special c ≡ false → character c ≡ c ∷ [] → IsWritten c
  numbered : c < 2 ^ 64 → character c ≡ 38 ∷ 35 ∷ (decimal c ++ 59 ∷ []) → IsWritten c

pub is_written : (c : ℕ) → IsWritten c
is_written c = elim (cases_Bool (is_special c)) [
  | inl special ↦ elim (cases_lt c 128) [
    | inl small ↦ numbered (omega arith) (rw special refl)
    | inr large ↦ absurd (both_ways (is_special c) (large_is_plain c large) special)
  ]
  | inr other ↦ plain other (rw other refl)
]

-- a digit is no mark
digit_plain : (d : ℕ) → d < 10 → is_mark (48 + d) ≡ false
digit_plain d small =
    let less : 48 + d == 60 ≡ false = ne_eqb (48 + d) 60 (λ e. absurd (omega arith)) in
    let more : 48 + d == 62 ≡ false = ne_eqb (48 + d) 62 (λ e. absurd (omega arith)) in
    let quote : 48 + d == 34 ≡ false = ne_eqb (48 + d) 34 (λ e. absurd (omega arith)) in
    let single : 48 + d == 39 ≡ false = ne_eqb (48 + d) 39 (λ e. absurd (omega arith)) in
    let last : 48 + d == 127 ≡ false = ne_eqb (48 + d) 127 (λ e. absurd (omega arith)) in
    rw (less, more, quote, single, last, le-ltb (48 + d) 32 (omega arith)) refl

digits_plain : (n : ℕ) → n < 2 ^ 64 → All (λ c. is_mark c ≡ false) (decimal n)
digits_plain =
    decimal_by_steps (λ _ ds. All (λ c. is_mark c ≡ false) ds)
    (λ n small. All-cons (λ c. is_mark c ≡ false) (48 + n) [] (digit_plain n small) (All-nil (λ c. is_mark c ≡ false)))
    (λ n ds _ before. All-append (λ c. is_mark c ≡ false) ds ((48 + n % 10) ∷ []) before
    (All-cons (λ c. is_mark c ≡ false) (48 + n % 10) [] (digit_plain (n % 10) (omega arith)) (All-nil (λ c. is_mark c ≡ false))))

-- a character as it is written has no mark
pub character_plain : (c : ℕ) → All (λ x. is_mark x ≡ false) (character c)
character_plain c =
    let P : ℕ → Type 0 = λ x. is_mark x ≡ false in
    elim (is_written c) [
      | plain other is ↦ rw is (All-cons P c [] (or_parts (c == 38) (is_mark c) other).1 (All-nil P))
      | numbered small is ↦
          rw is (All-cons P 38 (35 ∷ (decimal c ++ 59 ∷ [])) refl (All-cons P 35 (decimal c ++ 59 ∷ []) refl
          (All-append P (decimal c) (59 ∷ []) (digits_plain c small) (All-cons P 59 [] refl (All-nil P)))))
    ]

-- each character stands as itself, or as its number
pub each_stands : (c : ℕ) → ((c ≢ 38) × (written (c ∷ []) ≡ c ∷ [])) ⊎ (written (c ∷ []) ≡ codes "&#" ++ (decimal c ++ codes ";"))
each_stands c = elim (is_written c) [
  | plain other is ↦ inl (λ e. true≢false (sym (eq-eqb c 38 e) ∙ (or_parts (c == 38) (is_mark c) other).0), append-nil (character c) ∙ is)
  | numbered small is ↦ inr (append-nil (character c) ∙ is)
]

-- each that is none of these stands as itself
pub plain_stands : (c : ℕ) → 32 ≤ c → All (λ special. c ≢ special) (34 ∷ 38 ∷ 39 ∷ 60 ∷ 62 ∷ 127 ∷ []) → written (c ∷ []) ≡ c ∷ []
plain_stands c above others =
    let quote : c == 34 ≡ false = ne_eqb c 34 (others 0 0 (omega arith)) in
    let and : c == 38 ≡ false = ne_eqb c 38 (others 1 0 (omega arith)) in
    let single : c == 39 ≡ false = ne_eqb c 39 (others 2 0 (omega arith)) in
    let less : c == 60 ≡ false = ne_eqb c 60 (others 3 0 (omega arith)) in
    let more : c == 62 ≡ false = ne_eqb c 62 (others 4 0 (omega arith)) in
    let last : c == 127 ≡ false = ne_eqb c 127 (others 5 0 (omega arith)) in
    let none : is_special c ≡ false = rw (and, less, more, quote, single, last, le-ltb c 32 above) refl in
    let is : character c ≡ c ∷ [] = rw none refl in
    append-nil (character c) ∙ is
