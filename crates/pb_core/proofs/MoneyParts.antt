-- A money text is its parts: digits, and perhaps a mark and digits.
use Rattle.std.proofs.Common.{◌≡◌, ◌⊎◌, ◌∙◌, ℕ, ◌+◌, ◌<◌, true, false, ◌&&◌, ◌==◌, not, List, [], ◌∷◌, ◌++◌, length, length-drop, take, get_or, refl, subst, sym, ap, inl, inr, arith, add-one, rules}
use Rattle.std.proofs.Math.Seq.{drop-append-add, drop-cons, take-append_seam}
use Rattle.std.proofs.lemmas.List.{drop_all, take-append-drop, take_all}
use Rattle.std.proofs.lemmas.Bool.{eqb-true}
use Rattle.std.proofs.lemmas.Bool.Decides.{nat_tests}
use Rattle.std.proofs.lemmas.List.Sums.{passes_at_first}
use Rattle.std.specs.Char.{is_ascii_digit, digit_value}
use Rattle.std.specs.List.{list_all, position_or_len}
use Rattle.std.specs.Str.Parse.{AllDigits, IsNumeral}
use Rattle.pb_core.proofs.Conditions.{both, left_of, or_left, or_right, or_true, right_of}
use Rattle.pb_core.specs.MoneyText.{is_number, is_mark, whole_part, fraction, has_money_form, IsMoneyText}

digit-below : (c : ℕ) → is_ascii_digit c ≡ true → digit_value c < 10
digit-below c is = search (rules, arith)

digit-shown : (c : ℕ) → digit_value c < 10 → is_ascii_digit c ≡ true
digit-shown c below = grind (arith, nat_tests)

-- digits, by a test and by what each is worth
pub AllDigits-of : (ds : List ℕ) → list_all is_ascii_digit ds ≡ true → AllDigits 10 ds
AllDigits-of [] all = tt
AllDigits-of (c ∷ ds) all =
    (digit-below c (left_of (is_ascii_digit c) (list_all is_ascii_digit ds) all), AllDigits-of ds (right_of (is_ascii_digit c) (list_all is_ascii_digit ds) all))

pub list_all-of : (ds : List ℕ) → AllDigits 10 ds → list_all is_ascii_digit ds ≡ true
list_all-of [] all = refl
list_all-of (c ∷ ds) all = both (is_ascii_digit c) (list_all is_ascii_digit ds) (digit-shown c all.0) (list_all-of ds all.1)

pub is_number-of : (ds : List ℕ) → 0 < length ds → list_all is_ascii_digit ds ≡ true → is_number ds ≡ true
is_number-of ds some all = search rules

pub is_number-numeral : (ds : List ℕ) → IsNumeral 10 ds → is_number ds ≡ true
is_number-numeral ds is = is_number-of ds is.0 (list_all-of ds is.1)

pub numeral-is_number : (ds : List ℕ) → is_number ds ≡ true → IsNumeral 10 ds
numeral-is_number [] is = cc is
numeral-is_number (c ∷ ds) is = (omega arith, AllDigits-of (c ∷ ds) (right_of (not (length (c ∷ ds) == 0)) (list_all is_ascii_digit (c ∷ ds)) is))

no_mark : (c : ℕ) → is_ascii_digit c ≡ true → is_mark c ≡ false
no_mark c is_digit = search (rules, arith)

-- the first mark stands after the digits
pub first_mark : (ds : List ℕ) (mark : ℕ) (rest : List ℕ) → is_mark mark ≡ true → list_all is_ascii_digit ds ≡ true → position_or_len is_mark (ds ++ mark ∷ rest) ≡ length ds
first_mark [] mark rest is all = rw is refl
first_mark (c ∷ ds) mark rest is all =
    let goes_on : is_mark c ≡ false = no_mark c (left_of (is_ascii_digit c) (list_all is_ascii_digit ds) all) in
    rw goes_on (rw (first_mark ds mark rest is (right_of (is_ascii_digit c) (list_all is_ascii_digit ds) all)) (omega arith))

no_first_mark : (ds : List ℕ) → list_all is_ascii_digit ds ≡ true → position_or_len is_mark ds ≡ length ds
no_first_mark [] all = refl
no_first_mark (c ∷ ds) all =
    let goes_on : is_mark c ≡ false = no_mark c (left_of (is_ascii_digit c) (list_all is_ascii_digit ds) all) in
    rw goes_on (rw (no_first_mark ds (right_of (is_ascii_digit c) (list_all is_ascii_digit ds) all)) (omega arith))

-- what the reader's words make of a text, where its parts are these
pub record Read (text whole decimals : List ℕ) : Type 0 where
  pub form : has_money_form text ≡ true
  pub whole_is : whole_part text ≡ whole
  pub decimals_is : fraction text ≡ decimals

read_marked : (text whole decimals : List ℕ) (mark : ℕ) → is_mark mark ≡ true → IsNumeral 10 whole → IsNumeral 10 decimals → text ≡ whole ++ mark ∷ decimals → Read text whole decimals
read_marked text whole decimals mark is w d same =
    let at : position_or_len is_mark (whole ++ mark ∷ decimals) ≡ length whole = first_mark whole mark decimals is (list_all-of whole w.1) in
    let whole_is : whole_part text ≡ whole = rw (same, at) (take-append_seam whole (mark ∷ decimals)) in
    let decimals_is : fraction text ≡ decimals = rw (same, at) (drop-append-add whole (mark ∷ decimals) 1) in
    record {
      form = or_right (is_number text) (is_number (whole_part text) && is_number (fraction text)) (both (is_number (whole_part text)) (is_number (fraction text)) (rw whole_is (is_number-numeral whole w)) (rw decimals_is (is_number-numeral decimals d)));
      whole_is = whole_is;
      decimals_is = decimals_is;
    }

pub read_parts : (text whole decimals : List ℕ) → IsMoneyText text whole decimals → Read text whole decimals
read_parts text whole decimals (w, inl (same, none)) =
    let at : position_or_len is_mark whole ≡ length whole = no_first_mark whole (list_all-of whole w.1) in
    record {
      form = or_left (is_number text) (is_number (whole_part text) && is_number (fraction text)) (rw same (is_number-numeral whole w));
      whole_is = rw (same, at) (take_all (length whole) whole (omega arith));
      decimals_is = rw (same, at, none) (drop_all (length whole + 1) whole (omega arith));
    }
read_parts text whole decimals (w, inr (d, inl same)) = read_marked text whole decimals 46 refl w d same
read_parts text whole decimals (w, inr (d, inr same)) = read_marked text whole decimals 44 refl w d same

-- a text with a mark, cut there
at_mark : (text : List ℕ) → position_or_len is_mark text < length text → (mark : ℕ) × (is_mark mark ≡ true) × (text ≡ whole_part text ++ mark ∷ fraction text)
at_mark text within =
    let p = position_or_len is_mark text in
    (get_or text p 0, passes_at_first is_mark text 0 within, sym (take-append-drop p text) ∙ ap (λ (t : List ℕ). take p text ++ t) (rw add-one (drop-cons text p 0 within)))

some_decimals : (text : List ℕ) → 0 < length (fraction text) → position_or_len is_mark text < length text
some_decimals text some = omega (arith, length-drop (position_or_len is_mark text + 1) text)

is_point_or_comma : (mark : ℕ) → is_mark mark ≡ true → (mark ≡ 46) ⊎ (mark ≡ 44)
is_point_or_comma mark is = elim (or_true (mark == 46) (mark == 44) is) [ inl point ↦ inl (eqb-true mark 46 point) | inr comma ↦ inr (eqb-true mark 44 comma) ]

marked : (text : List ℕ) → IsNumeral 10 (whole_part text) → IsNumeral 10 (fraction text) → IsMoneyText text (whole_part text) (fraction text)
marked text w d =
    let cut = at_mark text (some_decimals text d.0) in (
      w,
      inr (
        d,
        elim (is_point_or_comma cut.0 cut.1) [
          | inl point ↦ inl (subst (λ mark. text ≡ whole_part text ++ mark ∷ fraction text) point cut.2)
          | inr comma ↦ inr (subst (λ mark. text ≡ whole_part text ++ mark ∷ fraction text) comma cut.2)
        ],
      ),
    )

-- and a text of the form has parts
pub parts_read : (text : List ℕ) → has_money_form text ≡ true → IsMoneyText text (whole_part text) (fraction text)
parts_read text form =
    elim (or_true (is_number text) (is_number (whole_part text) && is_number (fraction text)) form) [
      | inl number ↦
          let is = numeral-is_number text number in
          let at : position_or_len is_mark text ≡ length text = no_first_mark text (list_all-of text is.1) in
          let whole_is : whole_part text ≡ text = rw at (take_all (length text) text (omega arith)) in
          let decimals_is : fraction text ≡ [] = rw at (drop_all (length text + 1) text (omega arith)) in
          (subst (IsNumeral 10) (sym whole_is) is, inl (sym whole_is, decimals_is))
      | inr numbers ↦
          marked text (numeral-is_number (whole_part text) (left_of (is_number (whole_part text)) (is_number (fraction text)) numbers))
          (numeral-is_number (fraction text) (right_of (is_number (whole_part text)) (is_number (fraction text)) numbers))
    ]
