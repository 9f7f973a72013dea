-- What is written of an amount is read as that amount.
use Rattle.std.proofs.Common.{◌≡◌, nat_le, subst, inl, inr, suc, zero, get_or, codes, ℕ, ◌+◌, ◌*◌, ◌/◌, ◌%◌, ◌^◌, ◌<◌, ◌≤◌, Bool, true, ◌&&◌, Ok, List, [], ◌∷◌, ◌++◌, length, decimal, refl, sym, ◌∙◌, ap, arith, rules}
use Rattle.std.proofs.Math.Nat.{div-add-mod}
use Rattle.std.proofs.Math.Seq.{take-append_seam, drop-append-add}
use Rattle.std.proofs.lemmas.Fmt.{decimal_by_steps, decimal_digit, decimal_is_IsNumeral, first_decimal}
use Rattle.std.proofs.lemmas.List.{append_assoc}
use Rattle.std.specs.Char.{is_ascii_digit, digit_value}
use Rattle.std.specs.List.{list_all, position_or_len}
use Rattle.std.specs.Str.Parse.{IsNumeral, digits_value}
use Rattle.pb_core.proofs.Conditions.{both, left_of, or_right, right_of}
use Rattle.pb_core.proofs.MoneyParts.{first_mark, is_number-of}
use Rattle.pb_core.proofs.MoneyTexts.{digit_value-digit}
use Rattle.pb_core.proofs.MoneyWorth.{digits_value-append}
use Rattle.pb_core.specs.Money.{money_of, largest_money}
use Rattle.pb_core.specs.MoneyText.{is_number, is_mark, whole_part, fraction, has_money_form, is_in_hundredths, hundredths, money_text, IsMoneyText, IsWorth}

nat_le-within : (a b : ℕ) → a ≤ b → nat_le a b ≡ true
nat_le-within a b within = search rules

-- a text of this form and fineness, within the limit, is read
pub money_of-ok : (t : List ℕ) (h : ℕ) → has_money_form t ≡ true → is_in_hundredths t ≡ true → h ≡ hundredths t → h ≤ largest_money → money_of t ≡ Ok h
money_of-ok t h form fine same within =
    rw form (rw fine (rw (nat_le-within (hundredths t) largest_money (subst (λ n. n ≤ largest_money) same within)) (ap Ok (sym same))))

digit-below : (d : ℕ) → d < 10 → is_ascii_digit (48 + d) ≡ true
digit-below d below = search (rules, arith)

list_all-append : (p : ℕ → Bool) (xs ys : List ℕ) → list_all p xs ≡ true → list_all p ys ≡ true → list_all p (xs ++ ys) ≡ true
list_all-append p [] ys all_xs all_ys = all_ys
list_all-append p (x ∷ xs) ys all_xs all_ys =
    both (p x) (list_all p (xs ++ ys)) (left_of (p x) (list_all p xs) all_xs) (list_all-append p xs ys (right_of (p x) (list_all p xs) all_xs) all_ys)

decimal-digits : (n : ℕ) → n < 2 ^ 64 → list_all is_ascii_digit (decimal n) ≡ true
decimal-digits =
    decimal_by_steps (λ n ds. list_all is_ascii_digit ds ≡ true)
    (λ n below. both (is_ascii_digit (48 + n)) true (digit-below n below) refl)
    (λ n ds big all. list_all-append is_ascii_digit ds ((48 + n % 10) ∷ []) all (both (is_ascii_digit (48 + n % 10)) true (digit-below (n % 10) (omega arith)) refl))

digit-shown : (d : ℕ) → d < 10 → digit_value (48 + d) ≡ d
digit-shown d below = digit_value-digit (48 + d) (digit-below d below) ∙ omega arith

-- a text of digits, a point and two digits is the amount that it shows
shown : (ds : List ℕ) (a b : ℕ) → 0 < length ds → list_all is_ascii_digit ds ≡ true → a < 10 → b < 10 →
    100 * digits_value 10 ds + (10 * a + b) ≤ largest_money →
    money_of (ds ++ 46 ∷ (48 + a) ∷ (48 + b) ∷ []) ≡ Ok (100 * digits_value 10 ds + (10 * a + b))
shown ds a b some all small_a small_b within =
    let t : List ℕ = ds ++ 46 ∷ (48 + a) ∷ (48 + b) ∷ [] in
    let mark : position_or_len is_mark t ≡ length ds = first_mark ds 46 ((48 + a) ∷ (48 + b) ∷ []) refl all in
    let whole_is : whole_part t ≡ ds = rw mark (take-append_seam ds (46 ∷ (48 + a) ∷ (48 + b) ∷ [])) in
    let fraction_is : fraction t ≡ (48 + a) ∷ (48 + b) ∷ [] = rw mark (drop-append-add ds (46 ∷ (48 + a) ∷ (48 + b) ∷ []) 1) in
    let small : list_all is_ascii_digit ((48 + a) ∷ (48 + b) ∷ []) ≡ true =
    both (is_ascii_digit (48 + a)) (list_all is_ascii_digit ((48 + b) ∷ [])) (digit-below a small_a)
    (both (is_ascii_digit (48 + b)) true (digit-below b small_b) refl) in
    let form : has_money_form t ≡ true =
    or_right (is_number t) (is_number (whole_part t) && is_number (fraction t))
    (both (is_number (whole_part t)) (is_number (fraction t)) (rw whole_is (is_number-of ds some all))
    (rw fraction_is (is_number-of ((48 + a) ∷ (48 + b) ∷ []) (omega arith) small))) in
    let fine : is_in_hundredths t ≡ true = rw fraction_is refl in
    let a_is : digit_value (48 + a) ≡ a = digit-shown a small_a in
    let b_is : digit_value (48 + b) ≡ b = digit-shown b small_b in
    let is : hundredths t ≡ 100 * digits_value 10 ds + (10 * a + b) = rw whole_is (rw fraction_is (rw a_is (rw b_is (omega arith)))) in
    money_of-ok t (100 * digits_value 10 ds + (10 * a + b)) form fine (sym is) within

pub reads_back : (h : ℕ) → h ≤ largest_money → money_of (money_text h) ≡ Ok h
reads_back h within =
    let small : h / 100 < 2 ^ 64 = omega arith in
    let numeral = decimal_is_IsNumeral (h / 100) small in
    let parts : 100 * (h / 100) + (10 * (h / 10 % 10) + h % 10) ≡ h =
    omega (arith, div-add-mod (h / 10) 10, div-add-mod h 10, div-add-mod h 100) in
    let is : 100 * digits_value 10 (decimal (h / 100)) + (10 * (h / 10 % 10) + h % 10) ≡ h = rw numeral.1 parts in
    let text_is : money_text h ≡ decimal (h / 100) ++ 46 ∷ (48 + h / 10 % 10) ∷ (48 + h % 10) ∷ [] =
    append_assoc (decimal (h / 100)) (46 ∷ []) ((48 + h / 10 % 10) ∷ (48 + h % 10) ∷ []) in
    rw text_is
    (shown (decimal (h / 100)) (h / 10 % 10) (h % 10) numeral.0.0 (decimal-digits (h / 100) small) (omega arith) (omega arith) (rw is within) ∙ ap Ok is)

-- a number is written without a zero before it
no_zero_first : (n : ℕ) → n < 2 ^ 64 → (rest : List ℕ) → decimal n ≡ 48 ∷ rest → rest ≡ []
no_zero_first zero small rest is = cc (is, decimal_digit 0 (omega arith))
no_zero_first (suc n) small rest is =
    let first : 48 < get_or (decimal (suc n)) 0 0 = first_decimal (suc n) (omega arith) small in
    let other : 48 < 48 = subst (λ (ds : List ℕ). 48 < get_or ds 0 0) is first in
    absurd (omega (arith, other))

-- what is written of an amount: a number, a point and two digits, which are worth it
pub spelled : (h : ℕ) → h < 2 ^ 64 → (whole : List ℕ) × (decimals : List ℕ) × (money_text h ≡ whole ++ (codes "." ++ decimals)) × (length decimals ≡ 2)
    × IsMoneyText (money_text h) whole decimals × IsWorth whole decimals h × ((rest : List ℕ) → whole ≡ codes "0" ++ rest → rest ≡ [])
spelled h small =
    let within : h / 100 < 2 ^ 64 = omega arith in
    let a = h / 10 % 10 in
    let b = h % 10 in
    let whole = decimal (h / 100) in
    let decimals : List ℕ = (48 + a) ∷ (48 + b) ∷ [] in
    let numeral = decimal_is_IsNumeral (h / 100) within in
    let small_a : a < 10 = omega arith in
    let small_b : b < 10 = omega arith in
    let text_is : money_text h ≡ whole ++ (codes "." ++ decimals) = append_assoc whole (codes ".") decimals in
    let digits : IsNumeral 10 decimals = (omega arith, (digit_value-small a small_a, (digit_value-small b small_b, tt))) in
    let shows_a : digit_value (48 + a) ≡ a = digit-shown a small_a in
    let shows_b : digit_value (48 + b) ≡ b = digit-shown b small_b in
    let value : digits_value 10 decimals ≡ 10 * a + b = rw (shows_a, shows_b) (omega arith) in
    let parts : 100 * (h / 100) + (10 * a + b) ≡ h = omega (arith, div-add-mod (h / 10) 10, div-add-mod h 10, div-add-mod h 100) in
    let worth : digits_value 10 (whole ++ decimals) ≡ h =
    digits_value-append whole decimals ∙ rw (numeral.1, value) (omega (arith, parts)) in
    (whole, decimals, text_is, refl, (numeral.0, inr (digits, inl text_is)), ap (λ n. 100 * n) (sym worth), no_zero_first (h / 100) within)
  where
    digit_value-small : (d : ℕ) → d < 10 → digit_value (48 + d) < 10
    digit_value-small d below = let shows = digit-shown d below in omega (arith, shows)
