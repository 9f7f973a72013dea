-- Digits, and the parts of a money text.
use Rattle.std.proofs.Common.{inl, inr, suc, zero, ◌≡◌, ℕ, ◌+◌, ◌*◌, ◌-◌, ◌<◌, Bool, true, ◌&&◌, ◌==◌, not, min, List, [], ◌∷◌, ◌++◌, length, take, drop, get_or, refl, arith, rules}
use Rattle.std.specs.Char.{is_ascii_digit, digit_value}
use Rattle.std.specs.List.{list_all, position_or_len}
use Rattle.std.specs.Str.Parse.{digits_value}
use Rattle.std.proofs.lemmas.Int.Digits.{digits_value_push}
use Rattle.pb_core.proofs.Conditions.{left_of, right_of, both, or_true}
use Rattle.pb_core.specs.Money.{largest_money}
use Rattle.pb_core.specs.MoneyText.{is_number, is_mark, whole_part, fraction, has_money_form}

-- one more digit, where numbers past ten thousand million million are kept at that
pub capped_push : (ds : List ℕ) (c n m : ℕ) → n ≡ min (digits_value 10 ds) (10 * largest_money) → m ≡ min (10 * n + digit_value c) (10 * largest_money) →
    m ≡ min (digits_value 10 (ds ++ c ∷ [])) (10 * largest_money)
capped_push ds c n m n_is m_is = rw (digits_value_push 10 ds c) (omega (arith, n_is, m_is))

pub digit_value-digit : (c : ℕ) → is_ascii_digit c ≡ true → digit_value c ≡ c - 48
digit_value-digit c is_digit = search (rules, arith)

-- part of a list that passes a test passes it
pub list_all-take : {X : Type 0} (p : X → Bool) (n : ℕ) (xs : List X) → list_all p xs ≡ true → list_all p (take n xs) ≡ true
list_all-take p zero xs all = refl
list_all-take p (suc n) [] all = refl
list_all-take p (suc n) (x ∷ xs) all = both (p x) (list_all p (take n xs)) (left_of (p x) (list_all p xs) all) (list_all-take p n xs (right_of (p x) (list_all p xs) all))

pub list_all-drop : {X : Type 0} (p : X → Bool) (n : ℕ) (xs : List X) → list_all p xs ≡ true → list_all p (drop n xs) ≡ true
list_all-drop p zero xs all = all
list_all-drop p (suc n) [] all = refl
list_all-drop p (suc n) (x ∷ xs) all = list_all-drop p n xs (right_of (p x) (list_all p xs) all)

pub list_all-get_or : {X : Type 0} (p : X → Bool) (xs : List X) (i : ℕ) (d : X) → list_all p xs ≡ true → i < length xs → p (get_or xs i d) ≡ true
list_all-get_or p [] i d all below = absurd (omega (arith, below))
list_all-get_or p (x ∷ xs) zero d all below = left_of (p x) (list_all p xs) all
list_all-get_or p (x ∷ xs) (suc i) d all below = list_all-get_or p xs i d (right_of (p x) (list_all p xs) all) (omega (arith, below))

-- both parts of a money text are digits
pub has_money_form-parts : (t : List ℕ) → has_money_form t ≡ true → (list_all is_ascii_digit (whole_part t) ≡ true) × (list_all is_ascii_digit (fraction t) ≡ true)
has_money_form-parts t form =
    elim (or_true (is_number t) (is_number (whole_part t) && is_number (fraction t)) form) [
      | inl number ↦
          let all = right_of (not (length t == 0)) (list_all is_ascii_digit t) number in
          (list_all-take is_ascii_digit (position_or_len is_mark t) t all, list_all-drop is_ascii_digit (position_or_len is_mark t + 1) t all)
      | inr numbers ↦ (
        right_of (not (length (whole_part t) == 0)) (list_all is_ascii_digit (whole_part t)) (left_of (is_number (whole_part t)) (is_number (fraction t)) numbers),
        right_of (not (length (fraction t) == 0)) (list_all is_ascii_digit (fraction t)) (right_of (is_number (whole_part t)) (is_number (fraction t)) numbers),
      )
    ]
