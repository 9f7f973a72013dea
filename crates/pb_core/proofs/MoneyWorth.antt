-- What digits are worth in hundredths.
use Rattle.std.proofs.Common.{◌≡◌, ◌∙◌, suc, ℕ, ◌+◌, ◌*◌, ◌/◌, ◌%◌, ◌^◌, ◌<◌, true, ◌==◌, List, [], ◌∷◌, ◌++◌, length, take, drop, codes, refl, sym, ap, arith, append_assoc}
use Rattle.std.proofs.Math.Nat.{mul-div_cancel, mul-div_cancel_left, mul-mod_left, mul_assoc, mul_comm, one-le-pow, pow-suc, zero-div}
use Rattle.std.proofs.lemmas.Bool.{eqb-true}
use Rattle.std.proofs.lemmas.Bool.Decides.{nat_tests}
use Rattle.std.proofs.lemmas.List.{append-nil}
use Rattle.std.proofs.lemmas.Nat.{mod-mul-add}
use Rattle.std.proofs.lemmas.Int.Digits.{digits_value-lt}
use Rattle.std.specs.Char.{digit_value}
use Rattle.std.specs.List.{list_all}
use Rattle.std.specs.Str.Parse.{AllDigits, digits_value, digits_value_after}
use Rattle.pb_core.proofs.Conditions.{both, left_of, right_of}
use Rattle.pb_core.specs.MoneyText.{IsWorth}

-- digits after others
value_after : (n : ℕ) (ds : List ℕ) → digits_value_after 10 n ds ≡ n * 10 ^ length ds + digits_value 10 ds
value_after n [] = omega arith
value_after n (c ∷ cs) =
    let a = value_after (n * 10 + digit_value c) cs in
    let b = value_after (0 * 10 + digit_value c) cs in
    omega (arith, ap (λ x. n * x) (pow-suc 10 (length cs)))

after_append : (n : ℕ) (xs ys : List ℕ) → digits_value_after 10 n (xs ++ ys) ≡ digits_value_after 10 (digits_value_after 10 n xs) ys
after_append n [] ys = refl
after_append n (x ∷ xs) ys = after_append (n * 10 + digit_value x) xs ys

pub digits_value-append : (xs ys : List ℕ) → digits_value 10 (xs ++ ys) ≡ digits_value 10 xs * 10 ^ length ys + digits_value 10 ys
digits_value-append xs ys = after_append 0 xs ys ∙ value_after (digits_value 10 xs) ys

pub pow-pos : (k : ℕ) → 0 < 10 ^ k
pow-pos k = one-le-pow k 10 (omega arith)

-- of one text there is one amount
pub IsWorth-one : (whole decimals : List ℕ) (h g : ℕ) → IsWorth whole decimals h → IsWorth whole decimals g → h ≡ g
IsWorth-one whole decimals h g is other =
    let p = 10 ^ length decimals in
    sym (mul-div_cancel_left h (pow-pos (length decimals))) ∙ ap (λ n. n / p) (is ∙ sym other) ∙ mul-div_cancel_left g (pow-pos (length decimals))

zeros_worth : (ds : List ℕ) → list_all (λ c. c == 48) ds ≡ true → digits_value 10 ds ≡ 0
zeros_worth [] all = refl
zeros_worth (c ∷ ds) all =
    let zero_first : c ≡ 48 = eqb-true c 48 (left_of (c == 48) (list_all (λ c. c == 48) ds) all) in
    rw zero_first (zeros_worth ds (right_of (c == 48) (list_all (λ c. c == 48) ds) all))

mul_zero : (a b : ℕ) → 0 < b → a * b ≡ 0 → a ≡ 0
mul_zero a b some none = sym (mul-div_cancel a some) ∙ ap (λ n. n / b) none ∙ zero-div b

zero_digit : (c : ℕ) → digit_value c < 10 → digit_value c ≡ 0 → (c == 48) ≡ true
zero_digit c below none = grind (arith, nat_tests)

worth_zeros : (ds : List ℕ) → AllDigits 10 ds → digits_value 10 ds ≡ 0 → list_all (λ c. c == 48) ds ≡ true
worth_zeros [] digits none = refl
worth_zeros (c ∷ ds) digits none =
    let sum : (0 * 10 + digit_value c) * 10 ^ length ds + digits_value 10 ds ≡ 0 = sym (value_after (0 * 10 + digit_value c) ds) ∙ none in
    let first : 0 * 10 + digit_value c ≡ 0 = mul_zero (0 * 10 + digit_value c) (10 ^ length ds) (pow-pos (length ds)) (omega arith) in
    let nothing : digit_value c ≡ 0 = omega arith in
    both (c == 48) (list_all (λ c. c == 48) ds) (zero_digit c digits.0 nothing) (worth_zeros ds digits.1 (omega arith))

-- the value of whole units, and of two decimals
abbrev pub in_hundredths : (whole decimals : List ℕ) → ℕ
in_hundredths whole decimals = 100 * digits_value 10 whole + digits_value 10 (take 2 (decimals ++ codes "00"))

value_split : (whole : List ℕ) (a b : ℕ) (ds : List ℕ)
    → digits_value 10 (whole ++ a ∷ b ∷ ds) ≡ digits_value 10 (whole ++ a ∷ b ∷ []) * 10 ^ length ds + digits_value 10 ds
value_split whole a b ds = ap (digits_value 10) (sym (append_assoc whole (a ∷ b ∷ []) ds)) ∙ digits_value-append (whole ++ a ∷ b ∷ []) ds

ten_more : (k : ℕ) → 10 ^ suc (suc k) ≡ 100 * 10 ^ k
ten_more k = pow-suc 10 (suc k) ∙ ap (λ n. n * 10) (pow-suc 10 k) ∙ omega arith

fine_sum : (p v : ℕ) → 100 * p * v ≡ 100 * (v * p + 0)
fine_sum p v = mul_assoc 100 p v ∙ ap (λ n. 100 * n) (mul_comm p v ∙ omega arith)

-- where the digits after the second decimal are zeros, that is the amount
pub worth_fine : (whole decimals : List ℕ) → list_all (λ c. c == 48) (drop 2 decimals) ≡ true → IsWorth whole decimals (in_hundredths whole decimals)
worth_fine whole [] fine = rw (append-nil whole) (omega arith)
worth_fine whole (a ∷ []) fine = rw (digits_value-append whole (a ∷ [])) (omega arith)
worth_fine whole (a ∷ b ∷ ds) fine =
    let p = 10 ^ length ds in
    let rest : digits_value 10 ds ≡ 0 = zeros_worth ds fine in
    let split : digits_value 10 (whole ++ a ∷ b ∷ ds) ≡ digits_value 10 (whole ++ a ∷ b ∷ []) * p + digits_value 10 ds = value_split whole a b ds in
    let first : digits_value 10 (whole ++ a ∷ b ∷ []) ≡ digits_value 10 whole * 100 + digits_value 10 (a ∷ b ∷ []) = digits_value-append whole (a ∷ b ∷ []) in
    let is : in_hundredths whole (a ∷ b ∷ ds) ≡ digits_value 10 (whole ++ a ∷ b ∷ []) = omega arith in
    rw (ten_more (length ds), split, rest, is) (fine_sum p (digits_value 10 (whole ++ a ∷ b ∷ [])))

hundredth : (a b : ℕ) → 100 * a ≡ 100 * b → a ≡ b
hundredth a b same = omega arith

-- and where some amount is it, they are zeros
pub fine_worth : (whole decimals : List ℕ) (h : ℕ) → AllDigits 10 decimals → IsWorth whole decimals h → list_all (λ c. c == 48) (drop 2 decimals) ≡ true
fine_worth whole [] h digits is = refl
fine_worth whole (a ∷ []) h digits is = refl
fine_worth whole (a ∷ b ∷ ds) h digits is =
    let p = 10 ^ length ds in
    let v = digits_value 10 (whole ++ a ∷ b ∷ []) in
    let rest = digits_value 10 ds in
    let small : rest < p = digits_value-lt 10 ds digits.1.1 in
    let worth : p * h ≡ v * p + rest = hundredth _ _ (sym (mul_assoc 100 p h) ∙ rw (sym (ten_more (length ds))) (is ∙ ap (λ n. 100 * n) (value_split whole a b ds))) in
    let none : rest ≡ 0 = sym (mod-mul-add v p rest small) ∙ ap (λ n. n % p) (sym worth ∙ mul_comm p h) ∙ mul-mod_left h p in
    worth_zeros ds digits.1.1 none
