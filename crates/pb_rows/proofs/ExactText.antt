-- The text of an amount that may be no whole number of hundredths.
use Rattle.std.specs.Int.{◌∣◌}
use Rattle.std.proofs.Common.{◌≡◌, ◌∙◌, ◌++◌, ℕ, zero, suc, ◌+◌, ◌*◌, ◌/◌, ◌%◌, ◌<◌, ◌≤◌, Bool, true, false, Option, Some, [], inl, inr, sym, ap, arith, decimal}
use Rattle.std.specs.Prelude.{◌==◌, codes, max}
use Rattle.std.specs.List.{find, range_with_len}
use Rattle.std.specs.Option.{option_map_or}
use Rattle.std.proofs.lemmas.Bool.{cases_order, cond-true, cond-false, eq-eqb, ne_eqb}
use Rattle.std.proofs.lemmas.Nat.Gcd.{dvd_of_mod-eq-zero, le_of_dvd}
use Rattle.std.proofs.Math.Nat.{div-add-mod, div-le_self, dvd-add_iff_right, dvd-mul_right, dvd-mul_right_of_dvd, dvd_of_mul-dvd-mul_left, mul-div_cancel, mul-div_cancel', mul-mod_left, mul_comm}
use Rattle.pb_core.specs.MoneyText.{money_text}
use Rattle.pb_rows.specs.ExactText.{exact_text}

-- the first number of a range that passes a test is what `find` gives
find_from_first : (test : ℕ → Bool) (n low p : ℕ) → low ≤ p → p < low + n → test p ≡ true
    → ((q : ℕ) → low ≤ q → q < p → test q ≡ false) → find test (range_with_len low n) ≡ Some p
find_from_first test zero low p from below passes first = absurd (omega arith)
find_from_first test (suc n) low p from below passes first = elim (cases_order low p) [
  | inl same ↦ cond-true (test low) (Some low) (find test (range_with_len (low + 1) n)) (ap test same ∙ passes) ∙ ap Some same
  | inr (inl less) ↦
      cond-false (test low) (Some low) (find test (range_with_len (low + 1) n)) (first low (omega arith) less)
      ∙ find_from_first test n (low + 1) p (omega (arith, less)) (omega arith) passes (λ q c d. first q (omega (arith, c)) d)
  | inr (inr more) ↦ absurd (omega (arith, more))
]

-- what divides so many times a number, and so many times another, divides so many times the rest
spread : (b k q r a : ℕ) → b * q + r ≡ a → b * k * q + r * k ≡ a * k
spread b k q r a e =
    let parts : b * k * q + r * k ≡ (b * q + r) * k = grind arith in
    parts ∙ ap (λ (n : ℕ). n * k) e

pub rest_divides : (d a b k : ℕ) → d ∣ a * k → d ∣ b * k → d ∣ a % b * k
rest_divides d a b k p q =
    (dvd-add_iff_right d (dvd-mul_right_of_dvd d q (a / b))).1 (rw (spread b k (a / b) (a % b) a (div-add-mod a b)) p)

-- an amount over a unit, with a divisor of both that is divided by what divides both, however often these are taken
pub record IsReducedBy (amount unit common : ℕ) : Type 0 where
  pub amount_divided : common ∣ amount
  pub unit_divided : common ∣ unit
  pub greatest : (d k : ℕ) → d ∣ amount * k → d ∣ unit * k → d ∣ common * k

-- so many times the amount are whole units, and how many
cross : (c x y a u : ℕ) → c * x ≡ a → c * y ≡ u → a * y ≡ x * u
cross c x y a u e f =
    let middle : c * x * y ≡ x * (c * y) = grind arith in
    ap (λ (n : ℕ). n * y) (sym e) ∙ middle ∙ ap (λ (n : ℕ). x * n) f

times_whole : (amount unit common : ℕ) → IsReducedBy amount unit common → amount * (unit / common) ≡ (amount / common) * unit
times_whole amount unit common h =
    cross common (amount / common) (unit / common) amount unit (mul-div_cancel' common h.amount_divided) (mul-div_cancel' common h.unit_divided)

-- a number above 0 has factors above 0
factor_some : (x y n : ℕ) → x * y ≡ n → 0 < n → 0 < x
factor_some zero y n e some = absurd (omega (arith, e, some))
factor_some (suc x) y n e some = omega arith

-- the least denominator is what is left of the unit
least_denominator : (amount unit common : ℕ) → 0 < unit → IsReducedBy amount unit common
    → find (λ below. amount * below % unit == 0) (range_with_len 1 unit) ≡ Some (unit / common)
least_denominator amount unit common some h =
    let down = mul-div_cancel' common h.unit_divided in
    let common_some = factor_some common (unit / common) unit down some in
    let rest_some = factor_some (unit / common) common unit (mul_comm (unit / common) common ∙ down) some in
    find_from_first (λ below. amount * below % unit == 0) unit 1 (unit / common) (omega arith) (omega (arith, div-le_self unit common))
    (eq-eqb _ _ (ap (λ (x : ℕ). x % unit) (times_whole amount unit common h) ∙ mul-mod_left (amount / common) unit))
    (λ q from less. ne_eqb _ _ (λ whole.
    let both = h.greatest unit q (dvd_of_mod-eq-zero unit whole) (dvd-mul_right unit q) in
    let part : unit / common ∣ q = dvd_of_mul-dvd-mul_left (unit / common) common_some (rw down both) in
    let most = le_of_dvd (omega arith) part in
    absurd (omega (arith, most))))

-- whole hundredths
whole_text : (amount divisor : ℕ) → amount % max 1 divisor ≡ 0 → exact_text amount divisor ≡ money_text (amount / max 1 divisor)
unfolding exact_text
whole_text amount divisor whole =
    cond-true (amount % max 1 divisor == 0) (money_text (amount / max 1 divisor)) _ (eq-eqb _ _ whole)

pub exact_text-whole : (amount divisor by : ℕ) → by ≡ max 1 divisor → amount % by ≡ 0 → exact_text amount divisor ≡ money_text (amount / by)
exact_text-whole amount divisor by e whole =
    whole_text amount divisor (ap (λ (n : ℕ). amount % n) (sym e) ∙ whole) ∙ ap (λ (n : ℕ). money_text (amount / n)) (sym e)

-- any other amount
fraction : (amount divisor common : ℕ) → (amount % max 1 divisor ≡ 0 → ⊥) → IsReducedBy amount (100 * max 1 divisor) common
    → exact_text amount divisor ≡ decimal (amount / common) ++ (codes "/" ++ decimal (100 * max 1 divisor / common))
unfolding exact_text
fraction amount divisor common other h =
    let unit = 100 * max 1 divisor in
    let some : 0 < 100 * max 1 divisor = omega arith in
    cond-false (amount % max 1 divisor == 0) (money_text (amount / max 1 divisor)) _ (ne_eqb _ _ other)
    ∙ ap (λ (o : Option ℕ). option_map_or (λ (below : ℕ). decimal (amount * below / unit) ++ (codes "/" ++ decimal below)) o [])
    (least_denominator amount unit common some h)
    ∙ ap (λ (n : ℕ). decimal n ++ (codes "/" ++ decimal (unit / common)))
    (ap (λ (x : ℕ). x / unit) (times_whole amount unit common h) ∙ mul-div_cancel (amount / common) some)

pub exact_text-fraction : (amount divisor by unit common : ℕ) → by ≡ max 1 divisor → unit ≡ 100 * by → (amount % by ≡ 0 → ⊥)
    → IsReducedBy amount unit common
    → exact_text amount divisor ≡ decimal (amount / common) ++ (codes "/" ++ decimal (unit / common))
exact_text-fraction amount divisor by unit common e u other h =
    let whole : unit ≡ 100 * max 1 divisor = u ∙ ap (λ (n : ℕ). 100 * n) e in
    rw whole (fraction amount divisor common (λ (w : amount % max 1 divisor ≡ 0). other (ap (λ (n : ℕ). amount % n) e ∙ w)) (rw whole at h))
