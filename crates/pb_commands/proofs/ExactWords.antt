-- An amount that is divided, as text, in the words of its law.
use Rattle.std.proofs.Common.{◌≡◌, ◌≢◌, ℕ, ◌+◌, ◌-◌, ◌*◌, ◌/◌, ◌%◌, ◌<◌, ◌≤◌, ◌++◌, Bool, true, false, [], Option, Some, get_or, length, refl, sym, ◌∙◌, ap, arith, decimal}
use Rattle.std.specs.Prelude.{◌==◌, codes, max, slice_get}
use Rattle.std.specs.List.{find, position_or_len, range_with_len}
use Rattle.std.specs.Option.{option_map_or}
use Rattle.std.proofs.Math.Nat.{div-add-mod, mul-div_cancel, mul-mod_left, mul_comm}
use Rattle.std.proofs.lemmas.Bool.{cond-false, cond-true, eq-eqb, ne_eqb}
use Rattle.std.proofs.lemmas.List.Folds.{find_at}
use Rattle.std.proofs.lemmas.List.FromFn.{get_or-range_with_len, length-range_with_len}
use Rattle.std.proofs.lemmas.List.Sums.{position_or_len_is}
use Rattle.std.proofs.lemmas.Option.{slice_get-get_or}
use Rattle.pb_core.specs.MoneyText.{money_text}
use Rattle.pb_rows.specs.ExactText.{exact_text}

-- whole hundredths
pub whole_told : (amount divisor hundredths : ℕ) → hundredths * max 1 divisor ≡ amount → exact_text amount divisor ≡ money_text hundredths
unfolding exact_text
whole_told amount divisor hundredths times =
    let by = max 1 divisor in
    let some : 0 < max 1 divisor = omega arith in
    cond-true (amount % by == 0) (money_text (amount / by)) _ (eq-eqb _ _ (ap (λ n. n % by) (sym times) ∙ mul-mod_left hundredths by))
    ∙ ap money_text (ap (λ n. n / by) (sym times) ∙ mul-div_cancel hundredths some)

-- the first number of a range that passes a test
first_found : (test : ℕ → Bool) (n p : ℕ) → 0 < p → p ≤ n → test p ≡ true → ((q : ℕ) → 0 < q → q < p → test q ≡ false)
    → find test (range_with_len 1 n) ≡ Some p
first_found test n p some within passes first =
    let range = range_with_len 1 n in
    let many : length range ≡ n = length-range_with_len 1 n in
    let at : (k : ℕ) → k < n → get_or range k 0 ≡ 1 + k = λ k below. get_or-range_with_len 1 n k 0 below in
    let here : get_or range (p - 1) 0 ≡ p = at (p - 1) (omega (arith, some, within)) ∙ omega (arith, some) in
    let number : position_or_len test range ≡ p - 1 =
    position_or_len_is test range (p - 1) 0 (omega (arith, many, some, within))
    (λ k less. ap test (at k (omega (arith, less, within))) ∙ first (1 + k) (omega arith) (omega (arith, less)))
    (λ below. ap test here ∙ passes) in
    find_at test range ∙ ap (slice_get range) number
    ∙ slice_get-get_or range (p - 1) 0 (omega (arith, many, some, within)) ∙ ap Some here

-- a number of which nothing is left is so many times the other
times_of : (n unit : ℕ) → n % unit ≡ 0 → n / unit * unit ≡ n
times_of n unit none = let parts = div-add-mod n unit in mul_comm (n / unit) unit ∙ omega (arith, parts, none)

module _ (amount divisor p q : ℕ) (part : (hundredths : ℕ) → hundredths * max 1 divisor ≢ amount) (some : 0 < q) where
  abbrev unit : ℕ
  unit = 100 * max 1 divisor

  pub fraction_told : p * (100 * max 1 divisor) ≡ amount * q
      → ((r s : ℕ) → 0 < s → r * (100 * max 1 divisor) ≡ amount * s → q ≤ s)
      → exact_text amount divisor ≡ decimal p ++ (codes "/" ++ decimal q)
  unfolding exact_text
  fraction_told same least =
      let test : ℕ → Bool = λ below. amount * below % unit == 0 in
      let found : find test (range_with_len 1 unit) ≡ Some q =
      first_found test unit q some (least amount unit (omega arith) refl)
      (eq-eqb _ _ (ap (λ n. n % unit) (sym same) ∙ mul-mod_left p unit))
      (λ s above less. ne_eqb _ _ (λ none.
      let fewer = least (amount * s / unit) s above (times_of (amount * s) unit none) in absurd (omega (arith, fewer, less)))) in
      cond-false (amount % max 1 divisor == 0) (money_text (amount / max 1 divisor)) _
      (ne_eqb _ _ (λ none. absurd (part (amount / max 1 divisor) (times_of amount (max 1 divisor) none))))
      ∙ ap (λ (o : Option ℕ). option_map_or (λ (below : ℕ). decimal (amount * below / unit) ++ (codes "/" ++ decimal below)) o []) found
      ∙ ap (λ (n : ℕ). decimal n ++ (codes "/" ++ decimal q)) (ap (λ n. n / unit) (sym same) ∙ mul-div_cancel p (omega arith))
