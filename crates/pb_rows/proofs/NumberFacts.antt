-- The texts that spell a number.
use Rattle.std.proofs.Common.{◌≡◌, ◌≢◌, ◌<◌, ◌≤◌, ◌^◌, ℕ, zero, suc, List, length, get_or, decimal, Result, Ok, Err, IfSome, IfNone, refl, sym, ap, arith, inl, inr, length-drop}
use Rattle.std.proofs.lemmas.Bool.{cases_Bool, eqb-true}
use Rattle.std.specs.Prelude.{◌==◌}
use Rattle.std.specs.Result.{result_ok}
use Rattle.std.specs.Str.Parse.{AllDigits, ParsesUnsigned, digits_value}
use Rattle.std.proofs.lemmas.Str.Parse.{IsNumeralModel, numerals_by_value, parse_plain, parse_plus, tells_digits}
use Rattle.std.proofs.lemmas.Fmt.{decimal-digits_value, decimal_digit, first_decimal, parse-decimal}

pub own : IsNumeralModel (AllDigits 10) (digits_value 10)
own = numerals_by_value (AllDigits 10) tells_digits

-- a leading zero stands alone
one_zero : (len first : ℕ) → 0 < len → (1 < len → 49 ≤ first) → first ≡ 48 → len ≡ 1
one_zero zero first some front zeros = absurd (omega arith)
one_zero (suc zero) first some front zeros = refl
one_zero (suc (suc n)) first some front zeros = absurd (omega (arith, front (omega arith)))

-- what `parse` reads, with no sign and no leading zero, is what the number spells
pub parse_spells : {E : Type 0} (bs : List ℕ) (r : Result ℕ E) → ParsesUnsigned 32 10 bs r → (1 < length bs → 49 ≤ get_or bs 0 0)
    → IfSome (result_ok r) (λ n. bs ≡ decimal n)
parse_spells bs (Err e) h front = tt
parse_spells {E} bs (Ok n) h front = elim (cases_Bool (get_or bs 0 0 == 43)) [
  | inl same ↦
      let sign = eqb-true (get_or bs 0 0) 43 same in
      let is = parse_plus own {E = E} 32 bs (Ok n) h sign in
      let size = length-drop 1 bs in
      absurd (omega (arith, is.0.1))
  | inr other ↦
      let plain : get_or bs 0 0 ≢ 43 = λ e. cc (rw e at other) in
      let is = parse_plain own {E = E} 32 bs (Ok n) h plain in
      rw is.1 (sym (decimal-digits_value own bs is.0.0 is.0.1 (one_zero (length bs) (get_or bs 0 0) is.0.1 front) (omega (arith, is.0.2))))
]

-- and where it reads nothing, no number is spelled
pub parse_refuses : {E : Type 0} (bs : List ℕ) (r : Result ℕ E) → ParsesUnsigned 32 10 bs r
    → IfNone (result_ok r) ((n : ℕ) → n < 2 ^ 32 → bs ≢ decimal n)
parse_refuses bs (Ok n) h = tt
parse_refuses bs (Err e) h = λ n small same. cc (parse-decimal 32 n bs (Err e) small (omega arith) same h)

-- a text of several bytes that begins below `1` spells no number
pub not_spelled : (bs : List ℕ) (n : ℕ) → n < 2 ^ 32 → 1 < length bs → get_or bs 0 0 < 49 → bs ≢ decimal n
not_spelled bs zero small long front same = absurd (omega (arith, ap length (decimal_digit 0 (omega arith)), ap length same))
not_spelled bs (suc n) small long front same =
    let first = first_decimal (suc n) (omega arith) (omega arith) in
    absurd (omega (arith, rw (← same) at first))
