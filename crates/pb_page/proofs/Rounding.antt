-- Amounts in parts, rounded, and the width of a bar.
use Rattle.std.proofs.Common.{◌≡◌, ◌↔◌, ◌<◌, ◌≤◌, ℕ, ◌+◌, ◌*◌, ◌/◌, ◌%◌, arith, false, inl, inr, sym, true}
use Rattle.std.specs.Prelude.{max, min}
use Rattle.std.proofs.lemmas.Bool.{cases_lt}
use Rattle.std.proofs.lemmas.Grind.{div_ceil_times}
use Rattle.std.proofs.Math.Nat.{le-div_iff_mul-le, le-min, min-le_left, min-le_right, mul-le-mul_right}
use Rattle.pb_page.specs.Amount.{rounded}
use Rattle.pb_page.specs.Page.{width}
use Rattle.pb_page.specs.declared.markup.divided.Divided.{Divided}

above : (k : ℕ) → 0 < max 1 k
above k = omega arith

-- what is rounded up is at most so much just where the whole is at most that many times the divisor
ceil_within : (a k h : ℕ) → 0 < k → (a / k + min 1 (a % k) ≤ h) ↔ (a ≤ h * k)
ceil_within a k h some =
    let bounds = div_ceil_times a k some in let q = a / k + min 1 (a % k) in (
      λ less. let more : q * k ≤ h * k = mul-le-mul_right k less in omega (arith, bounds.0, more),
      λ enough. elim (cases_lt h q) [
        | inl beyond ↦ let more : (h + 1) * k ≤ q * k = mul-le-mul_right k (omega (arith, beyond)) in
            let next : (h + 1) * k ≡ h * k + k = omega arith in absurd (omega (arith, bounds.1, enough, more, next))
        | inr within ↦ within
      ],
    )

pub rounded_up : (d : Divided) (h : ℕ) → d.is_up ≡ true → (rounded d ≤ h) ↔ (d.amount ≤ h * max 1 d.divisor)
rounded_up d h up = rw up (ceil_within d.amount (max 1 d.divisor) h (above d.divisor))

pub rounded_down : (d : Divided) (h : ℕ) → d.is_up ≡ false → (h ≤ rounded d) ↔ (h * max 1 d.divisor ≤ d.amount)
rounded_down d h down = rw down (le-div_iff_mul-le (above d.divisor))

pub wide : (amount whole n : ℕ) → (n ≤ width amount whole) ↔ ((n ≤ 10000) × (n * max 1 whole ≤ 10000 * amount))
wide amount whole n =
    let k = max whole 1 in let parts = amount * 10000 / k in
    let there : (n ≤ parts) ↔ (n * k ≤ amount * 10000) = le-div_iff_mul-le (omega arith) in
    let same : max 1 whole ≡ k = omega arith in let swap : amount * 10000 ≡ 10000 * amount = omega arith in (
      λ in_it. (omega (arith, in_it, min-le_right parts 10000), rw (same, sym swap) (there.0 (omega (arith, in_it, min-le_left parts 10000)))),
      λ so. le-min (there.1 (rw (sym same, swap) so.1)) so.0,
    )
