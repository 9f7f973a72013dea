-- The price in steps: from a payment below the price to a higher one that is not above it.
use Rattle.std.proofs.Common.{◌≡◌, ℕ, suc, ◌+◌, ◌-◌, ◌*◌, ◌/◌, ◌%◌, ◌<◌, ◌≤◌, min, cond, List, [], ◌∷◌, length, refl, sym, ap, subst, ◌∙◌, inl, inr, arith}
use Rattle.std.proofs.Math.Nat.{mul-le-mul_left, mul-le-mul_right}
use Rattle.std.specs.Prelude.{nat_lt, slice_index}
use Rattle.std.proofs.lemmas.Bool.{cases_lt, lt-ltb, le-ltb}
use Rattle.std.proofs.lemmas.Grind.{div_ceil_times}
use Rattle.std.proofs.lemmas.List.Sums.{sum_by-cons, sum_by-le, count_by-le-length}
use Rattle.pb_price.specs.Inner.Payment.{payers_above}
use Rattle.pb_price.specs.Price.{paid_at, total_rest}
use Rattle.pb_price.proofs.Payments.{paid_at_rises, pays_all_or_one}

one_pays : (rest p d : ℕ) → min rest (p + d) ≤ min rest p + cond (nat_lt p rest) 1 0 * d
one_pays rest p d = elim (cases_lt p rest) [
  | inl less ↦ rw (lt-ltb p rest less) (omega arith)
  | inr most ↦ rw (le-ltb p rest most) (omega arith)
]

-- at d more, at most d more comes from each who has more left
pub step_bound : (supporters rests : List ℕ) (p d : ℕ)
    → paid_at supporters rests (p + d) ≤ paid_at supporters rests p + payers_above supporters rests p * d
step_bound [] rests p d = omega arith
step_bound (v ∷ vs) rests p d =
    let more : ℕ → ℕ = λ v. min (slice_index rests v) (p + d) in
    let pay : ℕ → ℕ = λ v. min (slice_index rests v) p in
    let one : ℕ → ℕ = λ v. cond (nat_lt p (slice_index rests v)) 1 0 in
    let here = sum_by-cons more v vs in
    let there = sum_by-cons pay v vs in
    let count : payers_above (v ∷ vs) rests p * d ≡ (one v + payers_above vs rests p) * d = ap (λ n. n * d) (sum_by-cons one v vs) in
    let others = step_bound vs rests p d in
    let first = one_pays (slice_index rests v) p d in
    omega (arith, here, there, count, others, first)

-- where somebody has more left than p, at least p is paid
pub above_pays : (supporters rests : List ℕ) (p : ℕ) → 0 < payers_above supporters rests p → p ≤ paid_at supporters rests p
above_pays [] rests p h = absurd (omega arith)
above_pays (v ∷ vs) rests p h =
    let pay : ℕ → ℕ = λ v. min (slice_index rests v) p in
    let one : ℕ → ℕ = λ v. cond (nat_lt p (slice_index rests v)) 1 0 in
    let here : paid_at (v ∷ vs) rests p ≡ pay v + paid_at vs rests p = sum_by-cons pay v vs in
    let count : payers_above (v ∷ vs) rests p ≡ one v + payers_above vs rests p = sum_by-cons one v vs in
    elim (cases_lt p (slice_index rests v)) [
      | inl less ↦ omega (arith, here)
      | inr most ↦
          let poor : one v ≡ 0 = rw (le-ltb p (slice_index rests v) most) refl in
          let others : p ≤ paid_at vs rests p = above_pays vs rests p (omega (arith, count, poor)) in
          omega (arith, here, others)
    ]

-- where nobody has more left, they pay all
pub all_paid : (supporters rests : List ℕ) (p : ℕ) → payers_above supporters rests p ≡ 0
    → total_rest supporters rests ≤ paid_at supporters rests p
all_paid supporters rests p none =
    let most = total_rest supporters rests in
    let bound = step_bound supporters rests p most in
    let nothing : payers_above supporters rests p * most ≡ 0 = ap (λ n. n * most) none ∙ omega arith in
    omega (arith, bound, nothing, pays_all_or_one supporters rests (p + most))

-- what is below a step, and what is paid at the step, where paying e more brings at most m each
pub below_step : (missing m e : ℕ) → 0 < m → e < missing / m + min 1 (missing % m) → m * e < missing
below_step missing m e some h =
    let step : ℕ = missing / m + min 1 (missing % m) in
    let bounds = div_ceil_times missing m some in
    let most : suc e * m ≤ step * m = mul-le-mul_right m (omega arith) in
    omega (arith, bounds.1, most)

le-zero : (n : ℕ) → n ≤ 0 → n ≡ 0
le-zero n h = omega arith

-- a part of what is missing is not more than all of it
pub part-le : (missing m : ℕ) → 0 < m → missing / m + min 1 (missing % m) ≤ missing
part-le missing m some = elim (cases_lt missing (missing / m + min 1 (missing % m))) [
  | inl more ↦
      let part : ℕ = missing / m + min 1 (missing % m) in
      let bounds = div_ceil_times missing m some in
      let most : suc missing * m ≤ part * m = mul-le-mul_right m more in
      let all : missing * 1 ≤ missing * m = mul-le-mul_left missing some in
      absurd (omega (arith, bounds.1, most, all))
  | inr most ↦ most
]

pub part-positive : (missing m : ℕ) → 0 < m → 0 < missing → 0 < missing / m + min 1 (missing % m)
part-positive missing m some short = elim (cases_lt 0 (missing / m + min 1 (missing % m))) [
  | inl more ↦ more
  | inr none ↦
      let part : ℕ = missing / m + min 1 (missing % m) in
      let bounds = div_ceil_times missing m some in
      let nothing : part * m ≡ 0 = ap (λ n. n * m) (le-zero part none) ∙ omega arith in
      absurd (omega (arith, bounds.0, nothing))
]

-- nothing below covers the cost, and what is paid fits
pub record IsBelowPrice (supporters rests : List ℕ) (cost p : ℕ) : Type 0 where
  pub least : (q : ℕ) → q < p → paid_at supporters rests q < cost
  pub fits : paid_at supporters rests p ≤ cost + length supporters

pub none_pays_more : (supporters rests : List ℕ) (p : ℕ) → paid_at supporters rests p ≤ length supporters * p
none_pays_more supporters rests p = sum_by-le (λ v. min (slice_index rests v) p) p supporters (λ k d l. omega arith)

-- the cost divided by the supporters
pub starts_below : (supporters rests : List ℕ) (cost n : ℕ) → n ≡ length supporters → 0 < n
    → IsBelowPrice supporters rests cost (cost / n + min 1 (cost % n))
starts_below supporters rests cost n same some =
    let p : ℕ = cost / n + min 1 (cost % n) in
    let bounds = div_ceil_times cost n some in
    record {
      least = λ q less.
          let pays = none_pays_more supporters rests q in
          let each : length supporters * q ≡ n * q = ap (λ k. k * q) (sym same) in
          omega (arith, pays, each, below_step cost n q some less);
      fits =
          let pays = none_pays_more supporters rests p in
          let each : length supporters * p ≡ n * p = ap (λ k. k * p) (sym same) in
          omega (arith, pays, each, bounds.1);
    }

-- one step more
pub steps_below : (supporters rests : List ℕ) (cost p m : ℕ) → m ≡ payers_above supporters rests p → 0 < m
    → paid_at supporters rests p < cost → IsBelowPrice supporters rests cost
    (p + ((cost - paid_at supporters rests p) / m + min 1 ((cost - paid_at supporters rests p) % m)))
steps_below supporters rests cost p m same some short =
    let missing : ℕ = cost - paid_at supporters rests p in
    let step : ℕ = missing / m + min 1 (missing % m) in
    let bounds = div_ceil_times missing m some in
    let pays : (e : ℕ) → paid_at supporters rests (p + e) ≤ paid_at supporters rests p + m * e = λ e. rw same (step_bound supporters rests p e) in
    record {
      least = λ q less. elim (cases_lt p q) [
        | inl more ↦
            let e : ℕ = q - p in
            let there : p + e ≡ q = omega arith in
            let paid : paid_at supporters rests q ≤ paid_at supporters rests p + m * e = subst (λ (n : ℕ). paid_at supporters rests n ≤ paid_at supporters rests p + m * e) there (pays e) in
            omega (arith, paid, below_step missing m e some (omega arith))
        | inr most ↦ omega (arith, paid_at_rises supporters rests q p most)
      ];
      fits =
          let few = count_by-le-length (λ v. nat_lt p (slice_index rests v)) supporters in
          omega (arith, pays step, bounds.1, few, same);
    }

-- without supporters there is nothing
pub no_supporter : (supporters list rests : List ℕ) (cost : ℕ) → list ≡ supporters → length list ≡ 0 → 0 < cost
    → total_rest supporters rests < cost
no_supporter supporters [] rests cost l none some = rw (← l) some
no_supporter supporters (v ∷ vs) rests cost l none some = absurd (omega arith)
