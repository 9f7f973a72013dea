-- Prices where all rests are equal.
use Rattle.std.proofs.Common.{◌≡◌, ℕ, ◌+◌, ◌*◌, ◌/◌, ◌%◌, ◌<◌, ◌≤◌, min, List, [], ◌∷◌, length, refl, sym, ap, arith}
use Rattle.std.specs.Prelude.{All, slice_index}
use Rattle.std.proofs.lemmas.Grind.{div_ceil_times}
use Rattle.std.proofs.lemmas.List.Elements.{All-tail}
use Rattle.std.proofs.lemmas.List.Sums.{sum_by-cons}
use Rattle.pb_price.specs.Price.{paid_at, total_rest, IsLeastPayment}
use Rattle.pb_price.proofs.PriceSteps.{below_step, starts_below}

module _ (rests : List ℕ) (share : ℕ) (alike : All (λ rest. rest ≡ share) rests) where
  -- at a payment within the share each supporter pays it
  paid_alike : (supporters : List ℕ) → All (λ voter. voter < length rests) supporters → (p : ℕ) → p ≤ share
      → length supporters * p ≤ paid_at supporters rests p
  paid_alike [] known p within = omega arith
  paid_alike (v ∷ vs) known p within =
      let pay : ℕ → ℕ = λ v. min (slice_index rests v) p in
      let here = sum_by-cons pay v vs in
      let rest : slice_index rests v ≡ share = alike v 0 (known 0 0 (omega arith)) in
      let others = paid_alike vs (All-tail (λ voter. voter < length rests) v vs known) p within in
      let first : pay v ≡ p = omega (arith, rest) in
      omega (arith, here, first, others)

  total_alike : (supporters : List ℕ) → All (λ voter. voter < length rests) supporters
      → total_rest supporters rests ≤ length supporters * share
  total_alike [] known = omega arith
  total_alike (v ∷ vs) known =
      let here = sum_by-cons (λ v. slice_index rests v) v vs in
      let rest : slice_index rests v ≡ share = alike v 0 (known 0 0 (omega arith)) in
      let others = total_alike vs (All-tail (λ voter. voter < length rests) v vs known) in
      omega (arith, here, rest, others)

  -- the cost divided by the supporters, rounded up, is the price where it is within the share, and there is none where it is not
  module _ (supporters : List ℕ) (known : All (λ voter. voter < length rests) supporters) (cost n : ℕ) (same : n ≡ length supporters) (some : 0 < n)
      (p : ℕ) (p_is : p ≡ cost / n + min 1 (cost % n)) where
    pub price_within : p ≤ share → IsLeastPayment supporters rests cost p
    price_within within =
        let bounds = div_ceil_times cost n some in
        let below = starts_below supporters rests cost n same some in
        let pays = paid_alike supporters known p within in
        let each : length supporters * p ≡ n * p = ap (λ k. k * p) (sym same) in
        let all : p * n ≡ (cost / n + min 1 (cost % n)) * n = ap (λ k. k * n) p_is in
        record {
          covers = omega (arith, bounds.0, pays, each, all);
          least = λ q less. below.least q (omega (arith, less, p_is));
        }

    pub no_price_beyond : share < p → total_rest supporters rests < cost
    no_price_beyond beyond =
        let total = total_alike supporters known in
        let each : length supporters * share ≡ n * share = ap (λ k. k * share) (sym same) in
        let short = below_step cost n share some (omega (arith, beyond, p_is)) in
        omega (arith, total, each, short)

-- the same of a list and a cost as the code names them
module _ (supporters list rests : List ℕ) (cost named share p : ℕ) (l : list ≡ supporters) (n : named ≡ cost)
    (known : All (λ voter. voter < length rests) supporters) (alike : All (λ rest. rest ≡ share) rests) (some : 0 < length list)
    (p_is : p ≡ named / length list + min 1 (named % length list)) where
  pub found_within : p ≤ share → IsLeastPayment supporters rests cost p
  found_within within = rw (← l, ← n) (price_within rests share alike list (rw l known) named (length list) refl some p p_is within)

  pub none_beyond : share < p → total_rest supporters rests < cost
  none_beyond beyond = rw (← l, ← n) (no_price_beyond rests share alike list (rw l known) named (length list) refl some p p_is beyond)
