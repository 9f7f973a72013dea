-- What each voter pays for an elected project, and the rests afterwards.
use Rattle.std.proofs.Common.{sum_by, ◌≡◌, ℕ, ◌+◌, ◌-◌, ◌≤◌, min, List, [], ◌∷◌, length, Bool, true, false, cond, refl, ◌∙◌, ap, inl, inr, arith}
use Rattle.std.specs.Prelude.{sum, slice_index}
use Rattle.std.specs.List.{range_with_len}
use Rattle.std.proofs.lemmas.Bool.{cases_lt}
use Rattle.std.proofs.lemmas.List.{get_or_past}
use Rattle.std.proofs.lemmas.List.FromFn.{length-map-range_with_len, get_or-map-range_with_len, fill_by_all}
use Rattle.std.proofs.lemmas.List.Sums.{sum-map, sum_by-cons}
use Rattle.pb_price.specs.Price.{paid_at}
use Rattle.pb_rounds.specs.Payments.{payments_of}
use Rattle.pb_rounds.specs.Inner.Listed.{is_listed}
use Rattle.pb_rounds.specs.Run.{charged, payment_of}
use Rattle.pb_rounds.proofs.Listed.{RisesWithin, sum_by-listed}

paid-within_price : (b : Bool) (rest price : ℕ) → cond b (min rest price) 0 ≤ price
paid-within_price true rest price = omega arith
paid-within_price false rest price = omega arith

paid-within_rest : (b : Bool) (rest price : ℕ) → cond b (min rest price) 0 ≤ rest
paid-within_rest true rest price = omega arith
paid-within_rest false rest price = omega arith

module _ (supporters : List ℕ) (price : ℕ) (rests : List ℕ) where
  pub length-payments_of : length (payments_of supporters price rests) ≡ length rests
  unfolding payments_of
  length-payments_of = length-map-range_with_len (payment_of supporters price rests) 0 (length rests)

  pub length-charged : length (charged supporters price rests) ≡ length rests
  unfolding charged
  length-charged = length-map-range_with_len _ 0 (length rests)

  -- past the last voter nobody pays
  pub payment_at : (v : ℕ) → slice_index (payments_of supporters price rests) v ≡ payment_of supporters price rests v
  unfolding payments_of
  payment_at v = elim (cases_lt v (length rests)) [
    | inl within ↦ get_or-map-range_with_len (payment_of supporters price rests) 0 (length rests) v v 0 within (omega arith)
    | inr past ↦
        let gone : slice_index (payments_of supporters price rests) v ≡ 0 = get_or_past (payments_of supporters price rests) v 0 (rw length-payments_of past) in
        let none : slice_index rests v ≡ 0 = get_or_past rests v 0 past in
        let small = paid-within_rest (is_listed supporters v) (slice_index rests v) price in
        omega (arith, gone, none, small)
  ]

  -- a rest is what is left after the payment
  pub charged_at : (v : ℕ) → slice_index (charged supporters price rests) v ≡ slice_index rests v - payment_of supporters price rests v
  unfolding charged
  charged_at v = elim (cases_lt v (length rests)) [
    | inl within ↦ get_or-map-range_with_len _ 0 (length rests) v v 0 within (omega arith)
    | inr past ↦
        let gone : slice_index (charged supporters price rests) v ≡ 0 = get_or_past (charged supporters price rests) v 0 (rw length-charged past) in
        let none : slice_index rests v ≡ 0 = get_or_past rests v 0 past in
        omega (arith, gone, none)
  ]

  pub payment-within_price : (v : ℕ) → payment_of supporters price rests v ≤ price
  payment-within_price v = paid-within_price (is_listed supporters v) (slice_index rests v) price

  pub payment-within_rest : (v : ℕ) → payment_of supporters price rests v ≤ slice_index rests v
  payment-within_rest v = paid-within_rest (is_listed supporters v) (slice_index rests v) price

  pub sum-payments_of : RisesWithin 0 (length rests) supporters
      → sum (payments_of supporters price rests) ≡ paid_at supporters rests price
  unfolding payments_of
  sum-payments_of h = sum-map (payment_of supporters price rests) (range_with_len 0 (length rests))
      ∙ sum_by-listed (λ v. min (slice_index rests v) price) supporters 0 (length rests) (length rests) (omega arith) h

  -- what is paid and what is left are what was there
  pub paid_and_left : (v : ℕ) → slice_index (payments_of supporters price rests) v + slice_index (charged supporters price rests) v ≡ slice_index rests v
  paid_and_left v =
      omega (arith, payment_at v, charged_at v, payment-within_rest v)

-- a sum over a list by places
sum_by_place : (xs : List ℕ) (n : ℕ) → length xs ≡ n → sum xs ≡ sum_by (λ k. slice_index xs k) (range_with_len 0 n)
sum_by_place xs n e =
    ap sum (fill_by_all (λ k. slice_index xs k) xs n 0 e (λ k below. refl)) ∙ sum-map (λ k. slice_index xs k) (range_with_len 0 n)

sum_by-add : (f g h : ℕ → ℕ) → ((k : ℕ) → f k + g k ≡ h k) → (xs : List ℕ) → sum_by f xs + sum_by g xs ≡ sum_by h xs
sum_by-add f g h e [] = refl
sum_by-add f g h e (x ∷ xs) =
    let others = sum_by-add f g h e xs in
    omega (arith, sum_by-cons f x xs, sum_by-cons g x xs, sum_by-cons h x xs, e x, others)

pub sum-charged : (supporters : List ℕ) (price : ℕ) (rests : List ℕ)
    → sum (payments_of supporters price rests) + sum (charged supporters price rests) ≡ sum rests
sum-charged supporters price rests =
    let all = sum_by-add (λ k. slice_index (payments_of supporters price rests) k) (λ k. slice_index (charged supporters price rests) k) (λ k. slice_index rests k)
    (paid_and_left supporters price rests) (range_with_len 0 (length rests)) in
    let paid = sum_by_place (payments_of supporters price rests) (length rests) (length-payments_of supporters price rests) in
    let left = sum_by_place (charged supporters price rests) (length rests) (length-charged supporters price rests) in
    let before = sum_by_place rests (length rests) refl in
    omega (arith, all, paid, left, before)
