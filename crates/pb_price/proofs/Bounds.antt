-- A lower bound of a price, and the next one.
use Rattle.std.proofs.Common.{◌≡◌, ℕ, ◌+◌, ◌-◌, ◌/◌, ◌%◌, ◌<◌, ◌≤◌, min, List, length, Option, Some, None, refl, sym, subst, ◌∙◌, ap, inl, inr, arith}
use Rattle.std.proofs.lemmas.Bool.{cases_lt}
use Rattle.pb_price.specs.Inner.Payment.{IsPriceFor, payers_above}
use Rattle.pb_price.specs.Price.{paid_at, price_of, total_rest, IsLeastPayment}
use Rattle.pb_price.proofs.Payments.{collected_below, least_from_price, paid_at-le-total_rest, paid_at_rises, price_of_is_price, short_from_no_price}
use Rattle.pb_price.proofs.PriceSteps.{above_pays, all_paid, part-le, starts_below, steps_below}

-- no price is below it
abbrev pub IsBound : List ℕ → List ℕ → ℕ → ℕ → Type 0
IsBound supporters rests cost bound = (price : ℕ) → IsLeastPayment supporters rests cost price → bound ≤ price

-- the cost divided by the supporters
pub base_is_bound : (supporters list rests : List ℕ) (cost named n : ℕ) → list ≡ supporters → named ≡ cost → n ≡ length list → 0 < n
    → IsBound supporters rests cost (named / n + min 1 (named % n))
base_is_bound supporters list rests cost named n l named_is n_is some = rw (← l, ← named_is) (bound_by n_is)
  where
    bound_by : n ≡ length list → IsBound list rests named (named / n + min 1 (named % n))
    bound_by same price least =
        let start = starts_below list rests named n same some in
        elim (cases_lt price (named / n + min 1 (named % n))) [
          | inl less ↦ absurd (let short = start.least price less in let covers = least.covers in omega arith)
          | inr most ↦ most
        ]

-- the price, or none, is what it is by definition
pub is_price_at : (supporters rests : List ℕ) (cost : ℕ) (answer : Option ℕ) → answer ≡ price_of supporters rests cost → IsPriceFor supporters rests cost answer
is_price_at supporters rests cost answer e = subst (IsPriceFor supporters rests cost) (sym e) (price_of_is_price supporters rests cost)

bound_fits_by : (supporters rests : List ℕ) (cost bound : ℕ) → 0 < cost → IsBound supporters rests cost bound
    → (o : Option ℕ) → price_of supporters rests cost ≡ o → paid_at supporters rests bound ≤ cost + length supporters
bound_fits_by supporters rests cost bound some h None e =
    omega (arith, short_from_no_price supporters rests cost e, paid_at-le-total_rest supporters rests bound)
bound_fits_by supporters rests cost bound some h (Some p) e =
    let least = least_from_price supporters rests cost p e in
    omega (arith, paid_at_rises supporters rests bound p (h p least), collected_below supporters rests cost p least some)

-- what is paid at a bound is little more than the cost
pub bound_fits : (supporters rests : List ℕ) (cost bound : ℕ) → 0 < cost → IsBound supporters rests cost bound
    → paid_at supporters rests bound ≤ cost + length supporters
bound_fits supporters rests cost bound some h = bound_fits_by supporters rests cost bound some h _ refl

covered_by : (supporters rests : List ℕ) (cost bound : ℕ) → IsBound supporters rests cost bound → cost ≤ paid_at supporters rests bound
    → (o : Option ℕ) → price_of supporters rests cost ≡ o → price_of supporters rests cost ≡ Some bound
covered_by supporters rests cost bound h covers None e =
    absurd (omega (arith, short_from_no_price supporters rests cost e, paid_at-le-total_rest supporters rests bound, covers))
covered_by supporters rests cost bound h covers (Some p) e =
    let least = least_from_price supporters rests cost p e in
    let most : p ≤ bound = elim (cases_lt bound p) [
      | inl less ↦ absurd (let short = least.least bound less in omega arith)
      | inr at_most ↦ at_most
    ] in
    let same : p ≡ bound = (let above = h p least in omega arith) in
    e ∙ ap (λ n. Some n) same

-- a bound that covers the cost is the price
pub bound_covers : (supporters rests : List ℕ) (cost bound : ℕ) → IsBound supporters rests cost bound → cost ≤ paid_at supporters rests bound
    → price_of supporters rests cost ≡ Some bound
bound_covers supporters rests cost bound h covers = covered_by supporters rests cost bound h covers _ refl

-- one that does not is below the price, and the next bound is not above it
module _ (supporters rests : List ℕ) (cost bound m : ℕ) (same : m ≡ payers_above supporters rests bound)
    (short : paid_at supporters rests bound < cost) (enough : cost ≤ total_rest supporters rests) where
  pub some_payer : 0 < m
  some_payer = elim (cases_lt 0 m) [
    | inl some ↦ some
    | inr none ↦
        let nobody : payers_above supporters rests bound ≡ 0 = omega (arith, same, none) in
        absurd (omega (arith, all_paid supporters rests bound nobody, short, enough))
  ]

  pub next_is_small : bound + ((cost - paid_at supporters rests bound) / m + min 1 ((cost - paid_at supporters rests bound) % m)) ≤ cost
  next_is_small =
      let part = part-le (cost - paid_at supporters rests bound) m some_payer in
      let paid = above_pays supporters rests bound (omega (arith, same, some_payer)) in
      omega (arith, part, paid, short)

  pub next_is_bound : IsBound supporters rests cost
      (bound + ((cost - paid_at supporters rests bound) / m + min 1 ((cost - paid_at supporters rests bound) % m)))
  next_is_bound price least =
      let below = steps_below supporters rests cost bound m same some_payer short in
      elim (cases_lt price (bound + ((cost - paid_at supporters rests bound) / m + min 1 ((cost - paid_at supporters rests bound) % m)))) [
        | inl less ↦ absurd (let missing = below.least price less in let covers = least.covers in omega arith)
        | inr most ↦ most
      ]

-- one look at the supporters, as the code has what it saw
module _ (supporters list rests : List ℕ) (cost named bound total m all : ℕ) (l : list ≡ supporters) (n : named ≡ cost)
    (total_is : total ≡ paid_at list rests bound) (m_is : m ≡ payers_above list rests bound) (all_is : all ≡ total_rest list rests) where
  total_at : total ≡ paid_at supporters rests bound
  total_at = total_is ∙ ap (λ xs. paid_at xs rests bound) l

  payers_at : m ≡ payers_above supporters rests bound
  payers_at = m_is ∙ ap (λ xs. payers_above xs rests bound) l

  all_at : all ≡ total_rest supporters rests
  all_at = all_is ∙ ap (λ xs. total_rest xs rests) l

  pub look_covers : IsBound supporters rests cost bound → named ≤ total → IsLeastPayment supporters rests cost bound
  look_covers h covers = least_from_price supporters rests cost bound (bound_covers supporters rests cost bound h (omega (arith, covers, n, total_at)))

  pub look_none : all < named → total_rest supporters rests < cost
  look_none short = omega (arith, short, n, all_at)

  module _ (short : total < named) (enough : named ≤ all) where
    short_at : paid_at supporters rests bound < cost
    short_at = omega (arith, short, n, total_at)

    enough_at : cost ≤ total_rest supporters rests
    enough_at = omega (arith, enough, n, all_at)

    pub look_payer : 0 < m
    look_payer = some_payer supporters rests cost bound m payers_at short_at enough_at

    module _ (part : ℕ) (part_is : part ≡ (named - total) / m + min 1 ((named - total) % m)) where
      next_at : bound + part ≡ bound + ((cost - paid_at supporters rests bound) / m + min 1 ((cost - paid_at supporters rests bound) % m))
      next_at =
          let missing : named - total ≡ cost - paid_at supporters rests bound = omega (arith, n, total_at) in
          ap (λ k. bound + k) (part_is ∙ ap (λ k. k / m + min 1 (k % m)) missing)

      pub look_bound : IsBound supporters rests cost (bound + part)
      look_bound = subst (IsBound supporters rests cost) (sym next_at) (next_is_bound supporters rests cost bound m payers_at short_at enough_at)

      pub look_small : bound + part ≤ cost
      look_small = let small = next_is_small supporters rests cost bound m payers_at short_at enough_at in omega (arith, small, next_at)
