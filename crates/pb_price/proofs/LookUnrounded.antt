-- One look at the supporters from a lower bound of an unrounded price, as the code has what it saw.
use Rattle.std.proofs.Common.{◌≡◌, ℕ, ◌+◌, ◌-◌, ◌*◌, ◌/◌, ◌%◌, ◌<◌, ◌≤◌, min, max, List, length, Option, Some, None, refl, sym, subst, ◌∙◌, ap, inl, inr, arith}
use Rattle.std.proofs.lemmas.List.Sums.{count_by-le-length, sum_by-le-sum_by}
use Rattle.std.specs.Prelude.{nat_le, slice_index}
use Rattle.std.proofs.lemmas.Bool.{cases_lt, le-leb, lt-leb}
use Rattle.pb_price.specs.Inner.Payment.{payers_from, total_below}
use Rattle.pb_price.specs.Price.{AtMost, IsUnrounded, PriceView, price_of, total_rest}
use Rattle.pb_price.proofs.Payments.{least_from_price, short_from_no_price}
use Rattle.pb_price.proofs.Prices.{at_most_is_below, below_is_at_most}
use Rattle.pb_price.proofs.Unrounded.{IsBelow, below_is_poor, from_is_rich, rest_unless, rounded_up_tells, same_price}
use Rattle.pb_price.proofs.UnroundedSteps.{found, next, next_at_most, next_payers, next_rises, poor_within, price_where_next_is_bound, unrounded_from_least}

-- there is a price where the rests together cover the cost
price_exists_by : (supporters rests : List ℕ) (cost : ℕ) → 0 < cost → cost ≤ total_rest supporters rests → (o : Option ℕ) → price_of supporters rests cost ≡ o
    → (p : PriceView) × IsUnrounded supporters rests cost p
price_exists_by supporters rests cost some enough None e = absurd (omega (arith, enough, short_from_no_price supporters rests cost e))
price_exists_by supporters rests cost some enough (Some payment) e =
    let least = least_from_price supporters rests cost payment e in
    (found supporters rests cost payment some least, unrounded_from_least supporters rests cost payment some least)

pub price_exists : (supporters rests : List ℕ) (cost : ℕ) → 0 < cost → cost ≤ total_rest supporters rests → (p : PriceView) × IsUnrounded supporters rests cost p
price_exists supporters rests cost some enough = price_exists_by supporters rests cost some enough _ refl

-- what some have is at most what all have
pub below_within_total : (supporters rests : List ℕ) (payment : ℕ) → total_below supporters rests payment ≤ total_rest supporters rests
below_within_total supporters rests payment =
    sum_by-le-sum_by (λ v. rest_unless (nat_le payment (slice_index rests v)) (slice_index rests v)) (λ v. slice_index rests v) supporters
    (λ v. elim (cases_lt (slice_index rests v) payment) [
      | inl less ↦ let here : rest_unless (nat_le payment (slice_index rests v)) (slice_index rests v) ≡ slice_index rests v =
          ap (λ b. rest_unless b (slice_index rests v)) (lt-leb payment (slice_index rests v) less) in omega (arith, here)
      | inr enough ↦ let here : rest_unless (nat_le payment (slice_index rests v)) (slice_index rests v) ≡ 0 =
          ap (λ b. rest_unless b (slice_index rests v)) (le-leb payment (slice_index rests v) (omega (arith, enough))) in omega (arith, here)
    ])

module _ (supporters list rests : List ℕ) (cost named : ℕ) (l : list ≡ supporters) (n : named ≡ cost) (some : 0 < cost)
    (bound : PriceView) (payers : 1 ≤ bound.payers) (at_most : (price : PriceView) → IsUnrounded supporters rests cost price → AtMost bound price)
    (payment : ℕ) (payment_is : payment ≡ bound.amount / bound.payers + min 1 (bound.amount % bound.payers)) where
  below_there : (price : PriceView) → IsUnrounded supporters rests cost price → total_below supporters rests payment ≤ cost
  below_there price is =
      let tells = below_is_poor supporters rests _ bound (rounded_up_tells bound payers) in
      let same = ap (total_below supporters rests) payment_is ∙ tells in
      let within = poor_within supporters rests cost bound price payers is (at_most_is_below bound price payers is.some (at_most price is)) in
      omega (arith, same, within)

  below_by : (named_total : total_rest supporters rests < cost) → total_below supporters rests payment ≤ cost
  below_by short = omega (arith, short, below_within_total supporters rests payment)

  -- what they have who have less than the bound is at most the cost
  pub look_below : total_below list rests payment ≤ cost
  look_below = rw l (elim (cases_lt (total_rest supporters rests) cost) [
    | inl short ↦ below_by short
    | inr enough ↦ let p = price_exists supporters rests cost some (omega (arith, enough)) in below_there p.0 p.1
  ])

  module _ (enough : cost ≤ total_rest supporters rests) (below k : ℕ) (below_is : below ≡ total_below list rests payment) (k_is : k ≡ payers_from list rests payment) where
    p : (q : PriceView) × IsUnrounded supporters rests cost q
    p = price_exists supporters rests cost some enough

    -- the next bound, as the code makes it
    abbrev pub made : PriceView
    made = record { amount = named - below; payers = k }

    made_is : (price : PriceView) (is : IsUnrounded supporters rests cost price)
        → made ≡ next supporters rests cost bound price payers is (at_most_is_below bound price payers is.some (at_most price is))
    made_is price is =
        let poor = ap (total_below supporters rests) payment_is ∙ below_is_poor supporters rests _ bound (rounded_up_tells bound payers) in
        let rich = ap (payers_from supporters rests) payment_is ∙ from_is_rich supporters rests _ bound (rounded_up_tells bound payers) in
        let belows = below_is ∙ ap (λ xs. total_below xs rests payment) l ∙ poor in
        same_price made (next supporters rests cost bound price payers is (at_most_is_below bound price payers is.some (at_most price is)))
        (omega (arith, n, belows)) (k_is ∙ ap (λ xs. payers_from xs rests payment) l ∙ rich)

    pub look_some : 1 ≤ k
    look_some =
        let more = next_payers supporters rests cost bound p.0 payers p.1 (at_most_is_below bound p.0 payers p.1.some (at_most p.0 p.1)) in
        let same = ap (λ (q : PriceView). q.payers) (made_is p.0 p.1) in omega (arith, more, same)

    pub look_few : k ≤ length list
    look_few = let few = count_by-le-length (λ v. nat_le payment (slice_index rests v)) list in omega (arith, few, k_is)

    pub look_rises : AtMost bound made
    look_rises =
        let at = at_most_is_below bound p.0 payers p.1.some (at_most p.0 p.1) in
        let rises = next_rises supporters rests cost bound p.0 payers p.1 at in
        below_is_at_most bound made payers look_some (subst (λ q. IsBelow bound q) (sym (made_is p.0 p.1)) rises)

    pub look_price : made ≡ bound → IsUnrounded supporters rests cost bound
    look_price same =
        let at = at_most_is_below bound p.0 payers p.1.some (at_most p.0 p.1) in
        price_where_next_is_bound supporters rests cost bound p.0 payers p.1 at (sym (made_is p.0 p.1) ∙ same)

    pub look_bound : (price : PriceView) → IsUnrounded supporters rests cost price → AtMost made price
    look_bound price is =
        let at = at_most_is_below bound price payers is.some (at_most price is) in
        let most = next_at_most supporters rests cost bound price payers is at in
        below_is_at_most made price look_some is.some (subst (λ q. IsBelow q price) (sym (made_is price is)) most)
