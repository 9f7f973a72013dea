-- What supporters pay at a payment, and the price as the least payment that covers the cost.
use Rattle.std.proofs.Common.{◌≡◌, ℕ, zero, suc, ◌+◌, ◌<◌, ◌≤◌, min, List, [], ◌∷◌, length, Option, Some, None, refl, sym, subst, ◌∙◌, ap, inl, inr, arith}
use Rattle.std.specs.Prelude.{MatchOption, nat_le, slice_index}
use Rattle.std.proofs.lemmas.Bool.{leb-true, leb-false, cases_lt}
use Rattle.std.proofs.lemmas.List.Sums.{sum_by-cons, sum_by-le-sum_by}
use Rattle.pb_price.specs.Inner.Payment.{IsPriceFor}
use Rattle.pb_price.specs.Price.{paid_at, total_rest, price_of, IsLeastPayment}
use Rattle.pb_price.proofs.FirstInRange.{IsFirstInRange, NoneInRange, find-range_with_len}

-- who pays more each pays more together
pub paid_at_rises : (supporters rests : List ℕ) (p q : ℕ) → p ≤ q
    → paid_at supporters rests p ≤ paid_at supporters rests q
paid_at_rises supporters rests p q h =
    sum_by-le-sum_by (λ v. min (slice_index rests v) p) (λ v. min (slice_index rests v) q) supporters (λ v. omega arith)

-- nobody pays more than what is left
pub paid_at-le-total_rest : (supporters rests : List ℕ) (p : ℕ) → paid_at supporters rests p ≤ total_rest supporters rests
paid_at-le-total_rest supporters rests p =
    sum_by-le-sum_by (λ v. min (slice_index rests v) p) (λ v. slice_index rests v) supporters (λ v. omega arith)

-- at a payment all pay at least as much as one of them would, or all that they have
pub pays_all_or_one : (supporters rests : List ℕ) (p : ℕ)
    → min (total_rest supporters rests) p ≤ paid_at supporters rests p
pays_all_or_one [] rests p = omega arith
pays_all_or_one (v ∷ vs) rests p =
    let here = sum_by-cons (λ v. min (slice_index rests v) p) v vs in
    let there = sum_by-cons (λ v. slice_index rests v) v vs in
    omega (arith, here, there, pays_all_or_one vs rests p)

-- nobody pays anything at 0
pub paid_at-zero : (supporters rests : List ℕ) → paid_at supporters rests 0 ≡ 0
paid_at-zero [] rests = refl
paid_at-zero (v ∷ vs) rests =
    let pay : ℕ → ℕ = λ v. min (slice_index rests v) 0 in
    let here = sum_by-cons pay v vs in
    let others = paid_at-zero vs rests in
    omega (arith, here, others)

-- one hundredth more from each is at most one for each supporter
pub paid_at-suc : (supporters rests : List ℕ) (p : ℕ)
    → paid_at supporters rests (suc p) ≤ paid_at supporters rests p + length supporters
paid_at-suc [] rests p = omega arith
paid_at-suc (v ∷ vs) rests p =
    let more : ℕ → ℕ = λ v. min (slice_index rests v) (suc p) in
    let pay : ℕ → ℕ = λ v. min (slice_index rests v) p in
    let here = sum_by-cons more v vs in
    let there = sum_by-cons pay v vs in
    let others = paid_at-suc vs rests p in
    omega (arith, here, there, others)

-- rounding up collects less than one hundredth a supporter above the cost
pub collected_below : (supporters rests : List ℕ) (cost p : ℕ) → IsLeastPayment supporters rests cost p
    → 0 < cost → paid_at supporters rests p < cost + length supporters
collected_below supporters rests cost zero h c =
    absurd (omega (arith, paid_at-zero supporters rests, h.covers))
collected_below supporters rests cost (suc p) h c =
    omega (arith, paid_at-suc supporters rests p, h.least p (omega arith))

-- a project has a price where its supporters' rests together reach its cost
pub total_rest_covers : (supporters rests : List ℕ) (cost p : ℕ) → IsLeastPayment supporters rests cost p
    → cost ≤ total_rest supporters rests
total_rest_covers supporters rests cost p h =
    omega (arith, paid_at-le-total_rest supporters rests p, h.covers)

-- there is one least payment
pub least_is_unique : (supporters rests : List ℕ) (cost p q : ℕ) → IsLeastPayment supporters rests cost p
    → IsLeastPayment supporters rests cost q → p ≡ q
least_is_unique supporters rests cost p q h g = elim (cases_lt p q) [
  | inl less ↦ absurd (omega (arith, g.least p less, h.covers))
  | inr rest ↦ elim (cases_lt q p) [
    | inl less ↦ absurd (omega (arith, h.least q less, g.covers))
    | inr same ↦ omega arith
  ]
]

price_from_range : (supporters rests : List ℕ) (cost : ℕ) (o : Option ℕ)
    → MatchOption o
    (NoneInRange (λ p. nat_le cost (paid_at supporters rests p)) 0 (cost + 1))
    (IsFirstInRange (λ p. nat_le cost (paid_at supporters rests p)) 0 (cost + 1))
    → IsPriceFor supporters rests cost o
price_from_range supporters rests cost None h =
    let short = leb-false cost (paid_at supporters rests cost) (h cost (omega arith) (omega arith)) in
    omega (arith, short, pays_all_or_one supporters rests cost)
price_from_range supporters rests cost (Some p) h = record {
  covers = leb-true cost (paid_at supporters rests p) h.passes;
  least = λ q less. leb-false cost (paid_at supporters rests q) (h.first q (omega arith) less);
}

-- the price is what its definition says: the least payment that covers the cost, or none where all rests fall short
pub price_of_is_price : (supporters rests : List ℕ) (cost : ℕ)
    → IsPriceFor supporters rests cost (price_of supporters rests cost)
unfolding price_of
price_of_is_price supporters rests cost =
    price_from_range supporters rests cost _
    (find-range_with_len (λ p. nat_le cost (paid_at supporters rests p)) (cost + 1) 0 (cost + 1) (omega arith))

IsPriceFor-unique : (supporters rests : List ℕ) (cost : ℕ) (a b : Option ℕ)
    → IsPriceFor supporters rests cost a → IsPriceFor supporters rests cost b → a ≡ b
IsPriceFor-unique supporters rests cost None None h g = refl
IsPriceFor-unique supporters rests cost None (Some q) h g =
    absurd (omega (arith, h, total_rest_covers supporters rests cost q g))
IsPriceFor-unique supporters rests cost (Some p) None h g =
    absurd (omega (arith, g, total_rest_covers supporters rests cost p h))
IsPriceFor-unique supporters rests cost (Some p) (Some q) h g =
    ap (λ n. Some n) (least_is_unique supporters rests cost p q h g)

-- and what is so is the price
pub price_from_is_price : (supporters rests : List ℕ) (cost : ℕ) (answer : Option ℕ)
    → IsPriceFor supporters rests cost answer → answer ≡ price_of supporters rests cost
price_from_is_price supporters rests cost answer h =
    IsPriceFor-unique supporters rests cost answer (price_of supporters rests cost) h (price_of_is_price supporters rests cost)

IsPriceFor-at : (supporters rests : List ℕ) (cost : ℕ) (a b : Option ℕ) → a ≡ b
    → IsPriceFor supporters rests cost a → IsPriceFor supporters rests cost b
IsPriceFor-at supporters rests cost a b e h = rw (← e) h

-- a price is the least payment that covers the cost
pub least_from_price : (supporters rests : List ℕ) (cost p : ℕ) → price_of supporters rests cost ≡ Some p
    → IsLeastPayment supporters rests cost p
least_from_price supporters rests cost p e =
    IsPriceFor-at supporters rests cost _ (Some p) e (price_of_is_price supporters rests cost)

pub price_from_least : (supporters rests : List ℕ) (cost p : ℕ) → IsLeastPayment supporters rests cost p
    → price_of supporters rests cost ≡ Some p
price_from_least supporters rests cost p h = sym (price_from_is_price supporters rests cost (Some p) h)

-- there is no price just where all rests together are below the cost
pub short_from_no_price : (supporters rests : List ℕ) (cost : ℕ) → price_of supporters rests cost ≡ None
    → total_rest supporters rests < cost
short_from_no_price supporters rests cost e =
    IsPriceFor-at supporters rests cost _ None e (price_of_is_price supporters rests cost)

pub no_price_from_short : (supporters rests : List ℕ) (cost : ℕ) → total_rest supporters rests < cost
    → price_of supporters rests cost ≡ None
no_price_from_short supporters rests cost h = sym (price_from_is_price supporters rests cost None h)
