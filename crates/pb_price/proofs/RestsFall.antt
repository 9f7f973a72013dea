-- Prices where no rest rises: none falls, and none comes where there was none.
use Rattle.std.proofs.Common.{◌≡◌, ℕ, ◌≤◌, min, List, Some, None, inl, inr, arith}
use Rattle.std.specs.Prelude.{slice_index}
use Rattle.std.proofs.lemmas.Bool.{cases_lt}
use Rattle.std.proofs.lemmas.List.Sums.{sum_by-le-sum_by}
use Rattle.pb_price.specs.Price.{paid_at, price_of, total_rest, IsLeastPayment}
use Rattle.pb_price.specs.Inner.Lists.{NoRestRises}
use Rattle.pb_price.proofs.Payments.{least_from_price, no_price_from_short, short_from_no_price}

-- nobody pays more
pub paid_at_falls : (supporters before after : List ℕ) (p : ℕ) → NoRestRises before after
    → paid_at supporters after p ≤ paid_at supporters before p
paid_at_falls supporters before after p h =
    sum_by-le-sum_by (λ v. min (slice_index after v) p) (λ v. min (slice_index before v) p) supporters (λ v. omega (arith, h v))

-- all together have no more left
pub total_rest_falls : (supporters before after : List ℕ) → NoRestRises before after
    → total_rest supporters after ≤ total_rest supporters before
total_rest_falls supporters before after h =
    sum_by-le-sum_by (λ v. slice_index after v) (λ v. slice_index before v) supporters h

-- no least payment falls
pub least_rises : (supporters before after : List ℕ) (cost p q : ℕ) → NoRestRises before after
    → IsLeastPayment supporters before cost p → IsLeastPayment supporters after cost q → p ≤ q
least_rises supporters before after cost p q h earlier later = elim (cases_lt q p) [
  | inl less ↦ absurd (omega (arith, earlier.least q less, later.covers, paid_at_falls supporters before after q h))
  | inr most ↦ most
]

-- no price falls
pub no_price_falls : (supporters before after : List ℕ) (cost p q : ℕ) → NoRestRises before after
    → price_of supporters before cost ≡ Some p → price_of supporters after cost ≡ Some q → p ≤ q
no_price_falls supporters before after cost p q h b a =
    least_rises supporters before after cost p q h (least_from_price supporters before cost p b) (least_from_price supporters after cost q a)

-- what had no price gets none
pub no_price_stays : (supporters before after : List ℕ) (cost : ℕ) → NoRestRises before after
    → price_of supporters before cost ≡ None → price_of supporters after cost ≡ None
no_price_stays supporters before after cost h b =
    no_price_from_short supporters after cost
    (omega (arith, short_from_no_price supporters before cost b, total_rest_falls supporters before after h))
