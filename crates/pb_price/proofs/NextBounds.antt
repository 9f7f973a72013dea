-- The next bound of a price, by the money that is counted.
use Rattle.std.proofs.Common.{◌≡◌, ℕ, ◌*◌, ◌<◌, ◌≤◌, max, List, Some, refl, sym, subst, ap, inl, inr, arith}
use Rattle.std.proofs.lemmas.Bool.{cases_lt}
use Rattle.pb_price.specs.Price.{AtMost, HasPayers, IsLeastPayment, IsPrice, IsPriceIn, IsUnrounded, PriceView}
use Rattle.pb_price.specs.Supporters.{SupportView, cost_in_parts, supporters_at}
use Rattle.pb_price.specs.declared.grain.Grain.{Grain}
use Rattle.pb_price.specs.declared.grain.Grain.TheVariants.{Fine, Hundredths}
use Rattle.pb_price.proofs.Prices.{whole_at_most, whole_price}
use Rattle.pb_price.proofs.Unrounded.{same_price}

-- of prices that each pays alone the amounts are in order
pub whole_amounts : (p q : PriceView) → p.payers ≡ 1 → q.payers ≡ 1 → AtMost p q → p.amount ≤ q.amount
whole_amounts p q one other (inr same) = omega (arith, ap (λ (r : PriceView). r.amount) same)
whole_amounts p q one other (inl less) =
    let left : p.amount * max 1 q.payers ≡ p.amount * 1 = ap (λ n. p.amount * max 1 n) other in
    let right : q.amount * max 1 p.payers ≡ q.amount * 1 = ap (λ n. q.amount * max 1 n) one in
    omega (arith, left, right, less)

-- ---- in hundredths

module _ (s : SupportView) (rests : List ℕ) (place : ℕ) (whole : s.grain ≡ Hundredths) where
  pub least_of_price : (p : PriceView) → IsPrice s rests place (Some p) → IsLeastPayment (supporters_at s place) rests (cost_in_parts s place) p.amount × (p.payers ≡ 1)
  least_of_price p is = subst (λ (g : Grain). IsPriceIn g (supporters_at s place) rests (cost_in_parts s place) p) whole is

  pub price_of_least : (p : PriceView) → IsLeastPayment (supporters_at s place) rests (cost_in_parts s place) p.amount → p.payers ≡ 1 → IsPrice s rests place (Some p)
  price_of_least p least one = subst (λ (g : Grain). IsPriceIn g (supporters_at s place) rests (cost_in_parts s place) p) (sym whole) (least, one)

  module _ (bound : PriceView) (payers : HasPayers s bound) (at_most : (price : PriceView) → IsPrice s rests place (Some price) → AtMost bound price) where
    pub whole_bound : (payment : ℕ) → IsLeastPayment (supporters_at s place) rests (cost_in_parts s place) payment → bound.amount ≤ payment
    whole_bound payment least =
        whole_amounts bound (whole_price payment) (payers.alone whole) refl (at_most (whole_price payment) (price_of_least (whole_price payment) least refl))

    module _ (next : ℕ) where
      pub whole_payers : HasPayers s (whole_price next)
      whole_payers = record { some = omega arith; few = omega arith; alone = λ same. refl }

      pub whole_rises : bound.amount ≤ next → AtMost bound (whole_price next)
      whole_rises rises = whole_at_most bound (whole_price next) (payers.alone whole) refl rises

      pub whole_found : (next ≡ bound.amount → IsLeastPayment (supporters_at s place) rests (cost_in_parts s place) bound.amount)
          → whole_price next ≡ bound → IsPrice s rests place (Some bound)
      whole_found least same = price_of_least bound (least (ap (λ (p : PriceView). p.amount) same)) (payers.alone whole)

      pub whole_small : bound.amount ≤ next → (bound.amount < next → next ≤ cost_in_parts s place) → (whole_price next ≡ bound → ⊥) → next ≤ cost_in_parts s place
      whole_small rises small differs = elim (cases_lt bound.amount next) [
        | inl less ↦ small less
        | inr most ↦ absurd (differs (same_price (whole_price next) bound (omega (arith, rises, most)) (sym (payers.alone whole))))
      ]

      pub whole_next : ((payment : ℕ) → IsLeastPayment (supporters_at s place) rests (cost_in_parts s place) payment → next ≤ payment)
          → (price : PriceView) → IsPrice s rests place (Some price) → AtMost (whole_price next) price
      whole_next most price is = let least = least_of_price price is in whole_at_most (whole_price next) price refl least.1 (most price.amount least.0)

-- ---- in fine money

module _ (s : SupportView) (rests : List ℕ) (place : ℕ) (fine : s.grain ≡ Fine) where
  pub unrounded_of_price : (p : PriceView) → IsPrice s rests place (Some p) → IsUnrounded (supporters_at s place) rests (cost_in_parts s place) p
  unrounded_of_price p is = subst (λ (g : Grain). IsPriceIn g (supporters_at s place) rests (cost_in_parts s place) p) fine is

  pub price_of_unrounded : (p : PriceView) → IsUnrounded (supporters_at s place) rests (cost_in_parts s place) p → IsPrice s rests place (Some p)
  price_of_unrounded p is = subst (λ (g : Grain). IsPriceIn g (supporters_at s place) rests (cost_in_parts s place) p) (sym fine) is
