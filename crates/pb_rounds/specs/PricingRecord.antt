-- Which prices a run computes: of the projects left, those whose last known price could still be the
-- cheapest.
use Rattle.std.specs.Prelude.{◌≡◌, ℕ, Option, Some, None, List, [], ◌∷◌, ◌-◌, All, Contains}
use Rattle.std.specs.Prelude.{nat_eq, map, length, replicate, take}
use Rattle.std.specs.List.{IsDistinct}
use Rattle.pb_price.specs.Price.{IsPrice, PriceView}
use Rattle.pb_price.specs.Supporters.{SupportView, supporters_at}
use Rattle.pb_rounds.specs.Cheapest.{IsCheaper, IsLeft}
use Rattle.pb_rounds.specs.Run.{ElectedView, charged}
use Rattle.pb_rounds.specs.declared.measure.Measure.{Measure}

-- These projects, which are left once these are elected, are priced at these rests, none twice. Of each
-- project the last known price is renewed or kept: none where it is known to have none.
pub record ArePriced (s : SupportView) (elected : List ElectedView) (rests priced : List ℕ)
    (known next : ℕ → Option PriceView) : Type 0 where
  pub are_left : All (IsLeft s elected) priced
  pub once : IsDistinct nat_eq priced
  pub renewed : (place : ℕ) → Contains priced place → IsPrice s rests place (next place)
  pub kept : (place : ℕ) → ¬ Contains priced place → next place ≡ known place

module _ (m : Measure) (s : SupportView) (workers : ℕ) where
  -- A round that elects w, after those before it, and prices these: w is among them; by the prices known next
  -- no other project left is cheaper than w; and w was not cheaper than any of them by the price known before,
  -- but for the last ones, at most one less than the workers.
  pub record IsPricedRound (before : List ElectedView) (known next : ℕ → Option PriceView) (w : ElectedView)
      (priced : List ℕ) : Type 0 where
    pub has_winner : Contains priced w.place
    pub none_cheaper : (place : ℕ) (price : PriceView) → IsLeft s before place → next place ≡ Some price
        → ¬ IsCheaper m s place price w.place w.exact
    pub in_time : All (λ place. (price : PriceView) × (known place ≡ Some price)
        × ¬ IsCheaper m s w.place w.exact place price) (take (length priced - (workers - 1)) priced)

  -- The lists of the projects priced, one for each round that elects one of these, from these rests and known
  -- prices on, after those before, and one for the last round, after which each project left is known to have
  -- no price.
  abbrev pub PricingRecord : List ℕ → List ElectedView → (ℕ → Option PriceView) → List ElectedView → List (List ℕ) → Type 0
  PricingRecord rests before known [] (priced ∷ []) = (next : ℕ → Option PriceView)
      × ArePriced s before rests priced known next × ((place : ℕ) → IsLeft s before place → next place ≡ None)
  PricingRecord rests before known (w ∷ elected) (priced ∷ later) = (next : ℕ → Option PriceView)
      × ArePriced s before rests priced known next × IsPricedRound before known next w priced
      × PricingRecord (charged (supporters_at s w.place) w.price rests) (w ∷ before) next elected later
  PricingRecord rests before known elected rounds = ⊥

  -- these are the numbers of prices of a pricing record of a run at this share, where each known price is 0 at
  -- first
  abbrev pub HasPricing : (share : ℕ) → (elected : List ElectedView) → List ℕ → Type 0
  HasPricing share elected priced = (record_of : List (List ℕ))
      × PricingRecord (replicate s.voters share) [] (λ _. Some (record { amount = 0; payers = 1 })) elected record_of
      × (priced ≡ map length record_of)
