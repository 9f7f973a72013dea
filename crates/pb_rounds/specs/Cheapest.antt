-- That each elected project was the cheapest of its round.
use Rattle.std.specs.Prelude.{◌≡◌, ◌≢◌, ℕ, ◌*◌, ◌<◌, ◌⊎◌, List, [], ◌∷◌, ◌++◌, All, Some, None, length}
use Rattle.std.specs.Prelude.{replicate}
use Rattle.pb_price.specs.Supporters.{SupportView, IsSupport, supporters_at, cost_at}
use Rattle.pb_price.specs.Price.{PriceView, due, paid_at, IsPrice}
use Rattle.pb_rounds.specs.Run.{ElectedView, charged, weight_of}
use Rattle.pb_rounds.specs.declared.measure.Measure.{Measure}

-- A project is cheaper than another, each at its price, where its price is less for each unit of utility that
-- a supporter has of it, or as much, and it stands earlier. An approval is worth 1 under measure
-- votes, and under measure cost the project's cost. Prices, amounts over payers, are compared by cross products.
abbrev pub IsCheaper : Measure → SupportView → (place : ℕ) (price : PriceView) (other : ℕ) (other_price : PriceView) → Type 0
IsCheaper m s place price other other_price = let own = price.amount * (other_price.payers * weight_of m s other) in
    let its = other_price.amount * (price.payers * weight_of m s place) in (own < its) ⊎ ((own ≡ its) × place < other)

module _ (s : SupportView) where
  -- what is left to each voter once these elected are paid for, one after the other
  abbrev pub rests_after : List ℕ → List ElectedView → List ℕ
  rests_after rests [] = rests
  rests_after rests (w ∷ elected) = rests_after (charged (supporters_at s w.place) w.price rests) elected

  -- there is a project at this place, and it is none of these
  abbrev pub IsLeft : List ElectedView → ℕ → Type 0
  IsLeft elected place = (place < length s.costs) × All (λ w. w.place ≢ place) elected

module _ (m : Measure) (s : SupportView) where
  -- w was elected at these rests, after those before it, at its price. Of that, rounded down, it collected what its
  -- supporters could pay. It was cheaper than each other project that was left and could be paid.
  pub record WasCheapest (rests : List ℕ) (before : List ElectedView) (w : ElectedView) : Type 0 where
    pub was_left : IsLeft s before w.place
    pub priced : IsPrice s rests w.place (Some w.exact)
    pub rounded : w.price ≡ due w.exact
    pub collected : w.collected ≡ paid_at (supporters_at s w.place) rests w.price
    pub cheapest : (other : ℕ) (price : PriceView) → IsLeft s before other → other ≢ w.place
        → IsPrice s rests other (Some price) → IsCheaper m s w.place w.exact other price

  -- A run at this share elects these, in this order, and leaves these rests: each of the elected was the
  -- cheapest of its round, the rests are what all their payments left, and no project that is left has a price.
  -- The supporters are those of an election.
  pub record IsRun (share : ℕ) (elected : List ElectedView) (rests : List ℕ) : Type 0 where
    pub cheapest : (before : List ElectedView) (w : ElectedView) (later : List ElectedView) → elected ≡ before ++ w ∷ later
        → WasCheapest (rests_after s (replicate s.voters share) before) before w
    pub rests_are : rests ≡ rests_after s (replicate s.voters share) elected
    pub none_left : (place : ℕ) → IsLeft s elected place → IsPrice s rests place None
    pub is_support : IsSupport s
