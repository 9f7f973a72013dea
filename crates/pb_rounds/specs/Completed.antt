-- The completion by raises (Add1), in the words of its rule.
use Rattle.std.specs.Prelude.{ℕ, List, ◌+◌, ◌*◌, ◌<◌, ◌≤◌, ◌⊎◌, length}
use Rattle.pb_core.specs.Election.{ElectionView}
use Rattle.pb_price.specs.Supporters.{SupportView, support_in, supporters_at, cost_at}
use Rattle.pb_price.specs.declared.grain.Grain.{Grain}
use Rattle.pb_rounds.specs.Cheapest.{IsLeft, IsRun}
use Rattle.pb_rounds.specs.Count.{opening_share, spent_on}
use Rattle.pb_rounds.specs.Run.{ElectedView}
use Rattle.pb_rounds.specs.declared.measure.Measure.{Measure}

-- the elected are within the budget, and with any other project that somebody supports they would be over it
pub record IsExhausted (s : SupportView) (budget : ℕ) (elected : List ElectedView) : Type 0 where
  pub within : spent_on s elected ≤ budget
  pub no_room : (place : ℕ) → IsLeft s elected place → 0 < length (supporters_at s place)
      → budget < spent_on s elected + cost_at s place

-- counted so finely, with a step in the parts that are counted
module _ (m : Measure) (grain : Grain) (e : ElectionView) (step : ℕ) where
  -- a run after this many raises elects such as these
  abbrev pub After : ℕ → (List ElectedView → Type 0) → Type 0
  After raises IsSuch = (elected : List ElectedView) × (rests : List ℕ)
      × IsRun m (support_in grain e) (opening_share grain e + raises * step) elected rests × IsSuch elected

  -- the outcome after this many raises is neither over the budget nor exhausted
  abbrev pub GoesOn : ℕ → Type 0
  GoesOn raises = After raises (λ elected.
      (¬ (e.budget < spent_on (support_in grain e) elected)) × (¬ IsExhausted (support_in grain e) e.budget elected))

  -- Completion by raises, up to a limit of them: fewer raises go on, and after these the outcome is exhausted,
  -- or it goes on and one raise more, which the limit allows, makes it over the budget.
  pub record IsCompleted (limit raises : ℕ) : Type 0 where
    pub within_limit : raises ≤ limit
    pub fewer_go_on : (fewer : ℕ) → fewer < raises → GoesOn fewer
    pub ends : After raises (IsExhausted (support_in grain e) e.budget) ⊎ (GoesOn raises × (raises < limit)
        × After (raises + 1) (λ elected. e.budget < spent_on (support_in grain e) elected))

  -- the raises are spent: after none, one, two and so on up to the limit the outcome goes on
  abbrev pub AreSpent : ℕ → Type 0
  AreSpent limit = (raises : ℕ) → raises ≤ limit → GoesOn raises
