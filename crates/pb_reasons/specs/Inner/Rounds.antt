-- How the ties of a round are looked for, with a lower bound of each price; private contracts speak of it.
use Rattle.std.specs.Prelude.{◌≡◌, ℕ, ◌*◌, ◌<◌, ◌==◌, Bool, false, List, Option, Some, None, length, slice_index_or}
use Rattle.pb_price.specs.Price.{AtMost, HasPayers, PriceView, price_at}
use Rattle.pb_price.specs.Supporters.{SupportView}
use Rattle.pb_rounds.specs.Run.{ElectedView, is_elected, weight_of}
use Rattle.pb_rounds.specs.declared.measure.Measure.{Measure}

-- this price of the project at this place is as good as the winner's
abbrev pub is_as_good : Measure → SupportView → (winner : ElectedView) → (place : ℕ) (price : PriceView) → Bool
is_as_good m s winner place price =
    price.amount * (winner.exact.payers * weight_of m s winner.place) == winner.exact.amount * (price.payers * weight_of m s place)

-- the two numbers that are compared: what a price counts for, and what it has to count for, with so many payers, to be
-- as good as the winner's
abbrev pub scaled : Measure → SupportView → (winner : ElectedView) → (price : PriceView) → ℕ
scaled m s winner price = price.amount * (winner.exact.payers * weight_of m s winner.place)

abbrev pub target : Measure → SupportView → (winner : ElectedView) → (place : ℕ) (price : PriceView) → ℕ
target m s winner place price = winner.exact.amount * (price.payers * weight_of m s place)

-- a lower bound of a project's price at these rests, with payers as such prices have; none where the project is elected or has no price
abbrev pub IsTieBound : SupportView → (elected : List ElectedView) (rests : List ℕ) (place : ℕ) → Option PriceView → Type 0
IsTieBound s elected rests place None = is_elected elected place ≡ false → price_at s rests place ≡ None
IsTieBound s elected rests place (Some bound) =
    (is_elected elected place ≡ false) × HasPayers s bound
    × ((price : PriceView) → price_at s rests place ≡ Some price → AtMost bound price)

-- one of each project
pub record AreTieBounds (s : SupportView) (elected : List ElectedView) (rests : List ℕ) (bounds : List (Option PriceView)) : Type 0 where
  pub one_each : length bounds ≡ length s.costs
  pub each : (place : ℕ) → place < length s.costs
      → IsTieBound s elected rests place (slice_index_or bounds place None)
