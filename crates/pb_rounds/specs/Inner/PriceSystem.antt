-- That there is a price system.
use Rattle.std.specs.Prelude.{ℕ, List}
use Rattle.pb_price.specs.Supporters.{SupportView}
use Rattle.pb_rounds.specs.PriceSystem.{IsPriceSystem}
use Rattle.pb_rounds.specs.Run.{ElectedView}

-- there are payments that are a price system of it
abbrev pub HasPriceSystem : SupportView → (share : ℕ) → List ElectedView → List ℕ → Type 0
HasPriceSystem s share elected rests =
    (payments : List (List ℕ)) × IsPriceSystem s share elected rests payments
