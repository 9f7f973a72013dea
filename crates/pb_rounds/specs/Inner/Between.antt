-- When every share between two elects the same projects.
use Rattle.std.specs.Prelude.{◌≡◌, ℕ, Some, None, List, [], ◌∷◌, length, map, replicate, true}
use Rattle.std.specs.List.{range_with_len}
use Rattle.pb_price.specs.Price.{PriceView, due, price_at}
use Rattle.pb_price.specs.Supporters.{SupportView, supporters_at}
use Rattle.pb_rounds.specs.Key.{is_before}
use Rattle.pb_rounds.specs.Inner.Listed.{is_listed}
use Rattle.pb_rounds.specs.Run.{ElectedView, charged, key_of, run_of, without}
use Rattle.pb_rounds.specs.declared.measure.Measure.{Measure}

-- the places of the elected, in order of election
abbrev pub places_of_elected : List ElectedView → List ℕ
places_of_elected elected = map (λ w. w.place) elected

-- The elected of a smaller share are paid for one after the other from these rests, each at its price there:
-- each has one, and no other project left has a key that does not come after the elected one's at its price
-- of the smaller share. At the end no project left has a price.
abbrev pub KeepsElecting : Measure → SupportView → List ElectedView → List ℕ → List ℕ → Type 0
KeepsElecting m s [] rests left =
    (place : ℕ) → is_listed left place ≡ true → price_at s rests place ≡ None
KeepsElecting m s (w ∷ elected) rests left = (price : PriceView)
    × (price_at s rests w.place ≡ Some price)
    × ((other : ℕ) (p : PriceView) → is_listed (without w.place left) other ≡ true → price_at s rests other ≡ Some p
    → is_before (key_of m s w.place w.exact) (key_of m s other p) ≡ true)
    × KeepsElecting m s elected (charged (supporters_at s w.place) (due price) rests) (without w.place left)

-- the projects elected at the smaller share are so from the larger one
abbrev pub KeepsUpTo : Measure → SupportView → ℕ → ℕ → Type 0
KeepsUpTo m s small large =
    KeepsElecting m s (run_of m s small).elected (replicate s.voters large) (range_with_len 0 (length s.costs))
