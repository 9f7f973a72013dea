-- A pricing record in keys, where each round elects the best of what is left: as the queue makes it.
use Rattle.std.specs.Prelude.{◌≡◌, ℕ, Bool, true, false, Option, Some, None, List, [], ◌∷◌, ◌++◌, ◌-◌, ◌≤◌}
use Rattle.std.specs.Prelude.{MatchOption, not, nat_eq, map, length, replicate, if◌then◌else◌}
use Rattle.std.specs.List.{IsDistinct, range_with_len}
use Rattle.std.specs.Option.{option_map_or}
use Rattle.pb_price.specs.Inner.Payment.{nothing}
use Rattle.pb_price.specs.Price.{PriceView, due, price_at}
use Rattle.pb_price.specs.Supporters.{SupportView, supporters_at}
use Rattle.pb_rounds.specs.Key.{KeyView, is_before}
use Rattle.pb_rounds.specs.Inner.Listed.{is_listed}
use Rattle.pb_rounds.specs.Run.{best_of, charged, key_of, without}
use Rattle.pb_rounds.specs.declared.measure.Measure.{Measure}

-- the last known price of each project, once these are priced at these rests: none where it is known to have
-- none
abbrev pub known_after : SupportView → List ℕ → List ℕ → (ℕ → Option PriceView) → ℕ → Option PriceView
known_after s rests priced known place =
    if is_listed priced place then price_at s rests place else known place

-- the project's known price does not come after the winner's
abbrev pub is_in_time : Measure → SupportView → KeyView → (ℕ → Option PriceView) → ℕ → Bool
is_in_time m s winner known place =
    option_map_or (λ price. not (is_before winner (key_of m s place price))) (known place) false

-- the projects priced are some of those left, none twice
pub record AreSomeOf (left priced : List ℕ) : Type 0 where
  pub among : (place : ℕ) → is_listed priced place ≡ true → is_listed left place ≡ true
  pub once : IsDistinct nat_eq priced

-- all of these but at most one less than the workers were in time
pub record AreInTime (m : Measure) (s : SupportView) (workers : ℕ) (known : ℕ → Option PriceView) (winner : KeyView)
    (priced : List ℕ) : Type 0 where
  pub needed : List ℕ
  pub spare : List ℕ
  pub parts : priced ≡ needed ++ spare
  pub few : length spare ≤ workers - 1
  pub in_time : (place : ℕ) → is_listed needed place ≡ true → is_in_time m s winner known place ≡ true

-- A round that elects the winner, and prices these: the winner is among them; after the round no known price
-- of a project left comes before the winner's; and they were in time.
pub record IsKeyRound (m : Measure) (s : SupportView) (workers : ℕ) (rests left : List ℕ)
    (known : ℕ → Option PriceView)
    (winner : KeyView) (priced : List ℕ) : Type 0 where
  pub are_priced : AreSomeOf left priced
  pub has_winner : is_listed priced winner.place ≡ true
  pub none_before : (place : ℕ) (price : PriceView) → is_listed left place ≡ true
      → known_after s rests priced known place ≡ Some price
      → is_before (key_of m s place price) winner ≡ false
  pub were_in_time : AreInTime m s workers known winner priced

-- the last round, which elects nobody, and prices these: after it each project left is known to have no price
pub record IsKeyEnd (s : SupportView) (rests left : List ℕ) (known : ℕ → Option PriceView)
    (priced : List ℕ) : Type 0 where
  pub are_priced : AreSomeOf left priced
  pub all_none : (place : ℕ) → is_listed left place ≡ true → known_after s rests priced known place ≡ None

-- The lists of the projects priced, one for each round of a run from these rests on, with these projects left
-- and these known prices: each round but the last elects the best of it, and the next begins where it ends.
abbrev pub KeyRecord : Measure → SupportView → ℕ → List ℕ → List ℕ → (ℕ → Option PriceView) → List (List ℕ)
    → Type 0
KeyRecord m s workers rests left known [] = ⊥
KeyRecord m s workers rests left known (priced ∷ later) =
    MatchOption (best_of m s rests left)
    (IsKeyEnd s rests left known priced × (later ≡ []))
    (λ winner. IsKeyRound m s workers rests left known winner priced
    × KeyRecord m s workers (charged (supporters_at s winner.place) (due winner.price) rests)
    (without winner.place left)
    (known_after s rests priced known) later)

-- these are the numbers of prices of such a record of a run at this share, where each known price is 0 at
-- first
abbrev pub HasKeyRecord : Measure → SupportView → ℕ → ℕ → List ℕ → Type 0
HasKeyRecord m s workers share priced = (record_of : List (List ℕ))
    × KeyRecord m s workers (replicate s.voters share) (range_with_len 0 (length s.costs))
    (λ _. Some nothing) record_of
    × (priced ≡ map length record_of)
