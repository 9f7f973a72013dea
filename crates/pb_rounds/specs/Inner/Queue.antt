-- The queue of stale prices as the code keeps it. Only clauses of private functions speak of it.
use Rattle.std.specs.Prelude.{◌≡◌, ◌≢◌, ℕ, Bool, true, false, Option, Some, None, List, [], ◌∷◌, ◌++◌, ◌<◌}
use Rattle.std.specs.Prelude.{◌≤◌, ◌⊎◌, map, length, slice_index_or}
use Rattle.pb_price.specs.Inner.Payment.{nothing}
use Rattle.pb_price.specs.Supporters.{SupportView}
use Rattle.pb_rounds.specs.Key.{KeyView, first_least, is_before}
use Rattle.pb_rounds.specs.Run.{ElectedView, is_elected, key_of, keys_at}
use Rattle.pb_rounds.specs.declared.measure.Measure.{Measure}

-- x is an element of the list
abbrev pub IsIn : {X : Type 0} → X → List X → Type 0
IsIn x [] = ⊥
IsIn x (y ∷ ys) = (x ≡ y) ⊎ IsIn x ys

-- each key comes before those after it
abbrev pub Rises : List KeyView → Type 0
Rises [] = Unit {0}
Rises (k ∷ keys) = ((later : KeyView) → IsIn later keys → is_before k later ≡ true) × Rises keys

-- the places of keys
abbrev pub places_of : List KeyView → List ℕ
places_of keys = map (λ k. k.place) keys

-- the best that was priced in a round does not come before this head
abbrev pub IsTaken : Option KeyView → KeyView → Type 0
IsTaken None head = Unit {0}
IsTaken (Some best) head = is_before best head ≡ false

-- there is no head, or the best that was priced in a round comes before it
abbrev pub IsDone : Option KeyView → List KeyView → Type 0
IsDone best [] = Unit {0}
IsDone None (head ∷ queue) = ⊥
IsDone (Some best) (head ∷ queue) = is_before best head ≡ true

-- some heads are taken from the queue, at most this many, and their places put after others; none only in a
-- round done
pub record TakesHeads (best : Option KeyView) (most : ℕ) (queue rest : List KeyView)
    (places all : List ℕ) : Type 0 where
  pub heads : List KeyView
  pub cut : queue ≡ heads ++ rest
  pub placed : all ≡ places ++ places_of heads
  pub few : length heads ≤ most
  pub taken : (head : KeyView) (others : List KeyView) → heads ≡ head ∷ others → IsTaken best head
  pub done : heads ≡ [] → IsDone best queue

-- A round took some heads from the queue, in batches of at most this many, and priced them: the last batch
-- was begun since no key priced before came before its head; what is left of the queue comes after the best
-- of all.
pub record PricesHeads (m : Measure) (s : SupportView) (rests : List ℕ) (most : ℕ) (queue rest : List KeyView)
    (places : List ℕ) (fresh : List KeyView) (best : Option KeyView) : Type 0 where
  pub early : List KeyView
  pub batch : List KeyView
  pub cut : queue ≡ (early ++ batch) ++ rest
  pub placed : places ≡ places_of (early ++ batch)
  pub fresh_are : fresh ≡ keys_at m s rests places
  pub best_is : best ≡ first_least is_before fresh
  pub few : length batch ≤ most
  pub taken : (head : KeyView) (others : List KeyView) → batch ≡ head ∷ others
      → IsTaken (first_least is_before (keys_at m s rests (places_of early))) head
  pub begun : batch ≡ [] → early ≡ []

-- the keys but the one of this place are put back into the queue
pub record PutsBack (place : ℕ) (fresh queue all : List KeyView) : Type 0 where
  pub from : (k : KeyView) → IsIn k all → IsIn k queue ⊎ (IsIn k fresh × (k.place ≢ place))
  pub kept : (k : KeyView) → IsIn k queue → IsIn k all
  pub put : (k : KeyView) → IsIn k fresh → k.place ≢ place → IsIn k all
  pub rises : Rises all

-- the keys of the first places, each at a price of nothing
pub record IsFull (m : Measure) (s : SupportView) (projects : ℕ) (queue : List KeyView) : Type 0 where
  pub sound : (k : KeyView) → IsIn k queue → (k.place < projects) × (k ≡ key_of m s k.place nothing)
  pub whole : (place : ℕ) → place < projects → IsIn (key_of m s place nothing) queue
  pub rises : Rises queue

-- a mark for each project: whether it is elected
pub record AreMarked (s : SupportView) (elected : List ElectedView) (marks : List Bool) : Type 0 where
  pub one_each : length marks ≡ length s.costs
  pub marked : (place : ℕ) → place < length s.costs
      → slice_index_or marks place false ≡ is_elected elected place
