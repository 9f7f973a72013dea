-- The queue of a trial: a lower bound of the price of each project that may still be paid. Only clauses of
-- private functions speak of it.
use Rattle.std.specs.Prelude.{◌≡◌, ℕ, Option, None, Some, List, ◌∷◌, ◌++◌, [], ◌<◌, ◌≤◌, length, replicate}
use Rattle.std.specs.Prelude.{true}
use Rattle.pb_price.specs.Price.{AtMost, HasPayers, PriceView, due, price_at}
use Rattle.pb_price.specs.Supporters.{SupportView, supporters_at}
use Rattle.pb_rounds.specs.Key.{KeyView, is_before}
use Rattle.pb_rounds.specs.Outcome.{OutcomeView}
use Rattle.pb_rounds.specs.Inner.Queue.{IsIn, Rises}
use Rattle.pb_rounds.specs.Inner.Listed.{is_listed}
use Rattle.pb_rounds.specs.Run.{ElectedView, best_of, charged, elected_by, key_of, without}
use Rattle.pb_rounds.specs.declared.measure.Measure.{Measure}

-- the queue has a key for each project left that has a price at these rests, and none at a higher price
pub record HasBounds (m : Measure) (s : SupportView) (rests left : List ℕ) (queue : List KeyView) : Type 0 where
  pub known : (place : ℕ) → is_listed left place ≡ true → place < length s.costs
  pub are_left : (k : KeyView) → IsIn k queue → is_listed left k.place ≡ true
  pub are_keys : (k : KeyView) → IsIn k queue → k ≡ key_of m s k.place k.price
  pub payers : (k : KeyView) → IsIn k queue → HasPayers s k.price
  pub lower : (k : KeyView) (p : PriceView) → IsIn k queue → price_at s rests k.place ≡ Some p → AtMost k.price p
  pub one_each : (first second : KeyView) → IsIn first queue → IsIn second queue → first.place ≡ second.place
      → first ≡ second
  pub whole : (place : ℕ) (p : PriceView) → is_listed left place ≡ true → price_at s rests place ≡ Some p
      → (k : KeyView) × IsIn k queue × (k.place ≡ place)
  pub rises : Rises queue

-- the keys of the first places that can be paid at this share, each at its price there
pub record IsOpening (m : Measure) (s : SupportView) (share places : ℕ) (queue : List KeyView) : Type 0 where
  pub known : (k : KeyView) → IsIn k queue → k.place < places
  pub priced : (k : KeyView) → IsIn k queue → price_at s (replicate s.voters share) k.place ≡ Some k.price
  pub are_keys : (k : KeyView) → IsIn k queue → k ≡ key_of m s k.place k.price
  pub payers : (k : KeyView) → IsIn k queue → HasPayers s k.price
  pub whole : (place : ℕ) (p : PriceView) → place < places → price_at s (replicate s.voters share) place ≡ Some p
      → IsIn (key_of m s place p) queue
  pub rises : Rises queue

-- the key comes after the limit; without a limit none does
abbrev pub IsBeyond : Option KeyView → KeyView → Type 0
IsBeyond None k = ⊥
IsBeyond (Some limit) k = is_before limit k ≡ true

-- what a search of the queue up to a limit gives: the best project, which is taken out; or none, where each
-- project left that has a price is beyond the limit
abbrev pub FindsBest : Measure → SupportView → List ℕ → List ℕ → Option KeyView → List KeyView → Option KeyView → Type 0
FindsBest m s rests left limit queue None =
    ((place : ℕ) (p : PriceView) → is_listed left place ≡ true → price_at s rests place ≡ Some p → IsBeyond limit (key_of m s place p))
    × HasBounds m s rests left queue
FindsBest m s rests left limit queue (Some w) =
    (best_of m s rests left ≡ Some w) × HasBounds m s rests (without w.place left) queue

-- a round elects the project that was elected at a smaller share, and no other comes before its price there
pub record Follows (m : Measure) (s : SupportView) (left : List ℕ) (last : ElectedView) (o next : OutcomeView)
    (queue : List KeyView) : Type 0 where
  pub best : KeyView
  pub is_best : best_of m s o.rests left ≡ Some best
  pub same : best.place ≡ last.place
  pub others : (other : ℕ) (p : PriceView) → is_listed (without best.place left) other ≡ true → price_at s o.rests other ≡ Some p
      → is_before (key_of m s best.place last.exact) (key_of m s other p) ≡ true
  pub elects : next ≡ record o {
    elected = o.elected ++ elected_by s o.rests best ∷ [];
    rests = charged (supporters_at s best.place) (due best.price) o.rests;
  }
  pub bounds : HasBounds m s o.rests (without best.place left) queue
