-- The queue of the projects that may tie; private contracts speak of it.
use Rattle.std.specs.Prelude.{◌≡◌, ℕ, ◌<◌, ◌⊎◌, false, List, ◌++◌, Option, Some, None, length, slice_index_or}
use Rattle.std.specs.List.Sorted.{IsStrictlyIncreasing}
use Rattle.pb_core.specs.Ballot.{HasSameMembers}
use Rattle.pb_price.specs.Price.{PriceView}
use Rattle.pb_price.specs.Supporters.{SupportView}
use Rattle.pb_rounds.specs.Inner.Listed.{is_listed}
use Rattle.pb_rounds.specs.Inner.Queue.{IsDone, IsIn, Rises, places_of}
use Rattle.pb_rounds.specs.Key.{KeyView}
use Rattle.pb_rounds.specs.Run.{ElectedView, key_of, weight_of}
use Rattle.pb_rounds.specs.declared.measure.Measure.{Measure}

-- what a bound that leaves room for a tie does not come after: behind the winner's key, and before any other
-- of its ratio
abbrev pub limit_of : Measure → SupportView → (winner : ElectedView) → KeyView
limit_of m s winner = record { price = winner.exact; weight = weight_of m s winner.place; place = length s.costs }

-- the queue has the key of each project with a lower bound, but of those that are being looked at
pub record AreQueued (m : Measure) (s : SupportView) (due : List ℕ) (bounds : List (Option PriceView)) (queue : List KeyView)
    : Type 0 where
  pub known : (k : KeyView) → IsIn k queue → k.place < length s.costs
  pub whole : (place : ℕ) (bound : PriceView) → place < length s.costs → is_listed due place ≡ false
      → slice_index_or bounds place None ≡ Some bound → IsIn (key_of m s place bound) queue
  pub rises : Rises queue

-- all heads that do not come after the limit are taken out: their places, rising
pub record TakesDue (limit : KeyView) (queue rest : List KeyView) (due : List ℕ) : Type 0 where
  pub heads : List KeyView
  pub cut : queue ≡ heads ++ rest
  pub members : HasSameMembers (places_of heads) due
  pub rise : IsStrictlyIncreasing due
  pub done : IsDone (Some limit) rest

-- a project with a lower bound is put into the queue
pub record PutsBound (m : Measure) (s : SupportView) (place : ℕ) (bound : Option PriceView) (queue all : List KeyView)
    : Type 0 where
  pub from : (k : KeyView) → IsIn k all → IsIn k queue ⊎ (k.place ≡ place)
  pub kept : (k : KeyView) → IsIn k queue → IsIn k all
  pub put : (least : PriceView) → bound ≡ Some least → IsIn (key_of m s place least) all
  pub rises : Rises queue → Rises all
