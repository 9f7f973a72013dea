-- The front of a completion: the first rounds of its runs, as far as they are the same at every larger share.
-- Only clauses of private functions speak of it.
use Rattle.std.specs.Prelude.{◌≡◌, ℕ, ◌∷◌, ◌+◌, ◌*◌, ◌≤◌, All, Bool, Some, List, map, replicate, slice_index}
use Rattle.pb_price.specs.Price.{largest_share, price_at}
use Rattle.pb_price.specs.Inner.Lists.{NoRestRises}
use Rattle.pb_price.specs.Supporters.{IsSupport, SupportView, supporters_at}
use Rattle.pb_rounds.specs.Count.{spent_on}
use Rattle.pb_rounds.specs.Inner.Bounds.{HasBounds}
use Rattle.pb_rounds.specs.Inner.Progress.{Progress}
use Rattle.pb_rounds.specs.Inner.Queue.{AreMarked, IsIn, Rises}
use Rattle.pb_rounds.specs.Key.{KeyView}
use Rattle.pb_rounds.specs.Outcome.{OutcomeView}
use Rattle.pb_rounds.specs.declared.measure.Measure.{Measure}

-- what contracts see of a front
pub record FrontView : Type 0 where
  pub measure : Measure
  pub support : SupportView
  pub queue : List KeyView
  pub marks : List Bool
  pub spent : ℕ
  pub outcome : OutcomeView

-- the outcome, where the share and each rest is this much more
abbrev pub raised_by : ℕ → OutcomeView → OutcomeView
raised_by more o = record {
  share = o.share + more;
  raised = o.raised;
  elected = o.elected;
  rests = map (λ rest. rest + more) o.rests;
  priced = o.priced;
}

-- The same rounds are the first ones of the run at every share from this one on, where each voter has as much
-- more left as the share is more. The queue has the projects left that somebody supports, each at its price
-- at the largest share.
pub record IsFront (f : FrontView) : Type 0 where
  pub is_support : IsSupport f.support
  pub left : List ℕ
  pub shared : (more : ℕ) → f.outcome.share + more ≤ largest_share
      → Progress f.measure f.support (f.outcome.share + more) 0 left (raised_by more f.outcome)
  pub bounds : HasBounds f.measure f.support (replicate f.support.voters largest_share) left f.queue
  pub priced : (k : KeyView) → IsIn k f.queue
      → price_at f.support (replicate f.support.voters largest_share) k.place ≡ Some k.price
  pub marked : AreMarked f.support f.outcome.elected f.marks
  pub spent_is : f.spent ≡ spent_on f.support f.outcome.elected
  pub small : f.outcome.share ≤ largest_share
  pub within : NoRestRises (replicate f.support.voters f.outcome.share) f.outcome.rests

-- the front is at this share
pub record IsFrontAt (m : Measure) (s : SupportView) (share : ℕ) (f : FrontView) : Type 0 where
  pub of_measure : f.measure ≡ m
  pub of_support : f.support ≡ s
  pub at_share : f.outcome.share ≡ share

-- the front whose queue begins with this key
abbrev pub with_next : KeyView → FrontView → FrontView
with_next head f = record {
  measure = f.measure;
  support = f.support;
  queue = head ∷ f.queue;
  marks = f.marks;
  spent = f.spent;
  outcome = f.outcome;
}

-- each supporter of the project can pay this price in full
abbrev pub CanAllPay : SupportView → List ℕ → KeyView → Type 0
CanAllPay s rests k = All (λ voter. k.price.amount ≤ slice_index rests voter * k.price.payers) (supporters_at s k.place)

-- the copy has those of these keys whose price is at most the share
pub record IsCopyUpTo (share : ℕ) (queue copy : List KeyView) : Type 0 where
  pub sound : (k : KeyView) → IsIn k copy → IsIn k queue
  pub whole : (k : KeyView) → IsIn k queue → k.price.amount ≤ share * k.price.payers → IsIn k copy
  pub rises : Rises copy
