-- What the outcome of a raise is to its completion. Only clauses of private functions speak of it.
use Rattle.std.specs.Prelude.{◌≡◌, ◌≢◌, ℕ, List, ◌≤◌, IfOk, Result, Some, true, false}
use Rattle.pb_core.specs.Election.{ElectionView}
use Rattle.pb_price.specs.Price.{largest_share}
use Rattle.pb_price.specs.Supporters.{SupportView, IsSupport, support_in}
use Rattle.pb_price.specs.declared.grain.Grain.{Grain}
use Rattle.pb_rounds.specs.Count.{add1_of, is_exhausted, is_over, share_after}
use Rattle.pb_rounds.specs.CountFault.{most_raises}
use Rattle.pb_rounds.specs.Outcome.{OutcomeView, settled, settled_by}
use Rattle.pb_rounds.specs.Inner.KeyRecord.{HasKeyRecord}
use Rattle.pb_rounds.specs.Run.{ElectedView, run_of}
use Rattle.pb_rounds.specs.declared.measure.Measure.{Measure}
use Rattle.pb_rounds.specs.declared.raise_end.RaiseEnd.{RaiseEnd}
use Rattle.pb_rounds.specs.declared.raise_end.RaiseEnd.TheVariants.{GoesOn, Exhausted, Over}

-- how a run at this share ends
abbrev pub IsRaiseEnd : Measure → SupportView → ℕ → ℕ → RaiseEnd → Type 0
IsRaiseEnd m s budget share GoesOn =
    (is_over s budget (run_of m s share).elected ≡ false)
    × (is_exhausted s budget (run_of m s share).elected ≡ false)
IsRaiseEnd m s budget share Exhausted =
    (is_over s budget (run_of m s share).elected ≡ false)
    × (is_exhausted s budget (run_of m s share).elected ≡ true)
IsRaiseEnd m s budget share Over = is_over s budget (run_of m s share).elected ≡ true

-- how a run at this share ends, and whom it elects, where it is not over
pub record IsTried (m : Measure) (s : SupportView) (budget share : ℕ) (elected : List ElectedView) (end : RaiseEnd)
    : Type 0 where
  pub is_support : IsSupport s
  pub ends : IsRaiseEnd m s budget share end
  pub elected_are : end ≢ Over → elected ≡ (run_of m s share).elected

-- where memory was enough, it was found how a run at this share ends
pub record IsFound {F : Type 0} (m : Measure) (s : SupportView) (budget share : ℕ) (elected : List ElectedView)
    (end : Result RaiseEnd F)
    : Type 0 where
  pub found : IfOk end (IsTried m s budget share elected)

-- what an election can be completed with: the numbers are within their ranges, and the supporters are the
-- election's own
pub record CanComplete (e : ElectionView) (s : SupportView) (step raises : ℕ) : Type 0 where
  pub few_raises : raises ≤ most_raises
  pub own_supporters : s ≡ support_in s.grain e
  pub small : share_after s.grain e step raises ≤ largest_share

-- the outcome of a whole run at this share, after this many raises
pub record IsOutcomeAt (m : Measure) (s : SupportView) (workers share raised : ℕ) (o : OutcomeView)
    : Type 0 where
  pub settled_is : settled o ≡ settled_by share raised (run_of m s share)
  pub priced : HasKeyRecord m s workers share o.priced
  pub is_support : IsSupport s

-- the outcome in which a completion by raises ends
pub record IsCompletion (m : Measure) (grain : Grain) (e : ElectionView) (workers step limit : ℕ) (o : OutcomeView)
    : Type 0 where
  pub decided : add1_of m grain e step limit ≡ Some o.raised
  pub ended : IsOutcomeAt m (support_in grain e) workers (share_after grain e step o.raised) o.raised o
