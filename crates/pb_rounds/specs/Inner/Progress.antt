-- How far a run has come: what is elected, followed by a run from here, is the whole run. Only clauses of
-- private functions speak of it.
use Rattle.std.specs.Prelude.{◌≡◌, ℕ, ◌+◌, ◌<◌, ◌≤◌, List, [], ◌∷◌, ◌++◌, length}
use Rattle.pb_price.specs.Price.{AreRests}
use Rattle.pb_price.specs.Supporters.{SupportView}
use Rattle.pb_rounds.specs.Outcome.{OutcomeView}
use Rattle.pb_rounds.specs.Run.{ElectedView, RunView, run_from, run_of}
use Rattle.pb_rounds.specs.declared.measure.Measure.{Measure}

-- the numbers rise, from low on and below high
abbrev pub RisesWithin : ℕ → ℕ → List ℕ → Type 0
RisesWithin low high [] = Unit {0}
RisesWithin low high (x ∷ xs) = (low ≤ x) × (x < high) × RisesWithin (x + 1) high xs

-- these are elected before a run
abbrev pub after : List ElectedView → RunView → RunView
after elected run = record { elected = elected ++ run.elected; rests = run.rests }

-- the outcome so far of a run at this share, which leaves these projects
pub record Progress (m : Measure) (s : SupportView) (share raised : ℕ) (left : List ℕ) (o : OutcomeView) : Type 0 where
  pub share_is : o.share ≡ share
  pub raised_is : o.raised ≡ raised
  pub whole : run_of m s share ≡ after o.elected (run_from m s (length left) o.rests left)
  pub rests_are : AreRests s.voters o.rests
  pub rises : RisesWithin 0 (length s.costs) left
  pub counted : length o.elected + length left ≡ length s.costs
