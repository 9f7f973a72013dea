-- Limits of raises with which a completion ends.
use Rattle.std.specs.Prelude.{ℕ, ◌<◌, ◌≤◌}
use Rattle.pb_core.specs.Election.{ElectionView}
use Rattle.pb_rounds.specs.Completed.{AreSpent, IsCompleted}
use Rattle.pb_rounds.specs.Count.{step_of}
use Rattle.pb_rounds.specs.CountFault.{most_raises}
use Rattle.pb_rounds.specs.declared.options.CountOptions.{CountOptions}
use Rattle.pb_reasons.specs.declared.raise_limit.RaiseLimit.{RaiseLimit}
use Rattle.pb_reasons.specs.declared.raise_limit.RaiseLimit.TheVariants.{Least, Enough}

-- with this limit, which can be allowed, the completion by raises ends
abbrev pub IsEnough : ElectionView → CountOptions → (limit : ℕ) → Type 0
IsEnough e options limit =
    (limit ≤ most_raises) × (raises : ℕ) × IsCompleted options.measure options.grain e (step_of e options) limit raises

-- what is found: the least such limit, where with any smaller one the raises are spent; or one such limit
abbrev pub IsLimit : ElectionView → CountOptions → RaiseLimit → Type 0
IsLimit e options (Least limit) = IsEnough e options limit
    × ((fewer : ℕ) → fewer < limit → AreSpent options.measure options.grain e (step_of e options) fewer)
IsLimit e options (Enough limit) = IsEnough e options limit
