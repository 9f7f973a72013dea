use Rattle.std.proofs.Common.{◌≡◌, ℕ, ◌-◌, ◌<◌, ◌&&◌, false, not}
use Rattle.std.specs.Prelude.{slice_index_or}
use Rattle.pb_rounds.proofs.Exhausted.{is_affordable}
use Rattle.pb_rounds.proofs.exhaustion.is_exhausted.Given as goal

abbrev pub invariant-loop-place : goal.invariant-loop-place
invariant-loop-place g l =
    (place : ℕ) → place < l.place → (not (slice_index_or l.marks place false) && is_affordable l.supporters (l.budget - l.spent) place) ≡ false
