use Rattle.std.proofs.Common.{ℕ, ◌+◌, ◌-◌, ◌*◌, ◌<◌, ◌≤◌}
use Rattle.pb_rounds.specs.Inner.Reach.{LeavesRoom}
use Rattle.pb_rounds.proofs.reach.raises_with_room.Given as goal

abbrev pub invariant-loop-low : goal.invariant-loop-low
invariant-loop-low g l = record {
  ordered : l.low ≤ l.high;
  within : l.high ≤ l.max_raises + 1;
  room : (raises : ℕ) → raises < l.low → LeavesRoom l.supporters l.budget (l.opening + raises * l.step);
}

abbrev pub decreases-loop-low : goal.decreases-loop-low
decreases-loop-low g l = l.high - l.low
