use Rattle.std.proofs.Common.{◌-◌, ◌≤◌, length}
use Rattle.pb_rounds.proofs.side_by_side.resize.Given as goal

abbrev pub invariant-loop-alloc : goal.invariant-loop-alloc
invariant-loop-alloc g l = length l.trials.items ≤ l.count

abbrev pub decreases-loop-alloc : goal.decreases-loop-alloc
decreases-loop-alloc g l = l.count - length l.trials.items
