use Rattle.std.proofs.Common.{ℕ, ◌+◌, ◌<◌, slice_index}
use Rattle.pb_core.proofs.ballot.is_rising.Given as goal

abbrev pub invariant-loop-i : goal.invariant-loop-i
invariant-loop-i l = (k : ℕ) → k + 1 < l.i → slice_index l.places k < slice_index l.places (k + 1)
