use Rattle.std.proofs.Common.{ℕ, ◌/◌, ◌^◌, ◌<◌, ◌≤◌}
use Rattle.pb_ids.proofs.crowd.bits_of.Given as goal

abbrev pub invariant-loop-bits : goal.invariant-loop-bits
invariant-loop-bits l = (fewer : ℕ) → 5 ≤ fewer → fewer < l.bits → 2 ^ fewer ≤ l.len / 9
