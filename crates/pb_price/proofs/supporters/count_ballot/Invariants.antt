use Rattle.std.proofs.Common.{◌≡◌, length}
use Rattle.pb_price.proofs.supporters.count_ballot.Given as goal

abbrev pub invariant-loop-place : goal.invariant-loop-place
invariant-loop-place g l = length l.counts.items ≡ length l.initial.counts.items
