use Rattle.std.proofs.Common.{◌≡◌, length}
use Rattle.pb_price.proofs.supporters.supporter_counts.Given as goal

abbrev pub invariant-loop-voter : goal.invariant-loop-voter
invariant-loop-voter g l = length l.counts.items ≡ length l.initial.counts.items
