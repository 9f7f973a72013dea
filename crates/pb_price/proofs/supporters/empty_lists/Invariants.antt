use Rattle.std.proofs.Common.{◌≡◌, [], replicate}
use Rattle.pb_price.proofs.supporters.empty_lists.Given as goal

abbrev pub invariant-loop-count : goal.invariant-loop-count
invariant-loop-count g l = l.lists.items ≡ replicate l.count-index []
