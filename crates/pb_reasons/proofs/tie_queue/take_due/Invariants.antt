use Rattle.std.proofs.Common.{length}
use Rattle.pb_reasons.proofs.TieQueue.{Takes}
use Rattle.pb_reasons.proofs.tie_queue.take_due.Given as goal

abbrev pub invariant-loop-head : goal.invariant-loop-head
invariant-loop-head l = Takes l.fn.queue.keys l.queue.keys l.due.items

abbrev pub decreases-loop-head : goal.decreases-loop-head
decreases-loop-head l = length l.queue.keys
