use Rattle.std.proofs.Common.{◌≡◌, ◌-◌}
use Rattle.pb_reasons.specs.WhatIf.{wins}
use Rattle.pb_reasons.specs.Inner.Searching.{AreOpposed}
use Rattle.pb_reasons.proofs.changes.search.halved.Given as goal

abbrev pub invariant-halving : goal.invariant-halving
invariant-halving g l = record {
  same : l.changing ≡ l.initial.changing;
  are : AreOpposed l.changing l.recount.question l.change l.initial.low.value l.initial.high.value l.low l.high;
  high : wins l.high.verdict ≡ wins l.initial.high.verdict;
}

abbrev pub decreases-halving : goal.decreases-halving
decreases-halving g l = l.high.value - l.low.value
