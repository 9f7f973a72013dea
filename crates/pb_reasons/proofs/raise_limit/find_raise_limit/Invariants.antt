use Rattle.std.proofs.Common.{◌≡◌, ◌*◌, ◌≤◌, Some}
use Rattle.pb_rounds.specs.CountFault.{most_raises}
use Rattle.pb_reasons.specs.RaiseLimit.{IsLimit}
use Rattle.pb_reasons.specs.declared.raise_limit.RaiseLimit.{RaiseLimit}
use Rattle.pb_reasons.proofs.raise_limit.find_raise_limit.Given as goal

abbrev pub invariant-halving : goal.invariant-halving
invariant-halving g l = record {
  found : (limit : RaiseLimit) → l.found ≡ Some limit → IsLimit l.election l.options limit;
  few : l.strides.most * l.strides.length ≤ most_raises;
}
