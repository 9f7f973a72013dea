use Rattle.std.proofs.Common.{◌≡◌, ◌<◌, ◌≤◌, ◌-◌, false}
use Rattle.pb_reasons.specs.declared.changes.change.Change.TheVariants.{Voters}
use Rattle.pb_reasons.specs.WhatIf.{IsTrue, wins}
use Rattle.pb_reasons.proofs.Doubling.{IsGap, Loses}
use Rattle.pb_reasons.proofs.changes.search.doubled.Given as goal

abbrev pub invariant-doubling : goal.invariant-doubling
invariant-doubling g l = record {
  same : l.changing ≡ l.initial.changing;
  is_true : IsTrue l.changing l.recount.question Voters l.last;
  verdict : wins l.last.verdict ≡ false;
  within : l.last.value ≤ l.most;
  loses : Loses l.changing l.recount.question l.last.value;
  gap : l.last.value < l.most → IsGap l.last.value;
}

abbrev pub decreases-doubling : goal.decreases-doubling
decreases-doubling g l = l.most - l.last.value
