use Rattle.std.proofs.Common.{◌≡◌}
use Rattle.pb_reasons.specs.Inner.Spending.{AreMost}
use Rattle.pb_reasons.proofs.fairness.most_spent.Given as goal

abbrev pub invariant-loop-position : goal.invariant-loop-position
invariant-loop-position l = record {
  same : l.teller ≡ l.count;
  most : AreMost l.count l.position l.most.items;
}
