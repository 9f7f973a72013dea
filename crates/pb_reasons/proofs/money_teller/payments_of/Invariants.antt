use Rattle.std.proofs.Common.{◌≡◌, map}
use Rattle.std.specs.List.{range_with_len}
use Rattle.pb_reasons.specs.Reasons.{voter_payments}
use Rattle.pb_reasons.proofs.money_teller.payments_of.Given as goal

abbrev pub invariant-loop-position : goal.invariant-loop-position
invariant-loop-position l = record {
  same : l.teller ≡ l.count;
  all : l.all.items ≡ map (voter_payments l.count.election l.count.counted.outcome) (range_with_len 0 l.position);
}
