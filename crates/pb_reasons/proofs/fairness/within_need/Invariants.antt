use Rattle.std.proofs.Common.{◌≡◌, ◌≤◌, ◌*◌, ◌^◌, take}
use Rattle.pb_price.specs.Supporters.{support_in}
use Rattle.pb_reasons.specs.Inner.Spending.{within_need}
use Rattle.pb_reasons.proofs.fairness.within_need.Given as goal

abbrev pub invariant-loop-payment : goal.invariant-loop-payment
invariant-loop-payment l = record {
  spent : l.spent ≡ within_need l.count.rule.options.measure (support_in l.count.rule.options.grain l.count.election) l.place (take l.payment-index l.payments);
  small : l.spent ≤ l.payment-index * 2 ^ 64;
}
