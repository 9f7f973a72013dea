use Rattle.std.proofs.Common.{◌≡◌, ◌≤◌, ◌*◌, ◌^◌, [], length, take}
use Rattle.std.specs.Prelude.{fold, sum_by}
use Rattle.pb_reasons.specs.Inner.Money.{sums_for}
use Rattle.pb_reasons.specs.Money.{with_payment}
use Rattle.pb_reasons.proofs.money_teller.largest.Given as goal

abbrev pub invariant-loop-winner : goal.invariant-loop-winner
invariant-loop-winner l = record {
  few : length l.most.items ≤ 5;
  most : l.most.items ≡ take 5 (fold with_payment [] (sums_for l.sums (take l.winner-index l.elected)));
  all : l.all ≡ sum_by (λ p. p.amount) (sums_for l.sums (take l.winner-index l.elected));
  small : l.all ≤ l.winner-index * 2 ^ 64;
}
