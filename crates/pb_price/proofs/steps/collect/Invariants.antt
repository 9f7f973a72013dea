use Rattle.std.proofs.Common.{◌≡◌, ◌≤◌, ◌*◌, take}
use Rattle.pb_price.specs.Inner.Payment.{payers_above}
use Rattle.pb_price.specs.Price.{largest_share, paid_at, total_rest}
use Rattle.pb_price.proofs.steps.collect.Given as goal

abbrev pub invariant-loop-voter : goal.invariant-loop-voter
invariant-loop-voter l = record {
  total : l.total ≡ paid_at (take l.voter-index l.supporters) l.rests l.payment;
  payers_above : l.payers_above ≡ payers_above (take l.voter-index l.supporters) l.rests l.payment;
  all : l.all ≡ total_rest (take l.voter-index l.supporters) l.rests;
  small : l.all ≤ l.voter-index * largest_share;
}
