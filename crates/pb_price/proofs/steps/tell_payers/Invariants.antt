use Rattle.std.proofs.Common.{◌≡◌, ◌≤◌, ◌*◌, take}
use Rattle.pb_price.specs.Inner.Payment.{payers_from, total_below}
use Rattle.pb_price.specs.Price.{largest_share, total_rest}
use Rattle.pb_price.proofs.steps.tell_payers.Given as goal

abbrev pub invariant-loop-voter : goal.invariant-loop-voter
invariant-loop-voter l = record {
  payers : l.payers ≡ payers_from (take l.voter-index l.supporters) l.rests l.payment;
  few : l.payers ≤ l.voter-index;
  below : l.below ≡ total_below (take l.voter-index l.supporters) l.rests l.payment;
  all : l.all ≡ total_rest (take l.voter-index l.supporters) l.rests;
  small : l.all ≤ l.voter-index * largest_share;
}
