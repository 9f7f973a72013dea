use Rattle.std.proofs.Common.{◌≡◌, take}
use Rattle.pb_price.specs.Price.{total_rest}
use Rattle.pb_reasons.proofs.ending.lost.Given as goal

abbrev pub invariant-loop-voter : goal.invariant-loop-voter
invariant-loop-voter l = l.left ≡ total_rest (take l.voter-index l.supporters) l.rests
