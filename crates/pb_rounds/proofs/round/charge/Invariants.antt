use Rattle.std.proofs.Common.{◌≡◌, take}
use Rattle.pb_price.specs.Price.{paid_at}
use Rattle.pb_rounds.specs.Run.{charged}
use Rattle.pb_rounds.proofs.round.charge.Given as goal

abbrev pub invariant-loop-voter : goal.invariant-loop-voter
invariant-loop-voter l = record {
  collected : l.collected ≡ paid_at (take l.voter-index l.supporters) l.initial.rests l.fn.price;
  rests : l.rests ≡ charged (take l.voter-index l.supporters) l.fn.price l.initial.rests;
}
