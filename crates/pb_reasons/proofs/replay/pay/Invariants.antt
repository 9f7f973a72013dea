use Rattle.std.proofs.Common.{◌≡◌, take}
use Rattle.pb_rounds.specs.Run.{charged}
use Rattle.pb_reasons.specs.Inner.Replay.{full_payers}
use Rattle.pb_reasons.proofs.replay.pay.Given as goal

abbrev pub invariant-loop-voter : goal.invariant-loop-voter
invariant-loop-voter l = record {
  in_full : l.in_full ≡ full_payers (take l.voter-index l.supporters) l.fn.price l.initial.rests;
  rests : l.rests ≡ charged (take l.voter-index l.supporters) l.fn.price l.initial.rests;
}
