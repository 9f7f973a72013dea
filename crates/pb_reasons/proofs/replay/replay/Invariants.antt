use Rattle.std.proofs.Common.{◌≡◌, ◌++◌, drop, length}
use Rattle.std.specs.Prelude.{replicate}
use Rattle.pb_reasons.specs.Inner.Replay.{full_payers_by_round}
use Rattle.pb_reasons.proofs.replay.replay.Given as goal

abbrev pub invariant-loop-winner : goal.invariant-loop-winner
invariant-loop-winner l = record {
  one_each : length l.rests.items ≡ l.supporters.voters;
  in_full : l.in_full.items ++ full_payers_by_round l.supporters l.rests.items (drop l.winner-index l.elected)
      ≡ full_payers_by_round l.supporters (replicate l.supporters.voters l.fn.share) l.elected;
}
