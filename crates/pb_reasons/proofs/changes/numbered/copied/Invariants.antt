use Rattle.std.proofs.Common.{◌≡◌, take}
use Rattle.pb_reasons.proofs.changes.numbered.copied.Given as goal

abbrev pub invariant-loop-voter : goal.invariant-loop-voter
invariant-loop-voter l = l.own.items ≡ take l.voter-index l.voters
