use Rattle.std.proofs.Common.{◌≤◌, take}
use Rattle.std.specs.Prelude.{All, slice_index}
use Rattle.pb_rounds.proofs.front.can_pay.Given as goal

abbrev pub invariant-loop-voter : goal.invariant-loop-voter
invariant-loop-voter l = All (λ v. l.least ≤ slice_index l.rests v) (take l.voter-index l.supporters)
