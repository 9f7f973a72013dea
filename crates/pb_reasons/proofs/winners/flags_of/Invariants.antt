use Rattle.std.proofs.Common.{take}
use Rattle.pb_reasons.specs.Inner.Comparing.{AreFlags}
use Rattle.pb_reasons.proofs.winners.flags_of.Given as goal

abbrev pub invariant-loop-place : goal.invariant-loop-place
invariant-loop-place l = AreFlags l.projects (take l.place-index l.places) l.flags.items
