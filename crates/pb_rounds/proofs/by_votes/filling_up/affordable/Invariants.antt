use Rattle.std.proofs.Common.{◌≡◌, ◌++◌, drop}
use Rattle.pb_rounds.specs.Inner.Candidates.{affordable}
use Rattle.pb_rounds.proofs.by_votes.filling_up.affordable.Given as goal

abbrev pub invariant-loop-candidate : goal.invariant-loop-candidate
invariant-loop-candidate g l =
    l.places.items ++ affordable l.left (drop l.candidate-index l.candidates) ≡ affordable l.fn.left l.candidates
