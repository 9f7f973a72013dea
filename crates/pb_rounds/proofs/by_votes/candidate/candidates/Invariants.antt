use Rattle.std.proofs.Common.{◌≡◌, map}
use Rattle.std.specs.Prelude.{filter}
use Rattle.std.specs.List.{range_with_len}
use Rattle.pb_rounds.specs.Inner.Candidates.{candidate_of, may_be_added}
use Rattle.pb_rounds.proofs.by_votes.candidate.candidates.Given as goal

abbrev pub invariant-loop-place : goal.invariant-loop-place
invariant-loop-place g l =
    l.candidates.items
    ≡ map (candidate_of l.fn.supporters) (filter (may_be_added l.fn.supporters l.fn.taken) (range_with_len 0 l.place))
