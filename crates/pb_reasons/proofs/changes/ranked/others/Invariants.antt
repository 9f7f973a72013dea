use Rattle.std.proofs.Common.{◌≡◌, map}
use Rattle.std.specs.Prelude.{filter, not}
use Rattle.std.specs.List.{range_with_len}
use Rattle.pb_rounds.specs.MostVotes.{is_taken}
use Rattle.pb_reasons.specs.Inner.Losers.{ranked_of}
use Rattle.pb_reasons.proofs.changes.ranked.others.Given as goal

abbrev pub invariant-loop-place : goal.invariant-loop-place
invariant-loop-place l =
    l.losers.items ≡ map (ranked_of l.supporters l.order) (filter (λ place. not (is_taken l.winners place)) (range_with_len 0 l.place))
