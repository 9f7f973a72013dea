use Rattle.std.proofs.Common.{◌≡◌, map}
use Rattle.std.specs.List.{range_with_len}
use Rattle.pb_price.specs.Supporters.{ballot_at}
use Rattle.pb_reasons.specs.Comparison.{choices_of}
use Rattle.pb_reasons.proofs.winners.Winners.choices_by_voter.Given as goal

abbrev pub invariant-loop-voter : goal.invariant-loop-voter
invariant-loop-voter l =
    l.choices.items ≡ map (λ voter. choices_of l.self.1 (ballot_at l.self.0 voter)) (range_with_len 0 l.voter-index)
