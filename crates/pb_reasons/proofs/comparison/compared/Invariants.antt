use Rattle.std.proofs.Common.{◌≡◌, take}
use Rattle.pb_reasons.specs.Inner.Comparing.{IsSmall, row_after}
use Rattle.pb_reasons.proofs.comparison.compared.Given as goal

abbrev pub invariant-loop-voter : goal.invariant-loop-voter
invariant-loop-voter l = record {
  own : l.rows.own ≡ row_after l.election l.winners.1 l.other.1 (take l.voter-index l.election.voters);
  other : l.rows.other ≡ row_after l.election l.other.1 l.winners.1 (take l.voter-index l.election.voters);
  own_small : IsSmall l.voter-index l.rows.own;
  other_small : IsSmall l.voter-index l.rows.other;
}
