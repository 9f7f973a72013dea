use Rattle.std.proofs.Common.{◌≡◌, take}
use Rattle.pb_price.specs.Supporters.{support_of}
use Rattle.pb_rounds.specs.Count.{spent_on}
use Rattle.pb_reasons.proofs.totals.spent_for.Given as goal

abbrev pub invariant-loop-winner : goal.invariant-loop-winner
invariant-loop-winner l = l.spent ≡ spent_on (support_of l.election) (take l.winner-index l.elected)
