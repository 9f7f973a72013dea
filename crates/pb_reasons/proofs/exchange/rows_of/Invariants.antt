use Rattle.std.proofs.Common.{◌≡◌, map, take}
use Rattle.pb_reasons.specs.CountedElection.{CountedElectionView}
use Rattle.pb_reasons.specs.Inner.AllTies.{AreBefore, AreRecounted, AreRowsOf}
use Rattle.pb_reasons.specs.declared.told_tie.ToldTie.{ToldTie}
use Rattle.pb_reasons.proofs.exchange.rows_of.Given as goal

abbrev pub invariant-loop-one : goal.invariant-loop-one
invariant-loop-one g l = record {
  kept : l.election ≡ l.fn.election;
  recounted : (x : CountedElectionView) → AreBefore l.recounts.rule l.fn.election l.before.has_won.items l.before.winners x
      → AreRecounted x (map (λ (t : ToldTie). t.tie) (take l.one-index l.told)) l.known.items × AreRowsOf x (take l.one-index l.told) l.rows.items;
}
