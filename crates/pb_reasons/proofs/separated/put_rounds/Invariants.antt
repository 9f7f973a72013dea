use Rattle.std.proofs.Common.{◌≡◌, ◌++◌, [], take}
use Rattle.std.specs.Prelude.{flat_map, replicate}
use Rattle.std.specs.List.{range_with_len}
use Rattle.pb_price.specs.Price.{AreRests}
use Rattle.pb_price.specs.Supporters.{support_in}
use Rattle.pb_rounds.specs.Cheapest.{rests_after}
use Rattle.pb_reasons.specs.Inner.AllTies.{round_ties}
use Rattle.pb_reasons.specs.Inner.Rounds.{AreTieBounds}
use Rattle.pb_reasons.specs.Inner.TieQueue.{AreQueued}
use Rattle.pb_reasons.proofs.separated.put_rounds.Given as goal

abbrev pub invariant-loop-before : goal.invariant-loop-before
invariant-loop-before g l = record {
  rests : l.rests.items ≡ rests_after (support_in l.count.rule.options.grain l.count.election) (replicate (support_in l.count.rule.options.grain l.count.election).voters l.fn.outcome.share) (take l.before l.fn.outcome.elected);
  are_rests : AreRests (support_in l.count.rule.options.grain l.count.election).voters l.rests.items;
  bounds : AreTieBounds (support_in l.count.rule.options.grain l.count.election) (take l.before l.fn.outcome.elected) l.rests.items l.bounds.items;
  queued : AreQueued l.count.rule.options.measure (support_in l.count.rule.options.grain l.count.election) [] l.bounds.items l.queue.keys;
  told : l.told.rows.items ≡ take g.row.MOST (l.fn.told.rows.items ++ flat_map (round_ties l.count l.run l.fn.outcome.share l.fn.outcome.elected) (range_with_len 0 l.before));
}
