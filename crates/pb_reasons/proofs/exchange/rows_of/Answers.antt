use Rattle.std.proofs.Common.{◌∙◌, List, map, refl, subst, sym, take}
use Rattle.std.proofs.lemmas.List.{take_all}
use Rattle.pb_core.specs.Election.{ElectionView}
use Rattle.pb_reasons.specs.Inner.AllTies.{AreBefore, AreRowsOf}
use Rattle.pb_reasons.specs.declared.told_tie.ToldTie.{ToldTie}
use Rattle.pb_reasons.proofs.Exchanged.{next_row, none_yet}
use Rattle.pb_reasons.proofs.exchange.rows_of.Goals as goal

pub loop-one-init : goal.loop-one-init
loop-one-init g c = record {
  kept = refl;
  recounted = λ x before. none_yet x c.new-known.result.items c.new-rows.result.items c.new-known.ensures.items c.new-rows.ensures.items;
}

pub loop-one-preserved : goal.loop-one-preserved
loop-one-preserved g c = record {
  kept = c.in_ok-changes.ensures.kept ∙ c.loop-one.invariant.kept;
  recounted = λ x before.
      let i = c.loop-one.one-index in
      let told = c.args.told.now in
      let was = c.loop-one.invariant.recounted x before in
      let now = subst (λ (e : ElectionView). AreBefore c.args.recounts.now.rule e c.args.before.now.has_won.items c.args.before.now.winners x)
      (sym c.loop-one.invariant.kept) before in
      next_row x told i _ c.loop-one-test.true c.loop-one.rows.items c.push.new.self.items was.1 c.in_ok-changes.changes c.changes_by.new.known.items
      (c.in_ok-changes.ensures.recounted x (map (λ (t : ToldTie). t.tie) (take i told)) now was.0) c.in_ok-push.ensures.items;
}

pub returns : goal.returns
returns g c = λ x before.
    subst (λ (told : List ToldTie). AreRowsOf x told c.loop-one.rows.items) (take_all c.loop-one.one-index c.args.told.now c.loop-one-test.false)
    (c.loop-one.invariant.recounted x before).1
