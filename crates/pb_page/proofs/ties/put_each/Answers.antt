use Rattle.std.proofs.lemmas.List.{get_or_default, take_all}
use Rattle.pb_page.specs.Page.{tie}
use Rattle.pb_page.proofs.Grown.{none, row_more}
use Rattle.pb_page.proofs.ties.put_each.Goals as goal

pub loop-tie-init : goal.loop-tie-init
loop-tie-init c = none c.args.page.now.items

pub loop-tie-preserved : goal.loop-tie-preserved
loop-tie-preserved c =
    row_more (tie c.args.language.now c.args.count.now) c.args.told.now c.loop-tie.tie-index _ _ _ _
    c.loop-tie-test.true (get_or_default c.args.told.now c.loop-tie.tie-index _ _ c.loop-tie-test.true) c.loop-tie.invariant c.in_ok-put_tie.ensures

pub returns : goal.returns
returns c = rw (take_all c.loop-tie.tie-index c.args.told.now c.loop-tie-test.false) at c.loop-tie.invariant
