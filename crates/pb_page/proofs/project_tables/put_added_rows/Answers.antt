use Rattle.std.proofs.lemmas.List.{get_or_default}
use Rattle.pb_page.specs.Page.{row_at}
use Rattle.pb_page.proofs.Grown.{none, row_more}
use Rattle.pb_page.proofs.project_tables.put_added_rows.Goals as goal

pub loop-place-init : goal.loop-place-init
loop-place-init c = none c.args.page.now.items

pub loop-place-preserved : goal.loop-place-preserved
loop-place-preserved c =
    row_more (row_at c.args.facts.now c.args.money.now) c.args.places.now c.loop-place.place-index _ _ _ _
    c.loop-place-test.true (get_or_default c.args.places.now c.loop-place.place-index 0 _ c.loop-place-test.true) c.loop-place.invariant c.in_ok-put_row.ensures

pub put_row-requires : goal.put_row-requires
put_row-requires c = c.requires c.loop-place.place-index 0 c.loop-place-test.true
