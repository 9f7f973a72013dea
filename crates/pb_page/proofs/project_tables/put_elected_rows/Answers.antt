use Rattle.std.proofs.Common.{ap, subst, ℕ}
use Rattle.pb_rounds.specs.Run.{ElectedView}
use Rattle.pb_page.specs.Inner.Grown.{Grows}
use Rattle.pb_page.specs.Page.{row_at}
use Rattle.pb_page.proofs.Grown.{none, row_more}
use Rattle.pb_page.proofs.project_tables.put_elected_rows.Goals as goal

pub loop-winner-init : goal.loop-winner-init
loop-winner-init c = none c.args.page.now.items

pub loop-winner-preserved : goal.loop-winner-preserved
loop-winner-preserved c =
    let place = ap (λ (w : ElectedView). w.place) c.winner.view_is in
    let Puts : ℕ → Type 0 = λ at. Grows c.loop-winner.page.items c.put_row.new.page.items (row_at c.args.facts.now c.args.money.now at) in
    row_more (λ (w : ElectedView). row_at c.args.facts.now c.args.money.now w.place) _ _ _ _ _ _ c.loop-winner-test.true c.winner-item.is
    c.loop-winner.invariant (subst Puts place c.in_ok-put_row.ensures)

pub put_row-requires : goal.put_row-requires
put_row-requires c =
    let place = ap (λ (w : ElectedView). w.place) c.winner.view_is in
    rw (place, c.winner-item.is) (c.requires c.loop-winner.winner-index _ c.loop-winner-test.true)
