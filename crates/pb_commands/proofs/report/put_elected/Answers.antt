use Rattle.std.proofs.Common.{◌∙◌, ap, subst, sym}
use Rattle.pb_price.specs.Price.{HasPayers}
use Rattle.pb_price.specs.Supporters.{support_in}
use Rattle.pb_rounds.specs.Run.{ElectedView}
use Rattle.pb_commands.proofs.RowsGrown.{none_grown}
use Rattle.pb_commands.proofs.ReportSums.{elected_grown}
use Rattle.pb_reasons.proofs.WinnerSums.{the_winner}
use Rattle.pb_commands.proofs.report.put_elected.Goals as goal

pub loop-winner-init : goal.loop-winner-init
loop-winner-init c = none_grown c.args.rows.now.text

pub price_in_units-price-requires : goal.price_in_units-price-requires
price_in_units-price-requires c =
    let x = c.args.count.now in
    let s = support_in x.rule.options.grain x.election in
    subst (λ (v : ElectedView). HasPayers s v.exact) (sym c.winner.view_is)
    (subst (λ (v : ElectedView). HasPayers s v.exact) (sym c.winner-item.is) (c.requires.payers c.loop-winner.winner-index _ c.loop-winner-test.true))

pub loop-winner-preserved : goal.loop-winner-preserved
loop-winner-preserved c =
    let x = c.args.count.now in
    let projects = c.projects-projects.ensures.projects ∙ ap (λ e. e.projects) c.election.ensures.election in
    let winner = the_winner x.election _ _ _ _ _ _ c.requires.known c.loop-winner-test.true c.winner-item.is c.winner.view_is projects c.index-projects-winner.is in
    let grown = rw (c.id.ensures.id, c.amount.ensures, c.cost.ensures.cost, c.price_in_units-price.ensures, ap (λ (w : ElectedView). w.exact) c.winner.view_is) at c.in_ok-put_fields.ensures.text in
    elected_grown x _ _ _ _ _ _ _ winner c.loop-winner.invariant grown
