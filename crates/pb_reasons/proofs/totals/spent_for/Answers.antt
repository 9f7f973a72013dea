use Rattle.std.proofs.Common.{◌≡◌, ◌∙◌, ◌<◌, ap, arith, length, subst, sym}
use Rattle.pb_rounds.specs.Run.{ElectedView}
use Rattle.pb_reasons.proofs.WinnerSums.{spent_more, spent_more_le, the_winner}
use Rattle.pb_reasons.proofs.totals.spent_for.Goals as goal

pub overflow_add-spent : goal.overflow_add-spent
overflow_add-spent c =
    let winner = the_winner c.args.election.now _ _ _ _ _ _ c.requires.known c.loop-winner-test.true c.winner-item.is c.winner.view_is c.projects-projects.ensures.projects c.index-projects-winner.is in
    let cost : c.spent.inside.0 ≡ c.index-projects-winner.result.cost = c.spent.view_is ∙ c.cost.ensures.cost in
    omega (arith, spent_more_le _ _ _ _ _ winner)

pub loop-winner-preserved : goal.loop-winner-preserved
loop-winner-preserved c =
    let winner = the_winner c.args.election.now _ _ _ _ _ _ c.requires.known c.loop-winner-test.true c.winner-item.is c.winner.view_is c.projects-projects.ensures.projects c.index-projects-winner.is in
    let cost : c.spent.inside.0 ≡ c.index-projects-winner.result.cost = c.spent.view_is ∙ c.cost.ensures.cost in
    omega (arith, spent_more _ _ _ _ _ winner)

pub bounds-projects-winner-inside : goal.bounds-projects-winner-inside
bounds-projects-winner-inside c =
    let place : c.winner.inside.place ≡ c.winner-item.result.place = ap (λ (w : ElectedView). w.place) c.winner.view_is in
    let known = subst (λ (w : ElectedView). w.place < length c.args.election.now.projects) (sym c.winner-item.is) (c.requires.known c.loop-winner.winner-index c.winner-item.result c.loop-winner-test.true) in
    omega (arith, place, known, ap length c.projects-projects.ensures.projects)
