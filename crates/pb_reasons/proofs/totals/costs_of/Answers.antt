use Rattle.std.proofs.Common.{◌≡◌, ◌∙◌, ap, arith, get_or, length}
use Rattle.std.proofs.lemmas.List.{get_or_default}
use Rattle.pb_reasons.proofs.PlaceSums.{costs_more, costs_more_le, the_placed}
use Rattle.pb_reasons.proofs.totals.costs_of.Goals as goal

pub overflow_add-sum : goal.overflow_add-sum
overflow_add-sum c =
    let places = c.args.places.now in
    let i = c.loop-place.place-index in
    let here = get_or_default places i 0 (get_or places i 0) c.loop-place-test.true in
    let placed = the_placed c.args.election.now places i (get_or places i 0) _ _ c.requires.known c.loop-place-test.true here c.projects-projects.ensures.projects c.index-projects-place.is in
    let cost : c.sum.inside.0 ≡ c.index-projects-place.result.cost = c.sum.view_is ∙ c.cost.ensures.cost in
    omega (arith, costs_more_le _ _ _ _ _ placed)

pub loop-place-preserved : goal.loop-place-preserved
loop-place-preserved c =
    let places = c.args.places.now in
    let i = c.loop-place.place-index in
    let here = get_or_default places i 0 (get_or places i 0) c.loop-place-test.true in
    let placed = the_placed c.args.election.now places i (get_or places i 0) _ _ c.requires.known c.loop-place-test.true here c.projects-projects.ensures.projects c.index-projects-place.is in
    let cost : c.sum.inside.0 ≡ c.index-projects-place.result.cost = c.sum.view_is ∙ c.cost.ensures.cost in
    omega (arith, costs_more _ _ _ _ _ placed)

pub bounds-projects-place : goal.bounds-projects-place
bounds-projects-place c =
    let known = c.requires.known c.loop-place.place-index 0 c.loop-place-test.true in
    omega (arith, known, ap length c.projects-projects.ensures.projects)
