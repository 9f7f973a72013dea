use Rattle.std.proofs.Common.{[], ◌∷◌, arith, refl, ap, length}
use Rattle.std.proofs.lemmas.List.{get_or_default, take_all}
use Rattle.pb_page.specs.Page.{blocks}
use Rattle.pb_page.proofs.Answered.{block_is}
use Rattle.pb_page.proofs.Blocks.{block_more, the_project}
use Rattle.pb_page.proofs.Grown.{alike, none}
use Rattle.pb_reasons.proofs.PlaceSums.{costs_more, costs_more_le, the_placed}
use Rattle.pb_page.proofs.top.put_blocks_at.Goals as goal

pub loop-place-init : goal.loop-place-init
loop-place-init c = record { before = refl; grown = none c.args.page.now.items }

pub together-before-requires : goal.together-before-requires
together-before-requires c =
    let here = get_or_default c.args.winners.now c.loop-place.place-index 0 _ c.loop-place-test.true in
    let placed = the_placed c.args.election.now c.args.winners.now _ _ _ _ c.requires.known c.loop-place-test.true here c.projects-projects.ensures.projects c.index-projects-place.is in
    omega (arith, costs_more_le _ _ _ _ _ placed, c.requires.fits, c.loop-place.invariant.before, c.cost-cost.ensures.cost)

pub loop-place-preserved : goal.loop-place-preserved
loop-place-preserved c =
    let e = c.args.election.now in let l = c.args.language.now in
    let here = get_or_default c.args.winners.now c.loop-place.place-index 0 _ c.loop-place-test.true in
    let placed = the_placed c.args.election.now c.args.winners.now _ _ _ _ c.requires.known c.loop-place-test.true here c.projects-projects.ensures.projects c.index-projects-place.is in
    record {
      before = omega (arith, costs_more _ _ _ _ _ placed, c.loop-place.invariant.before, c.cost-cost.ensures.cost, c.together-before.ensures);
      grown = block_more l.costs e _ _ _ _ _ _ _ _ placed c.loop-place.invariant.before c.loop-place.invariant.grown
          (alike _ (blocks l.costs e _ (_ ∷ [])) _ _ c.in_ok-put.ensures (block_is l e _ _ _ _ _ _ _ _ _ c.bar.ensures c.bar-in-loop-place.ensures
          c.budget-budget.ensures.budget c.cost-cost.ensures.cost c.called.ensures c.id.ensures.id (the_project e _ _ placed.known placed.project)));
    }

pub bounds-projects-place : goal.bounds-projects-place
bounds-projects-place c =
    omega (arith, c.requires.known c.loop-place.place-index 0 c.loop-place-test.true, ap length c.projects-projects.ensures.projects)

pub returns : goal.returns
returns c = rw (take_all c.loop-place.place-index c.args.winners.now c.loop-place-test.false) at c.loop-place.invariant.grown
