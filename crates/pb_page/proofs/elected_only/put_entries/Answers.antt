use Rattle.std.proofs.Common.{◌∙◌, ap}
use Rattle.std.proofs.lemmas.List.{get_or_default, take_all}
use Rattle.pb_core.specs.Election.{ElectionView}
use Rattle.pb_page.specs.Page.{entry}
use Rattle.pb_page.proofs.Blocks.{the_project}
use Rattle.pb_page.proofs.Grown.{alike, none, row_more}
use Rattle.pb_page.proofs.Tables.{entry_is}
use Rattle.pb_reasons.proofs.PlaceSums.{the_placed}
use Rattle.pb_page.proofs.elected_only.put_entries.Goals as goal

pub loop-place-init : goal.loop-place-init
loop-place-init c = none c.args.page.now.items

pub place-requires : goal.place-requires
place-requires c = c.args.at.now.known c.loop-place.place-index 0 c.loop-place-test.true

pub loop-place-preserved : goal.loop-place-preserved
loop-place-preserved c =
    let x = c.args.at.now.count.now in
    let e = x.election in
    let l = c.args.language.now in
    let places = c.args.at.now.places.now in
    let here = get_or_default places c.loop-place.place-index 0 _ c.loop-place-test.true in
    let projects = c.projects-projects.ensures.projects ∙ ap (λ (f : ElectionView). f.projects) c.election.ensures.election in
    let placed = the_placed e places _ _ _ _ c.args.at.now.known c.loop-place-test.true here projects c.index-projects-place.is in
    row_more (entry l x) _ _ _ _ _ _ placed.below placed.here c.loop-place.invariant
    (alike _ (entry l x _) _ _ c.in_ok-put.ensures (entry_is l x _ _ _ _ _ _ c.place.ensures.place
    (the_project e _ _ placed.known placed.project) c.id.ensures.id c.name.ensures c.cost-cost.ensures.cost))

pub returns : goal.returns
returns c = rw (take_all c.loop-place.place-index c.args.at.now.places.now c.loop-place-test.false) at c.loop-place.invariant
