use Rattle.std.proofs.Common.{◌≡◌, ◌∙◌, ◌<◌, ◌≤◌, ap, length, set, sym, arith}
use Rattle.std.specs.Prelude.{All}
use Rattle.std.proofs.lemmas.List.{get_or_default}
use Rattle.pb_core.specs.Election.{ElectionView}
use Rattle.pb_reasons.proofs.PlaceSums.{the_placed}
use Rattle.pb_reasons.proofs.WinnerSums.{cost_at-known}
use Rattle.pb_page.specs.Page.{category_of}
use Rattle.pb_page.proofs.Sums.{number_at, sum_fits, sums_none, sums_put, sums_same}
use Rattle.pb_page.proofs.WinnerPlaces.{winners_are_known, winners_are_paid}
use Rattle.pb_page.proofs.by_category.add_up.Goals.{then-number-len, else-number-len}
use Rattle.pb_page.proofs.by_category.add_up.Goals as goal

pub loop-place-init : goal.loop-place-init
loop-place-init c =
    sums_none c.args.count.now c.args.categories.now c.args.winners.now c.in_ok-sums.sums.items
    (c.in_ok-sums.ensures.items_if_clones_equal (λ y same. same))

pub bounds-projects-place : goal.bounds-projects-place
bounds-projects-place c =
    let known : All (λ place. place < length c.args.count.now.election.projects) c.args.winners.now =
    rw c.requires.winners (winners_are_known c.args.count.now c.election.ensures.is_counted) in
    omega (
      arith,
      known c.loop-place.place-index 0 c.loop-place-test.true,
      ap length (c.projects-projects.ensures.projects ∙ ap (λ (e : ElectionView). e.projects) c.election.ensures.election),
    )

pub place-requires : goal.place-requires
place-requires c =
    let known : All (λ place. place < length c.args.count.now.election.projects) c.args.winners.now =
    rw c.requires.winners (winners_are_known c.args.count.now c.election.ensures.is_counted) in
    known c.loop-place.place-index 0 c.loop-place-test.true

pub with-requires-clause-winners : goal.with-requires-clause-winners
with-requires-clause-winners c =
    let x = c.args.count.now in
    let g = c.args.categories.now in
    let winners = c.args.winners.now in
    let known : All (λ place. place < length x.election.projects) winners = rw c.requires.winners (winners_are_known x c.election.ensures.is_counted) in
    let projects = c.projects-projects.ensures.projects ∙ ap (λ (e : ElectionView). e.projects) c.election.ensures.election in
    let here = get_or_default winners c.loop-place.place-index 0 _ c.loop-place-test.true in
    let placed = the_placed x.election winners _ _ _ _ known c.loop-place-test.true here projects c.index-projects-place.is in
    let cost = c.cost-cost.ensures.cost ∙ sym (cost_at-known x.election _ _ placed.known placed.project) in
    let number = c.of-number.ensures ∙ ap (category_of g) c.place.ensures.place in
    let inside : c.of-number.result < length c.loop-place.sums.items = omega (arith, c.if-number-len.true, c.len.ensures, c.loop-place.sums.ok.0) in
    let fits = sum_fits x g winners _ _ c.loop-place-test.true here _ _ _ _ c.loop-place.invariant number cost inside c.index-sum.ensures in
    omega (arith, fits.0, c.requires.few)

pub with-requires-clause-cost : goal.with-requires-clause-cost
with-requires-clause-cost c =
    let x = c.args.count.now in
    let g = c.args.categories.now in
    let winners = c.args.winners.now in
    let known : All (λ place. place < length x.election.projects) winners = rw c.requires.winners (winners_are_known x c.election.ensures.is_counted) in
    let projects = c.projects-projects.ensures.projects ∙ ap (λ (e : ElectionView). e.projects) c.election.ensures.election in
    let here = get_or_default winners c.loop-place.place-index 0 _ c.loop-place-test.true in
    let placed = the_placed x.election winners _ _ _ _ known c.loop-place-test.true here projects c.index-projects-place.is in
    let cost = c.cost-cost.ensures.cost ∙ sym (cost_at-known x.election _ _ placed.known placed.project) in
    let number = c.of-number.ensures ∙ ap (category_of g) c.place.ensures.place in
    let inside : c.of-number.result < length c.loop-place.sums.items = omega (arith, c.if-number-len.true, c.len.ensures, c.loop-place.sums.ok.0) in
    let fits = sum_fits x g winners _ _ c.loop-place-test.true here _ _ _ _ c.loop-place.invariant number cost inside c.index-sum.ensures in
    omega (arith, fits.1, rw (sym c.requires.winners) at (winners_are_paid x c.election.ensures.is_counted))

pub loop-place-preserved : goal.loop-place-preserved
loop-place-preserved c =
    let x = c.args.count.now in
    let g = c.args.categories.now in
    let winners = c.args.winners.now in
    let known : All (λ place. place < length x.election.projects) winners = rw c.requires.winners (winners_are_known x c.election.ensures.is_counted) in
    let projects = c.projects-projects.ensures.projects ∙ ap (λ (e : ElectionView). e.projects) c.election.ensures.election in
    let here = get_or_default winners c.loop-place.place-index 0 _ c.loop-place-test.true in
    let placed = the_placed x.election winners _ _ _ _ known c.loop-place-test.true here projects c.index-projects-place.is in
    let cost = c.cost-cost.ensures.cost ∙ sym (cost_at-known x.election _ _ placed.known placed.project) in
    let number = c.of-number.ensures ∙ ap (category_of g) c.place.ensures.place in
    elim c.if-number-len.branch [
      | then-number-len w ↦
          let inside : c.of-number.result < length c.loop-place.sums.items = omega (arith, w.if-number-len.true, c.len.ensures, c.loop-place.sums.ok.0) in
          let put : c.if-number-len.sums.items ≡ set c.loop-place.sums.items c.of-number.result w.with.result = λ j. (w.sums-is j).items in
          sums_put x g winners _ _ c.loop-place-test.true here _ _ _ _ _ _ c.loop-place.invariant number cost inside w.index-sum.ensures w.with.ensures put
      | else-number-len w ↦
          let kept : c.if-number-len.sums.items ≡ c.loop-place.sums.items = λ j. (w.sums-is j).items in
          let past : length c.loop-place.sums.items ≤ number_at x g winners _ = omega (arith, w.if-number-len.false, c.len.ensures, c.loop-place.sums.ok.0, number) in
          kept ∙ sums_same x g winners _ _ c.loop-place-test.true here _ c.loop-place.invariant past
    ]
