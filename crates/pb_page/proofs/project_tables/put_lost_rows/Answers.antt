use Rattle.std.proofs.Common.{◌≡◌, ◌∙◌, ℕ, ap, arith, length, subst}
use Rattle.pb_core.specs.Election.{ElectionView}
use Rattle.pb_core.specs.Order.{position_in}
use Rattle.pb_page.specs.Inner.Counted.{lost_row}
use Rattle.pb_page.specs.Inner.Grown.{Grows}
use Rattle.pb_page.proofs.Grown.{none, placed_more}
use Rattle.pb_reasons.specs.CountedElection.{CountedElectionView}
use Rattle.pb_page.proofs.project_tables.put_lost_rows.Goals as goal

pub loop-place-init : goal.loop-place-init
loop-place-init c = none c.args.page.now.items

pub position-requires : goal.position-requires
position-requires c =
    let projects = c.projects-projects.ensures.projects ∙ ap (λ (e : ElectionView). e.projects) c.election-election.ensures.election in
    omega (arith, c.loop-place-test.true, ap length projects)

pub put_row_of_lost-requires : goal.put_row_of_lost-requires
put_row_of_lost-requires c = rw c.count-count.ensures at c.position.ensures.known

pub loop-place-preserved : goal.loop-place-preserved
loop-place-preserved c =
    let x = c.args.money.now in
    let row = lost_row c.args.facts.now x in
    let Puts : ℕ → Type 0 = λ at. Grows c.loop-place.page.items c.put_row_of_lost.new.page.items (row at) in
    placed_more row (position_in x.order) c.loop-place.place _ _ _ c.loop-place.invariant
    (subst Puts (rw c.count-count.ensures at c.position.ensures.position) c.in_ok-put_row_of_lost.ensures)

pub returns : goal.returns
returns c =
    let projects = c.projects-projects.ensures.projects ∙ ap (λ (e : ElectionView). e.projects) c.election-election.ensures.election
    ∙ ap (λ (x : CountedElectionView). x.election.projects) c.count-count.ensures in
    let all : c.loop-place.place ≡ length c.args.money.now.election.projects = omega (arith, ap length projects) in
    rw all at c.loop-place.invariant
