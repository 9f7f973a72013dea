use Rattle.std.proofs.Common.{◌≡◌, ◌<◌, ◌∙◌, ℕ, List, ap, arith, get_or, length, subst, sym}
use Rattle.std.specs.Prelude.{slice_index}
use Rattle.std.proofs.lemmas.List.{get_or_read}
use Rattle.pb_core.specs.Inner.Order.{AreBack}
use Rattle.pb_core.specs.Order.{IsOrder, position_in}
use Rattle.pb_core.proofs.Orders.{position_is, stands_at}
use Rattle.pb_core.proofs.order.ProjectOrder.position.Goals as goal

-- what is read is where the place stands
read : (order own positions : List ℕ) (place result : ℕ) → order ≡ own → AreBack order positions → place < length own → result ≡ get_or positions place result → result ≡ slice_index positions place
read order own positions place result same back below is =
    get_or_read positions place result (omega (arith, below, back.one_each, ap length same)) is 0

within : (order own : List ℕ) (place : ℕ) → order ≡ own → place < length own → place < length order
within order own place same below = omega (arith, below, ap length same)

pub returns-clause-position : goal.returns-clause-position
returns-clause-position g c =
    let order = c.self.inside.places.items in
    let positions = c.self.inside.positions.items in
    let own = c.args.self.now in
    let place = c.args.place in
    read order own positions place c.index.result.now c.self.view_is c.self.invariant.2 c.requires c.index.ensures
    ∙ position_is order c.self.invariant.1 positions c.self.invariant.2 place (within order own place c.self.view_is c.requires)
    ∙ ap (λ (o : List ℕ). position_in o place) c.self.view_is

pub returns-clause-within : goal.returns-clause-within
returns-clause-within g c =
    let order = c.self.inside.places.items in
    let positions = c.self.inside.positions.items in
    let own = c.args.self.now in
    let place = c.args.place in
    let is = read order own positions place c.index.result.now c.self.view_is c.self.invariant.2 c.requires c.index.ensures in
    let at = stands_at order c.self.invariant.1 positions c.self.invariant.2 place (within order own place c.self.view_is c.requires) in
    let same : length order ≡ length own = ap length c.self.view_is in
    omega (arith, is, at.0, same)

pub returns-clause-has_it : goal.returns-clause-has_it
returns-clause-has_it g c =
    let order = c.self.inside.places.items in
    let positions = c.self.inside.positions.items in
    let own = c.args.self.now in
    let place = c.args.place in
    let is = read order own positions place c.index.result.now c.self.view_is c.self.invariant.2 c.requires c.index.ensures in
    let at = stands_at order c.self.invariant.1 positions c.self.invariant.2 place (within order own place c.self.view_is c.requires) in
    ap (λ (o : List ℕ). get_or o c.index.result.now 0) (sym c.self.view_is) ∙ (ap (λ k. get_or order k 0) is ∙ at.1)
