use Rattle.std.proofs.Common.{◌≡◌, ◌<◌, ◌∙◌, ℕ, List, ap, arith, get_or, length, map, subst, sym}
use Rattle.std.specs.Prelude.{filter_map, slice_get}
use Rattle.pb_core.specs.Election.{ElectionView, IsElection, ProjectView, VoterView}
use Rattle.pb_core.specs.Inner.Order.{voter_in}
use Rattle.pb_core.specs.Order.{in_order}
use Rattle.pb_core.proofs.InOrder.{IsElection-in_order}
use Rattle.pb_core.proofs.Orders.{order_known}
use Rattle.pb_core.proofs.election.Election.put_in_order.Goals as goal

pub copied-requires : goal.copied-requires
copied-requires g c = λ k d below.
    let order = c.args.order.now in
    let at : get_or c.places.result.now k d ≡ get_or order k d = ap (λ (xs : List ℕ). get_or xs k d) c.places.ensures.places in
    let within : k < length order = subst (λ (xs : List ℕ). k < length xs) c.places.ensures.places below in
    let many : length order ≡ length c.as_slice.result.now =
    c.requires ∙ ap (λ (e : ElectionView). length e.projects) (sym c.self.view_is) ∙ ap (λ (ps : List ProjectView). length ps) (sym c.as_slice.ensures.value) in
    omega (arith, at, order_known order c.places.ensures.each_once k d within, many)

pub put_ballots_in_order-requires : goal.put_ballots_in_order-requires
put_ballots_in_order-requires g c = λ k d below j e within.
    let many : length c.args.order.now ≡ length c.self.inside.projects.items = c.requires ∙ ap (λ (e : ElectionView). length e.projects) (sym c.self.view_is) in
    omega (arith, (c.self.invariant.are_voters k d below).ballot_known j e within, many)

pub invariant_of-self : goal.invariant_of-self
invariant_of-self g c =
    let order = c.args.order.now in
    let own = c.self.inside in
    let view : ElectionView = record { budget = own.terms.budget; max_length = own.terms.max_length; projects = own.projects.items; voters = own.voters.items } in
    let many : length order ≡ length own.projects.items = c.requires ∙ ap (λ (e : ElectionView). length e.projects) (sym c.self.view_is) in
    let is_projects : c.replace.new.dest.items ≡ filter_map (slice_get own.projects.items) order =
    ap (λ v. v.items) c.replace.ensures.after ∙ c.in_ok-projects.ensures
    ∙ ap (λ (ps : List ProjectView). filter_map (slice_get ps) c.places.result.now) c.as_slice.ensures.value
    ∙ ap (filter_map (slice_get own.projects.items)) c.places.ensures.places in
    let built : List ProjectView → List VoterView → ElectionView = λ ps vs.
    record { budget = own.terms.budget; max_length = own.terms.max_length; projects = ps; voters = vs } in
    subst (λ (ps : List ProjectView). IsElection (built ps c.put_ballots_in_order.new.voters.items)) (sym is_projects)
    (subst (λ (vs : List VoterView). IsElection (built (filter_map (slice_get own.projects.items) order) vs)) (sym c.put_ballots_in_order.ensures)
    (IsElection-in_order order view c.places.ensures.each_once many c.self.invariant))

pub returns-clause-ok : goal.returns-clause-ok
returns-clause-ok g c =
    let order = c.args.order.now in
    let own = c.self.inside in
    let is_projects : c.replace.new.dest.items ≡ filter_map (slice_get own.projects.items) order =
    ap (λ v. v.items) c.replace.ensures.after ∙ c.in_ok-projects.ensures
    ∙ ap (λ (ps : List ProjectView). filter_map (slice_get ps) c.places.result.now) c.as_slice.ensures.value
    ∙ ap (filter_map (slice_get own.projects.items)) c.places.ensures.places in
    let built : List ProjectView → List VoterView → ElectionView = λ ps vs.
    record { budget = own.terms.budget; max_length = own.terms.max_length; projects = ps; voters = vs } in
    ap (λ (ps : List ProjectView). built ps c.put_ballots_in_order.new.voters.items) is_projects
    ∙ ap (λ (vs : List VoterView). built (filter_map (slice_get own.projects.items) order) vs) c.put_ballots_in_order.ensures
    ∙ ap (in_order order) c.self.view_is
