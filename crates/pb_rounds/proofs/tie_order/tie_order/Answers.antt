use Rattle.std.proofs.Common.{◌≡◌, ◌∙◌, ℕ, List, ap, arith, length, map, subst, sym}
use Rattle.std.specs.List.{range_with_len}
use Rattle.std.specs.List.Sorted.{IsPermutation, IsSortedBy}
use Rattle.std.proofs.lemmas.List.FromFn.{length-range_with_len}
use Rattle.std.proofs.lemmas.List.Sorted.{length_permutation}
use Rattle.pb_core.specs.Election.{ElectionView}
use Rattle.pb_rounds.specs.Inner.Tied.{tied_of}
use Rattle.pb_rounds.specs.TieOrder.{IsTieOrder}
use Rattle.pb_rounds.specs.declared.tie_order.Tied.{Tied}
use Rattle.pb_rounds.specs.declared.tie_rule.TieRule.{TieRule}
use Rattle.pb_rounds.proofs.TieOrders.{comes_before, is_tie_order}
use Rattle.pb_rounds.proofs.tie_order.tie_order.Goals as goal

-- the places of what is sorted are the order of ties
sorted_places : (ties : TieRule) (e : ElectionView) (tied sorted slice : List Tied) (places : List ℕ)
    → tied ≡ map (tied_of ties e) (range_with_len 0 (length e.projects)) → IsPermutation tied sorted → IsSortedBy comes_before sorted
    → slice ≡ sorted → places ≡ map (λ (t : Tied). t.place) slice → IsTieOrder ties e places
sorted_places ties e tied sorted slice places all moved up same are =
    subst (λ (o : List ℕ). IsTieOrder ties e o) (sym (are ∙ ap (map (λ (t : Tied). t.place)) same))
    (is_tie_order ties e sorted (subst (λ (ts : List Tied). IsPermutation ts sorted) all moved) up)

as_many : (ties : TieRule) (e : ElectionView) (places : List ℕ) → IsTieOrder ties e places → length places ≡ length e.projects
as_many ties e places is = length_permutation (range_with_len 0 (length e.projects)) places is.each_once ∙ length-range_with_len 0 (length e.projects)

pub of-requires-clause-few : goal.of-requires-clause-few
of-requires-clause-few c =
    let ties = c.args.ties.now in
    let e = c.args.election.now in
    let places = c.in_ok-places.places.items in
    let is = sorted_places ties e c.in_ok-tied.tied.items c.sort_unstable.new.self.items c.as_slice.result.now places
    c.in_ok-tied.ensures c.sort_unstable.ensures.permutation c.sort_unstable.ensures.sorted c.as_slice.ensures.value c.in_ok-places.ensures in
    omega (arith, as_many ties e places is, c.projects-projects.ensures.is_election.few_projects)

pub of-requires-clause-each_once : goal.of-requires-clause-each_once
of-requires-clause-each_once c =
    let ties = c.args.ties.now in
    let e = c.args.election.now in
    let places = c.in_ok-places.places.items in
    let is = sorted_places ties e c.in_ok-tied.tied.items c.sort_unstable.new.self.items c.as_slice.result.now places
    c.in_ok-tied.ensures c.sort_unstable.ensures.permutation c.sort_unstable.ensures.sorted c.as_slice.ensures.value c.in_ok-places.ensures in
    subst (λ many. IsPermutation (range_with_len 0 many) places) (sym (as_many ties e places is)) is.each_once

pub returns : goal.returns
returns c =
    let ties = c.args.ties.now in
    let e = c.args.election.now in
    let places = c.in_ok-places.places.items in
    let is = sorted_places ties e c.in_ok-tied.tied.items c.sort_unstable.new.self.items c.as_slice.result.now places
    c.in_ok-tied.ensures c.sort_unstable.ensures.permutation c.sort_unstable.ensures.sorted c.as_slice.ensures.value c.in_ok-places.ensures in
    subst (λ (o : List ℕ). IsTieOrder ties e o) (sym c.in_ok-of.ensures) is
