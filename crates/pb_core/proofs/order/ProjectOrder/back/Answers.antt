use Rattle.std.proofs.Common.{◌≡◌, ◌∙◌, ◌≤◌, ℕ, List, ap, arith, length, map, subst, sym}
use Rattle.std.specs.List.{range_with_len}
use Rattle.pb_core.specs.Election.{most_projects}
use Rattle.pb_core.specs.Inner.Order.{AreBack}
use Rattle.pb_core.specs.Order.{IsOrder, position_in}
use Rattle.pb_core.proofs.Orders.{back_again, back_is_order, positions_are}
use Rattle.pb_core.proofs.order.ProjectOrder.back.Goals as goal

-- what is copied of an order and of the way back from it
abbrev IsKept : List ℕ → List ℕ → Type 0
IsKept places positions = (length places ≤ most_projects) × IsOrder places × AreBack places positions

turned : (order positions new_places new_positions : List ℕ) → IsKept order positions → new_places ≡ positions → new_positions ≡ order → IsKept new_places new_positions
turned order positions new_places new_positions (few, is, back) are_places are_positions =
    subst (λ (xs : List ℕ). IsKept xs new_positions) (sym are_places)
    (subst (λ (xs : List ℕ). IsKept positions xs) (sym are_positions)
    (omega (arith, few, back.one_each), back_is_order order is positions back, back_again order is positions back))

pub invariant_of-result : goal.invariant_of-result
invariant_of-result g c =
    let own = c.self.inside in
    turned own.places.items own.positions.items c.in_ok-places.places.items c.in_ok-positions.positions.items c.self.invariant
    (c.in_ok-places.ensures.items ∙ c.as_slice.ensures.value) (c.in_ok-positions.ensures.items ∙ c.as_slice-2.ensures.value)

pub returns : goal.returns
returns g c =
    let own = c.self.inside in
    c.in_ok-places.ensures.items ∙ c.as_slice.ensures.value
    ∙ positions_are own.places.items c.self.invariant.1 own.positions.items c.self.invariant.2
    ∙ ap (λ (order : List ℕ). map (position_in order) (range_with_len 0 (length order))) c.self.view_is
