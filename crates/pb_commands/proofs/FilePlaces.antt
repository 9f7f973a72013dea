-- Where the projects of an order stand in it, in the order of their places.
use Rattle.std.proofs.Common.{◌≡◌, ℕ, ◌<◌, List, length, get_or, map, sym, subst, ◌∙◌, ap, arith, ext_get_or}
use Rattle.std.specs.Prelude.{All, slice_index}
use Rattle.std.specs.List.{range_with_len}
use Rattle.std.proofs.lemmas.Grind.{get_or_default_zero}
use Rattle.std.proofs.lemmas.List.{get_or-map, length-map}
use Rattle.std.proofs.lemmas.List.FromFn.{get_or-map-range_with_len, get_or-range_with_len, length-map-range_with_len, length-range_with_len}
use Rattle.pb_core.specs.Order.{IsOrder, position_in}
use Rattle.pb_core.proofs.Orders.{order_differs, order_has}
use Rattle.pb_core.proofs.OrderWords.{first_position}
use Rattle.pb_reasons.specs.CountedElection.{CountedElectionView, IsCountedElection, in_file}

module _ (order : List ℕ) (is : IsOrder order) where
  -- where a place stands
  stands : (place : ℕ) → place < length order → (position_in order place < length order) × (slice_index order (position_in order place) ≡ place)
  stands place below =
      let (k, within, here) = order_has order is place below in
      let at : get_or order k 0 ≡ place = sym (get_or_default_zero order k place within) ∙ here in
      let found : position_in order place ≡ k =
      first_position order place k within at (λ before less same. order_differs order is before k 0 less within (same ∙ sym at)) in
      (omega (arith, found, within), ap (λ p. get_or order p 0) found ∙ at)

  abbrev positions : List ℕ
  positions = map (position_in order) (range_with_len 0 (length order))

  many : length positions ≡ length order
  many = length-map-range_with_len (position_in order) 0 (length order)

  position_at : (k d : ℕ) → k < length order → get_or positions k d ≡ position_in order k
  position_at k d below = get_or-map-range_with_len (position_in order) 0 (length order) k k d below (omega arith)

  positions_known : All (λ position. position < length order) positions
  positions_known k d below =
      let within : k < length order = omega (arith, below, many) in
      let here = position_at k d within in
      omega (arith, here, (stands k within).0)

  places_again : map (slice_index order) positions ≡ range_with_len 0 (length order)
  places_again =
      ext_get_or 0 (map (slice_index order) positions) (range_with_len 0 (length order))
      (length-map positions (slice_index order) ∙ many ∙ sym (length-range_with_len 0 (length order)))
      (λ k below. let inside : k < length positions = omega (arith, below, length-map positions (slice_index order)) in
      let within : k < length order = omega (arith, inside, many) in
      get_or-map (slice_index order) positions k 0 0 inside ∙ (ap (slice_index order) (position_at k 0 within) ∙ (stands k within).1)
      ∙ sym (get_or-range_with_len 0 (length order) k 0 within ∙ omega arith))

-- the projects of a counted election
module _ (x : CountedElectionView) (is : IsCountedElection x) where
  pub in_file_known : All (λ position. position < length x.election.projects) (in_file x)
  in_file_known =
      subst (λ (n : ℕ). All (λ position. position < n) (map (position_in x.order) (range_with_len 0 n))) is.one_each (positions_known x.order is.is_order)

  pub in_file_places : map (slice_index x.order) (in_file x) ≡ range_with_len 0 (length x.election.projects)
  in_file_places =
      subst (λ (n : ℕ). map (slice_index x.order) (map (position_in x.order) (range_with_len 0 n)) ≡ range_with_len 0 n) is.one_each (places_again x.order is.is_order)
