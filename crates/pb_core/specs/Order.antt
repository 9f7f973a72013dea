-- The projects of an election in another order.
use Rattle.std.specs.Prelude.{ℕ, ◌==◌, List, filter, filter_map, length, map, slice_get, slice_index}
use Rattle.std.specs.List.{list_any, position_or_len, range_with_len}
use Rattle.std.specs.List.Sorted.{IsPermutation}
use Rattle.pb_core.specs.Election.{ElectionView, VoterView}

-- all places, from 0, each once, in some order
abbrev pub IsOrder : List ℕ → Type 0
IsOrder order = IsPermutation (range_with_len 0 (length order)) order

-- at which position an order has a place
abbrev pub position_in : List ℕ → ℕ → ℕ
position_in order place = position_or_len (λ p. p == place) order

-- a ballot by positions in an order: those of the places that it approves
abbrev pub ballot_in : List ℕ → List ℕ → List ℕ
ballot_in order ballot =
    filter (λ position. list_any (λ place. place == slice_index order position) ballot) (range_with_len 0 (length order))

-- an election with its projects in this order; each ballot approves the same projects
abbrev pub in_order : List ℕ → ElectionView → ElectionView
in_order order e = record e {
  projects = filter_map (slice_get e.projects) order;
  voters = map (λ (v : VoterView). record v { ballot = ballot_in order v.ballot }) e.voters;
}
