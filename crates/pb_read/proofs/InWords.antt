-- Which places a vote names, in the words of its law.
use Rattle.std.proofs.Common.{◌≡◌, ℕ, ◌<◌, true, List, [], length, get_or, Contains}
use Rattle.std.specs.Prelude.{All, slice_index_or}
use Rattle.std.specs.List.{range_with_len}
use Rattle.std.proofs.lemmas.List.Elements.{All-contains, filter_passes}
use Rattle.std.proofs.lemmas.List.Sums.{AllPass-from_list_all, list_all-from_AllPass}
use Rattle.pb_read.specs.Voting.{ballot_of, is_among, names_only, pieces_of}
use Rattle.pb_read.proofs.Ballots.{Contains-filter, Contains-range}
use Rattle.pb_read.proofs.Keeps.{ballot_of-below}
use Rattle.pb_read.proofs.ListFacts.{Contains-is_among, is_among-Contains}

-- every piece of a vote is one of the ids
pub names_are : (ids : List (List ℕ)) (vote : List ℕ) → names_only ids vote ≡ true → All (Contains ids) (pieces_of vote)
names_are ids vote only k d below =
    Contains-is_among ids (get_or (pieces_of vote) k d) (AllPass-from_list_all (is_among ids) (pieces_of vote) only k d below)

pub it_names_only : (ids : List (List ℕ)) (vote : List ℕ) → All (Contains ids) (pieces_of vote) → names_only ids vote ≡ true
it_names_only ids vote each =
    list_all-from_AllPass (is_among ids) (pieces_of vote) (λ k d below. is_among-Contains ids (get_or (pieces_of vote) k d) (each k d below))

-- the places of a ballot are those of the ids that the vote names
module _ (ids : List (List ℕ)) (vote : List ℕ) (place : ℕ) where
  pub voted : Contains (ballot_of ids vote) place → (place < length ids) × Contains (pieces_of vote) (slice_index_or ids place [])
  voted c = (
    All-contains (λ p. p < length ids) (ballot_of ids vote) place (ballot_of-below ids vote) c,
    Contains-is_among (pieces_of vote) (slice_index_or ids place [])
        (All-contains (λ p. is_among (pieces_of vote) (slice_index_or ids p []) ≡ true) (ballot_of ids vote) place (filter_passes (λ p. is_among (pieces_of vote) (slice_index_or ids p [])) (range_with_len 0 (length ids))) c),
  )

  pub it_is_voted : (place < length ids) × Contains (pieces_of vote) (slice_index_or ids place []) → Contains (ballot_of ids vote) place
  it_is_voted (below, named) =
      Contains-filter _ (range_with_len 0 (length ids)) place (Contains-range (length ids) place below) (is_among-Contains (pieces_of vote) _ named)
