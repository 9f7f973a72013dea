-- Ballots in the order of a list of slots, each of which has a voter's ballot or is a gap.
use Rattle.std.specs.Prelude.{◌≡◌, ℕ, ◌<◌, List, length, filter_map, slice_get, Option, Some}
use Rattle.pb_desk.specs.declared.source.Source.{Source}

-- the ballots in the slots, without the gaps
abbrev pub filed : List (Option (List ℕ × Source)) → List (List ℕ × Source)
filed slots = filter_map (λ slot. slot) slots

-- the slot in which each voter's ballot stood last
pub record IsListing (slot_of : List ℕ → Option ℕ) (slots : List (Option (List ℕ × Source))) (filled : ℕ)
    : Type 0 where
  pub there : (s : ℕ) (b : List ℕ × Source) → slice_get slots s ≡ Some (Some b) → slot_of b.0 ≡ Some s
  pub own : (id : List ℕ) (s : ℕ) (b : List ℕ × Source) → slot_of id ≡ Some s
      → slice_get slots s ≡ Some (Some b) → b.0 ≡ id
  pub within : (id : List ℕ) (s : ℕ) → slot_of id ≡ Some s → s < length slots
  pub count : length (filed slots) ≡ filled
