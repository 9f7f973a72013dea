-- Voters' ids, and the places of a ballot.
use Rattle.std.specs.Prelude.{◌≡◌, ◌≢◌, ◌↔◌, ℕ, List, [], Contains}
use Rattle.std.specs.Str.{trim}

-- a voter's id is not empty, and trimming leaves it as it is
pub record IsVoterId (id : List ℕ) : Type 0 where
  pub not_empty : id ≢ []
  pub is_trimmed : trim id ≡ id

-- the two lists have the same members
abbrev pub HasSameMembers : List ℕ → List ℕ → Type 0
HasSameMembers xs ys = (x : ℕ) → Contains xs x ↔ Contains ys x
