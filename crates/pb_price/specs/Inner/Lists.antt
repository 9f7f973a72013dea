-- The lists of supporters while they are built, and rests that fall.
use Rattle.std.specs.Prelude.{◌≡◌, ℕ, ◌<◌, ◌≤◌, List, [], ◌∷◌, ◌++◌, length, slice_index, slice_index_or}
use Rattle.std.specs.Prelude.{if◌then◌else◌}
use Rattle.pb_core.specs.Inner.Approved.{approves}

-- the voter goes after the others in the list of each place that the ballot approves; the other lists stay
pub record AddsVoter (old new : List (List ℕ)) (voter : ℕ) (ballot : List ℕ) : Type 0 where
  pub same_length : length new ≡ length old
  pub added : (place : ℕ) → place < length old
      → slice_index_or new place []
      ≡ slice_index_or old place [] ++ (if approves ballot place then voter ∷ [] else [])

-- no rest rises: each voter has as much left as before, or less
abbrev pub NoRestRises : List ℕ → List ℕ → Type 0
NoRestRises before after = (voter : ℕ) → slice_index after voter ≤ slice_index before voter
