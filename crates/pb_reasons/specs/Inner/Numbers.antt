-- Which of the added projects is which; private contracts speak of it.
use Rattle.std.specs.Prelude.{◌≡◌, ℕ, ◌<◌, ◌==◌, List, length, slice_index}
use Rattle.std.specs.List.{position_or_len}

-- the number of an added project, from 0; as many as are added where it is none of them
abbrev pub number_of : (added : List ℕ) → ℕ → ℕ
number_of added place = position_or_len (λ p. p == place) added

-- the number of each project among the added ones
pub record AreNumbers (projects : ℕ) (added numbers : List ℕ) : Type 0 where
  pub one_each : length numbers ≡ projects
  pub numbered : (place : ℕ) → place < projects → slice_index numbers place ≡ number_of added place
