-- Lists of ids.
use Rattle.std.specs.Prelude.{◌≢◌, ℕ, List}
use Rattle.std.specs.List.{AllPairs}

-- no two of the ids are the same
abbrev pub AreDistinct : List (List ℕ) → Type 0
AreDistinct ids = AllPairs (λ a b. a ≢ b) ids
