-- Which numbers a list has.
use Rattle.std.specs.Prelude.{ℕ, Bool, List, ◌==◌}
use Rattle.std.specs.List.{list_any}

-- whether the number is in the list
abbrev pub is_listed : List ℕ → ℕ → Bool
is_listed numbers n = list_any (λ m. m == n) numbers
