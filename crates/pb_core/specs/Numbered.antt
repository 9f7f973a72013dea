-- The numbers and names of faults.
use denote.Enum.Declared.{Declared, tag_of}
use Rattle.std.specs.Prelude.{ℕ, ◌+◌, List, [], map, slice_index_or}

-- a fault's number, from 1, in the order in which its enum declares them, and its name in the table of all
-- names
abbrev pub numbered : (faults : Declared) → List (record { now : List ℕ }) → faults.D → ℕ × List ℕ
numbered faults names fault =
    (tag_of faults fault + 1, slice_index_or (map (λ name. name.now) names) (tag_of faults fault) [])
