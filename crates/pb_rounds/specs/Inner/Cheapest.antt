-- Which of two projects comes first; proofs speak of it.
use Rattle.std.specs.Prelude.{◌≡◌, ◌<◌, ◌⊎◌, ℕ}

-- the first number is less, or they are equal and the first place is the earlier one
abbrev pub ComesFirst : (number other place other_place : ℕ) → Type 0
ComesFirst number other place other_place = (number < other) ⊎ ((number ≡ other) × place < other_place)
