-- A digit of an amount.
use Rattle.std.specs.Prelude.{ℕ, ◌%◌, ◌&&◌, ◌==◌, List, [], ◌∷◌, if◌then◌else◌, nat_lt}

-- a digit, behind which so many more stand in its number: a sign behind each third from the end, but not
-- behind the last
abbrev pub grouped_digit : (group : List ℕ) → (digit more : ℕ) → List ℕ
grouped_digit group digit more = digit ∷ (if nat_lt 0 more && (more % 3 == 0) then group else [])
