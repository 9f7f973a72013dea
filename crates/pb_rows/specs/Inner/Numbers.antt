-- Numbers of 32 bits.
use Rattle.std.specs.Prelude.{◌<◌, ◌^◌, ℕ, List, All}

-- each is a number of 32 bits
abbrev pub AreNumbers : List ℕ → Type 0
AreNumbers places = All (λ place. place < 2 ^ 32) places
