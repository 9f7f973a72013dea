-- What a run has written.
use Rattle.std.specs.Prelude.{ℕ, List, Option, take}
use Rattle.std.specs.Io.KnownBytes.{Appends}

-- a text of this kind was written, after what stood there before
abbrev pub HasWritten : (List ℕ → Type 0) → Option (List ℕ) → Option (List ℕ) → Type 0
HasWritten IsText before after = (text : List ℕ) × IsText text × Appends before after text

-- the front of a text of this kind was written
abbrev pub HasBegun : (List ℕ → Type 0) → Option (List ℕ) → Option (List ℕ) → Type 0
HasBegun IsText before after = (text : List ℕ) × (n : ℕ) × IsText text × Appends before after (take n text)
