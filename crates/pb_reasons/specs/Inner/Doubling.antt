-- Numbers of voters that are doubled.
use Rattle.std.specs.Prelude.{◌≡◌, ℕ, ◌^◌, ◌<◌, false}
use Rattle.pb_reasons.specs.WhatIf.{IsTrue, Seen, wins}
use Rattle.pb_reasons.specs.declared.changes.change.Change.TheVariants.{Voters}
use Rattle.pb_reasons.specs.declared.changes.change.Verdict.{Verdict}
use Rattle.pb_reasons.specs.declared.changes.question.Question.{Question}

-- with 1, 2, 4, 8 and so on further voters, below this number, the project loses, or the count is refused
abbrev pub NoneWins : Seen → Question → ℕ → Type 0
NoneWins s q value = (k : ℕ) → 2 ^ k < value
    → (v : Verdict) × (wins v ≡ false) × IsTrue s q Voters (record { value = 2 ^ k; verdict = v })
