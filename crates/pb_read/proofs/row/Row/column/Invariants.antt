use Rattle.std.proofs.Common.{◌≡◌, ◌<◌, ℕ, false}
use Rattle.pb_read.specs.Rows.{field, is_word}
use Rattle.pb_read.proofs.row.Row.column.Given as goal

abbrev pub invariant-loop-place : goal.invariant-loop-place
invariant-loop-place l = (k : ℕ) → k < l.place → is_word l.name (field l.self k) ≡ false
