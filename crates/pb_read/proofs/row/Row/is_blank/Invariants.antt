use Rattle.std.proofs.Common.{◌≡◌, ◌<◌, ℕ, true}
use Rattle.pb_read.specs.Rows.{field, is_empty}
use Rattle.pb_read.proofs.row.Row.is_blank.Given as goal

abbrev pub invariant-loop-place : goal.invariant-loop-place
invariant-loop-place l = (k : ℕ) → k < l.place → is_empty (field l.self k) ≡ true
