use Rattle.std.proofs.Common.{◌≡◌, ◌<◌, ℕ, false}
use Rattle.std.specs.Str.{trim}
use Rattle.csv.specs.Records.{AllText, fields_of}
use Rattle.pb_read.specs.Rows.{field, is_word}
use Rattle.pb_witness.proofs.page_notes.column_of.Given as goal

abbrev pub invariant-loop-place : goal.invariant-loop-place
invariant-loop-place l = AllText (fields_of l.names) → (k : ℕ) → k < l.place → is_word l.word (trim (field (fields_of l.names) k)) ≡ false
