-- The writer of a text.
use Rattle.std.specs.Prelude.{◌≡◌, ◌≢◌, ◌<◌, ◌++◌, ℕ, All, List, ◌∷◌, false, length, true}
use Rattle.csv.specs.Writing.{default_writer, with_delimiter, with_flexible}
use Rattle.csv.specs.Writing.{fields_written, has_written, writer_pending, writer_setup, writer_under}
use Rattle.csv.specs.declared.writer.Writer.{Writer}
use Rattle.csv.specs.declared.writer.WriterBuilder.{WriterBuilder}
use Rattle.pb_rows.specs.Reading.{Fields}
use Rattle.pb_rows.specs.Writing.{text_of_rows}

-- a row is written with `;` between its fields, quotes only where they are needed, and `\n` after it
abbrev pub pb_writer : WriterBuilder
pb_writer = with_flexible (with_delimiter default_writer 59) true

-- a writer of csv that writes rows as above, and stands at the start of one
pub record IsAtRowStart {W : Type 0} (writer : Writer W) : Type 0 where
  pub setup : writer_setup writer ≡ pb_writer
  pub fields : fields_written writer ≡ 0
  pub clean : has_written writer ≡ false

-- what a writer of csv has written: what is in the writer underneath, and what is not yet there
abbrev pub written_by : {W : Type 0} → Writer W → (W → List ℕ) → List ℕ
written_by writer contents = contents (writer_under writer) ++ writer_pending writer

-- rows that can be read back as they were written: each has a field, and their text doesn't begin with the
-- three bytes of a byte order mark
abbrev pub ComeBack : List Fields → Type 0
ComeBack rows =
    All (λ fields. 0 < length fields) rows × ((rest : List ℕ) → text_of_rows rows ≢ 0xEF ∷ 0xBB ∷ 0xBF ∷ rest)
