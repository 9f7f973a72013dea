-- The text of rows.
use Rattle.std.specs.Prelude.{◌++◌, ℕ, Bool, true, List, [], ◌∷◌}
use Rattle.csv.specs.Writing.{default_writer, row_text, with_delimiter, with_flexible}
use Rattle.pb_rows.specs.Reading.{Fields}

-- what contracts see of rows that are being written: their text so far, and whether no row was refused
pub record RowsView : Type 0 where
  pub text : List ℕ
  pub is_whole : Bool

-- the text of a row: `;` stands between its fields, quotes only where they are needed, and `\n` after it
unfoldable pub text_of_row : Fields → List ℕ
text_of_row fields = row_text (with_flexible (with_delimiter default_writer 59) true) fields

-- the text of rows, one after the other
unfoldable pub text_of_rows : List Fields → List ℕ
text_of_rows [] = []
text_of_rows (row ∷ rows) = text_of_row row ++ text_of_rows rows
