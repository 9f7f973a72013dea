-- A text that grows by rows; private contracts speak of it.
use Rattle.std.specs.Prelude.{◌≡◌, ◌++◌, ℕ, List}
use Rattle.std.specs.List.{AllByRecursion}
use Rattle.csv.specs.Records.{AllText}
use Rattle.pb_rows.specs.Reading.{Fields}
use Rattle.pb_rows.specs.Writing.{text_of_rows}

-- these rows were added, and they are text
pub record Grows (rows : List Fields) (old new : List ℕ) : Type 0 where
  pub text : new ≡ old ++ text_of_rows rows
  pub are_text : AllByRecursion AllText rows
