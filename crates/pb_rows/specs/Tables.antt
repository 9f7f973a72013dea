-- Tables: columns, and the rows that they make.
use Rattle.std.specs.Prelude.{ℕ, List, [], ◌∷◌, decimal, map}
use Rattle.pb_core.specs.MoneyText.{money_text}
use Rattle.pb_rows.specs.ExactText.{exact_text}
use Rattle.pb_rows.specs.Writing.{text_of_rows}
use Rattle.pb_rows.specs.declared.field.Field.{Field}
use Rattle.pb_rows.specs.declared.field.Field.TheVariants.{Empty, Text, Number, Amount, Exact}

-- the text of a field
abbrev pub field_text : Field → List ℕ
field_text Empty = []
field_text (Text text) = text.now
field_text (Number n) = decimal n
field_text (Amount hundredths) = money_text hundredths
field_text (Exact hundredths divisor) = exact_text hundredths divisor

-- a column of a table: its name, and the text of its field in the row of each
abbrev pub Column : Type 0 → Type 0
Column X = List ℕ × (X → List ℕ)

-- a table as text: the names of its columns, and then a row for each
unfoldable pub table_text : {X : Type 0} → List (Column X) → List X → List ℕ
table_text columns xs = text_of_rows (map (λ c. c.0) columns ∷ map (λ x. map (λ c. c.1 x) columns) xs)
