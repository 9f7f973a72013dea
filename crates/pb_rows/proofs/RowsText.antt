-- The text of rows, in parts.
use Rattle.std.proofs.Common.{◌≡◌, ◌∙◌, ◌++◌, ℕ, List, [], ◌∷◌, refl, sym, ap, append_assoc}
use Rattle.std.proofs.lemmas.List.{append-nil}
use Rattle.pb_rows.specs.Reading.{Fields}
use Rattle.pb_rows.specs.Writing.{text_of_row, text_of_rows}

-- no row has no text
pub text_of_rows-nil : text_of_rows [] ≡ []
unfolding text_of_rows
text_of_rows-nil = refl

-- the first row, and then the others
pub text_of_rows-cons : (row : Fields) (rows : List Fields) → text_of_rows (row ∷ rows) ≡ text_of_row row ++ text_of_rows rows
unfolding text_of_rows
text_of_rows-cons row rows = refl

-- some rows, and then others
pub text_of_rows-append : (rows more : List Fields) → text_of_rows (rows ++ more) ≡ text_of_rows rows ++ text_of_rows more
unfolding text_of_rows
text_of_rows-append [] more = refl
text_of_rows-append (row ∷ rows) more =
    rw (text_of_rows-append rows more) (sym (append_assoc (text_of_row row) (text_of_rows rows) (text_of_rows more)))

-- one more row at the end
pub text_of_rows-snoc : (rows : List Fields) (row : Fields) → text_of_rows (rows ++ row ∷ []) ≡ text_of_rows rows ++ text_of_row row
unfolding text_of_rows
text_of_rows-snoc rows row =
    text_of_rows-append rows (row ∷ []) ∙ ap (λ (t : List ℕ). text_of_rows rows ++ t) (append-nil (text_of_row row))

-- a text of rows that grew by one more
pub text_of_rows-grown : (rows : List Fields) (row : Fields) (old new : List ℕ) → old ≡ text_of_rows rows → new ≡ old ++ text_of_row row
    → new ≡ text_of_rows (rows ++ row ∷ [])
text_of_rows-grown rows row old new before grown = grown ∙ rw before (sym (text_of_rows-snoc rows row))
