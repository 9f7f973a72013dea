-- Rows written one after the other.
use Rattle.std.proofs.Common.{◌≡◌, ◌<◌, ◌+◌, ℕ, length, get_or, map, take, List, [], ◌∷◌, ◌++◌, Vec, Global, Result, Ok, Err, append_assoc, append-nil, sym, ◌∙◌, ap, subst}
use Rattle.std.specs.Prelude.{IfOk}
use Rattle.std.proofs.lemmas.List.{map_more}
use Rattle.pb_rows.specs.Reading.{Fields}
use Rattle.pb_rows.specs.Writing.{text_of_row, text_of_rows}
use Rattle.pb_rows.proofs.RowsText.{text_of_rows-nil, text_of_rows-cons, text_of_rows-append}

pub text_of_two : (a b : Fields) → text_of_rows (a ∷ b ∷ []) ≡ text_of_row a ++ text_of_row b
text_of_two a b = simp (text_of_rows-cons, text_of_rows-nil, append-nil)

-- two rows more
pub two_grown : (a b : Fields) (old first second : List ℕ)
    → first ≡ old ++ text_of_row a → second ≡ first ++ text_of_row b → second ≡ old ++ text_of_rows (a ∷ b ∷ [])
two_grown a b old first second e f =
    f ∙ rw e (append_assoc old (text_of_row a) (text_of_row b) ∙ ap (λ (t : List ℕ). old ++ t) (sym (text_of_two a b)))

-- the rows of one list, and then those of another
pub rows_grown : (rows more : List Fields) (old first second : List ℕ)
    → first ≡ old ++ text_of_rows rows → second ≡ first ++ text_of_rows more → second ≡ old ++ text_of_rows (rows ++ more)
rows_grown rows more old first second e f =
    f ∙ rw e (append_assoc old (text_of_rows rows) (text_of_rows more) ∙ ap (λ (t : List ℕ). old ++ t) (sym (text_of_rows-append rows more)))

-- four rows more
pub four_grown : (a b c d : Fields) (old first second third fourth : List ℕ)
    → first ≡ old ++ text_of_row a → second ≡ first ++ text_of_row b → third ≡ second ++ text_of_row c → fourth ≡ third ++ text_of_row d
    → fourth ≡ old ++ text_of_rows (a ∷ b ∷ c ∷ d ∷ [])
four_grown a b c d old first second third fourth e f g h =
    rows_grown (a ∷ b ∷ []) (c ∷ d ∷ []) old second fourth (two_grown a b old first second e f) (two_grown c d second third fourth g h)

-- one row more after those that are written
pub row_grown : (rows : List Fields) (row : Fields) (old first second : List ℕ)
    → first ≡ old ++ text_of_rows rows → second ≡ first ++ text_of_row row → second ≡ old ++ text_of_rows (rows ++ row ∷ [])
row_grown rows row old first second e f =
    rows_grown rows (row ∷ []) old first second e (f ∙ ap (λ (t : List ℕ). first ++ t) (simp (text_of_rows-cons, text_of_rows-nil, append-nil)))

-- no row more
pub none_grown : (old : List ℕ) → old ≡ old ++ text_of_rows []
none_grown old = rw text_of_rows-nil (sym (append-nil old))

-- what was put after no rows is their whole text
pub whole_text : {E : Type 0} (P : List ℕ → Type 0) (start after : List ℕ) (r : Result (Vec ℕ Global) E) → start ≡ [] → (text : List ℕ) × P text × (after ≡ start ++ text)
    → IfOk r (λ text. text.items ≡ after) → IfOk r (λ text. P text.items)
whole_text P start after (Err fault) none put is = tt
whole_text P start after (Ok text) none put is = subst P (sym (is ∙ put.2 ∙ ap (λ before. before ++ put.0) none)) put.1

-- the rows of those so far with one more
pub list_read : {X : Type 0} (row : X → Fields) (xs : List X) (i : ℕ) (d : X) (old first second : List ℕ)
    → i < length xs → first ≡ old ++ text_of_rows (map row (take i xs)) → second ≡ first ++ text_of_row (row (get_or xs i d))
    → second ≡ old ++ text_of_rows (map row (take (i + 1) xs))
list_read row xs i d old first second below before grown =
    rw (map_more row xs i d below) (row_grown _ _ old first second before grown)
