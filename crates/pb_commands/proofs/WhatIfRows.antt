-- The rows of changed elections, and the place of the project that is asked about.
use Rattle.std.proofs.Common.{◌≡◌, ◌∙◌, ◌++◌, ◌<◌, ℕ, List, [], ◌∷◌, Bool, true, Ok, Err, if◌then◌else◌, Some, length, map, refl, sym, ap}
use Rattle.std.specs.List.{slice_get, slice_index_or}
use Rattle.std.specs.Option.{option_map}
use Rattle.std.specs.Prelude.{OnOk, Result}
use Rattle.std.proofs.lemmas.Bool.{eq-eqb, ne_eqb}
use Rattle.std.proofs.lemmas.Option.{slice_get-map, slice_get_read}
use Rattle.pb_core.specs.Election.{ProjectView}
use Rattle.pb_rows.specs.Writing.{text_of_row, text_of_rows}
use Rattle.pb_commands.proofs.RowsGrown.{none_grown, row_grown}
use Rattle.pb_commands.specs.Inner.Tables.{row_of}
use Rattle.pb_commands.specs.WhatIf.{found_rows, what_if_columns}
use Rattle.pb_reasons.specs.declared.changes.change.Change.{Change}
use Rattle.pb_reasons.specs.declared.changes.found.Found.{Found}

-- the id at the place of a project
pub named_at : (projects : List ProjectView) (place : ℕ) (p : ProjectView) (id : List ℕ) → place < length projects → p ≡ slice_index_or projects place p → p.id ≡ id
    → slice_get (map (λ q. q.id) projects) place ≡ Some id
named_at projects place p id below at same =
    slice_get-map (λ (q : ProjectView). q.id) projects place
    ∙ ap (option_map (λ (q : ProjectView). q.id)) (slice_get_read projects (length projects) place p refl below at) ∙ ap Some same

module _ (change : Change) (f : Found) where
  -- the rows, where the values of both are the same or not
  abbrev rows_text : Bool → List ℕ
  rows_text same = text_of_rows (map (row_of what_if_columns) ((change, f.first) ∷ (if same then [] else (change, f.second) ∷ [])))

  first_grown : (old new : List ℕ) → new ≡ old ++ text_of_row (row_of what_if_columns (change, f.first)) → new ≡ old ++ rows_text true
  first_grown old new put = row_grown [] (row_of what_if_columns (change, f.first)) old old new (none_grown old) put

  -- the rows of one kind of change, where they are one and where they are two
  pub one_found : (old new : List ℕ) → f.first.value ≡ f.second.value → new ≡ old ++ text_of_row (row_of what_if_columns (change, f.first))
      → new ≡ old ++ text_of_rows (map (row_of what_if_columns) (found_rows change f))
  one_found old new same put = first_grown old new put ∙ ap (λ (b : Bool). old ++ rows_text b) (sym (eq-eqb f.first.value f.second.value same))

  pub two_found : {E : Type 0} (r : Result (Unit {0}) E) (old middle new : List ℕ) → ¬ (f.first.value ≡ f.second.value)
      → middle ≡ old ++ text_of_row (row_of what_if_columns (change, f.first)) → OnOk r (new ≡ middle ++ text_of_row (row_of what_if_columns (change, f.second)))
      → OnOk r (new ≡ old ++ text_of_rows (map (row_of what_if_columns) (found_rows change f)))
  two_found (Err fault) old middle new apart first second = tt
  two_found (Ok done) old middle new apart first second =
      row_grown (row_of what_if_columns (change, f.first) ∷ []) (row_of what_if_columns (change, f.second)) old middle new (first_grown old middle first) second
      ∙ ap (λ (b : Bool). old ++ rows_text b) (sym (ne_eqb f.first.value f.second.value apart))
