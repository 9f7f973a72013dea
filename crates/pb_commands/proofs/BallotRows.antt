-- The rows of ballots, written one after the other.
use Rattle.std.proofs.Common.{◌≡◌, ℕ, Bool, true, false, cond, List, [], ◌∷◌, ◌++◌, filter, map, append_assoc, append-nil, decimal, Option, sym, ◌∙◌, ap}
use Rattle.std.specs.Option.{option_map_or}
use Rattle.pb_rows.specs.Reading.{Fields}
use Rattle.pb_rows.specs.Writing.{text_of_row, text_of_rows}
use Rattle.pb_rows.proofs.RowsText.{text_of_rows-nil, text_of_rows-cons}
use Rattle.pb_core.specs.Election.{project_ids}
use Rattle.pb_desk.specs.Desk.{DeskView}
use Rattle.pb_commands.specs.Ballots.{ballot_columns, last_given}
use Rattle.pb_commands.specs.Inner.Ballots.{ids_text}
use Rattle.pb_commands.specs.Inner.Tables.{row_of}

module _ {X : Type 0} (row : X → Fields) (p : X → Bool) where
  -- the rows that are still to come, after this text
  abbrev pub with_rest : List ℕ → List X → List ℕ
  with_rest text left = text ++ text_of_rows (map row (filter p left))

  -- a row is written where it is asked for, and none where it is not
  pub row_written : (x : X) (left : List X) (text now : List ℕ) → p x ≡ true → now ≡ text ++ text_of_row (row x) → with_rest now left ≡ with_rest text (x ∷ left)
  row_written x left text now asked put =
      ap (λ (t : List ℕ). t ++ text_of_rows (map row (filter p left))) put ∙ append_assoc text (text_of_row (row x)) (text_of_rows (map row (filter p left)))
      ∙ ap (λ (t : List ℕ). text ++ t) (sym (text_of_rows-cons (row x) (map row (filter p left))))
      ∙ ap (λ (b : Bool). text ++ text_of_rows (map row (cond b (x ∷ filter p left) (filter p left)))) (sym asked)

  pub row_left_out : (x : X) (left : List X) (text : List ℕ) → p x ≡ false → with_rest text left ≡ with_rest text (x ∷ left)
  row_left_out x left text other = ap (λ (b : Bool). text ++ text_of_rows (map row (cond b (x ∷ filter p left) (filter p left)))) (sym other)

  pub all_written : (text : List ℕ) → with_rest text [] ≡ text
  all_written text = rw text_of_rows-nil (append-nil text)

-- the row of a ballot, by its fields
pub row_is : (d : DeskView) (id places first ids : List ℕ) (number : Option ℕ) → first ≡ id → number ≡ last_given id d.journal
    → ids ≡ ids_text (project_ids d.opening.election) places
    → first ∷ option_map_or decimal number [] ∷ ids ∷ [] ≡ row_of (ballot_columns d) (id, places)
row_is d id places first ids number first_is number_is ids_is = λ i. first_is i ∷ option_map_or decimal (number_is i) [] ∷ ids_is i ∷ []
