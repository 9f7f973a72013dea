-- The rule of the steps: what a step may let its clerk know, whichever step it is.
use Rattle.std.specs.Prelude.{◌≡◌, ℕ, ◌+◌, ◌==◌, ◌&&◌, Bool, [], ◌∷◌, ◌++◌, Option, if◌then◌else◌}
use Rattle.atomic_table.specs.Table.{Step}
use Rattle.pb_desk.specs.Desk.{DeskView}
use Rattle.pb_shared.specs.Clerk.{Begins}
use Rattle.pb_shared.specs.declared.seat_view.SeatView.{SeatView}
use Rattle.pb_shared.specs.declared.seat_view.Sheet.{Sheet}

-- the step is one on this word, with these two numbers
abbrev pub is_step_on : ℕ → (first second : ℕ) → Step (Option DeskView) → Bool
is_step_on word first second s = (s.word == word) && ((s.first == first) && (s.second == second))

-- A step that finds this word leaves a clerk with the second sheet who had the first: nothing seen is
-- forgotten; the word goes to those found where the step tries the lock, which is an exchange of word 0, from 0
-- to the clerk's number and 1; and to those read where it loads word 1, the front word
pub record StepRule (s : Step (Option DeskView)) (x : Sheet) (word : ℕ) (x' : Sheet) : Type 0 where
  pub seen : Begins x.seen x'.seen
  pub found : x'.found ≡ x.found ++ (if is_step_on 0 0 (x.number + 1) s then word ∷ [] else [])
  pub read : x'.read ≡ x.read ++ (if is_step_on 1 0 0 s then word ∷ [] else [])

-- where seats are split or joined: the second view, but with the first's sheet, which keeps what was seen,
-- found and read; only its number and own entries are the second's
abbrev pub knowing : SeatView → SeatView → SeatView
knowing v w = record w { sheet = record v.sheet { number = w.sheet.number; mine = w.sheet.mine } }
