-- What a clerk's seat knows, part by part.
use Rattle.std.specs.Prelude.{◌≡◌, ℕ, true, List, Option, Some}
use mathlib.Core.Option as slot
use Rattle.pb_core.specs.Request.{EntryView}
use Rattle.pb_desk.specs.Desk.{DeskView}
use Rattle.pb_shared.specs.Clerk.{Begins}
use Rattle.pb_shared.specs.Rule.{SheetFits}
use Rattle.pb_shared.specs.declared.seat_view.About.{About}
use Rattle.pb_shared.specs.declared.seat_view.SeatView.{SeatView}

-- what a clerk's seat knows is true: its sheet, what it was told, and that the desk is home if it brought
-- it back
pub record ClerkFits (a : About) (lock : ℕ) (home : slot.Option (Option DeskView)) (journal later : List EntryView)
    (seat_of : ℕ → ℕ) (seat : ℕ) (v : SeatView) : Type 0 where
  pub about : v.about ≡ a
  pub sheet : SheetFits a lock home journal later seat_of seat v.holds v.sheet
  pub told : Begins v.told journal
  pub brought : v.home ≡ true → (v.holds ≡ true) × (home ≡ slot.some (Some (record a.desk.value { journal = journal })))
