-- The rule of the running desk: what is true between any two atomic steps, of any clerks in any threads.
use Rattle.std.specs.Prelude.{◌≡◌, ◌≢◌, ℕ, ◌+◌, ◌<◌, ◌≤◌, ◌==◌, ⊤, Bool, true, false, List, [], ◌∷◌, ◌++◌}
use Rattle.std.specs.Prelude.{filter, length, All, Option, Some}
use mathlib.Core.Option as slot
use lib.ListN.{get_elem?}
use Rattle.atomic_table.specs.Table.{State}
use Rattle.pb_core.specs.Request.{EntryView}
use Rattle.pb_desk.specs.Desk.{DeskView}
use Rattle.pb_shared.specs.Clerk.{Begins, CanHave, GrowsByOthers, new_sheet}
use Rattle.pb_shared.specs.declared.seat_view.About.{About}
use Rattle.pb_shared.specs.declared.seat_view.Role.{Role}
use Rattle.pb_shared.specs.declared.seat_view.Role.TheVariants.{Stock, Clerk, Guest, Spent}
use Rattle.pb_shared.specs.declared.seat_view.SeatView.{SeatView}
use Rattle.pb_shared.specs.declared.seat_view.Sheet.{Sheet}

module _ (a : About) (lock : ℕ) (home : slot.Option (Option DeskView)) (journal later : List EntryView)
    (seat_of : ℕ → ℕ) where
  -- a clerk's sheet is true, where `journal` is the history and `later` is what was served since the start:
  -- the seat is its own; what it has seen begins the history, what came after is other clerks', and nothing
  -- did while it holds the lock; past the start, its own entries are those of its number; each lock word that
  -- it found is 0, or another clerk's number and 1; no front word that it read is above the length of what it
  -- has seen
  pub record SheetFits (seat : ℕ) (holds : Bool) (x : Sheet) : Type 0 where
    pub known : x.number < a.clerks
    pub its_seat : seat_of x.number ≡ seat
    pub begins : GrowsByOthers x.number x.seen journal
    pub mine : filter (λ y. y.clerk == x.number) later ≡ x.mine
    pub holding : (lock == x.number + 1) ≡ holds
    pub whole : holds ≡ true → x.seen ≡ journal
    pub found : All (λ word. (word ≤ a.clerks) × (word ≢ x.number + 1)) x.found
    pub read : All (λ word. word ≤ length x.seen) x.read

  -- what a seat knows is true: the clerks in stock have made no call; a clerk's own sheet and what it was told are
  -- so, and the desk is home if it brought it back; what a note has seen begins the history; the sheets of clerks
  -- who were handed back are true
  abbrev pub RoleFits : Role → ℕ → SeatView → Type 0
  RoleFits Stock seat v = (v.about ≡ a) × ((number : ℕ) → v.sheet.number ≤ number → number < a.clerks
      → SheetFits seat false (new_sheet a.desk.value.journal number))
  RoleFits Clerk seat v = (v.about ≡ a) × SheetFits seat v.holds v.sheet × Begins v.told journal
      × (v.home ≡ true → (v.holds ≡ true) × (home ≡ slot.some (Some (record a.desk.value { journal = journal }))))
  RoleFits Guest seat v =
      (v.about ≡ a) × Begins v.sheet.seen journal × All (SheetFits seat false) v.returned
  RoleFits Spent seat v = ⊤

  -- what is true of the running desk, with this lock word, this in the slot and these views
  pub record Runs (views : List SeatView) : Type 0 where
    pub can_be : CanHave a.desk.value journal
    pub by_clerks : All (λ x. x.clerk < a.clerks) later
    pub holder : (number : ℕ) → lock ≡ number + 1 → (v : SeatView)
        × (get_elem? views (seat_of number) ≡ slot.some v) × ((v.role ≡ Clerk) × (v.holds ≡ true))
    pub free : lock ≡ 0 → home ≡ slot.some (Some (record a.desk.value { journal = journal }))
    pub in_slot : (x : Option DeskView) → home ≡ slot.some x → x ≡ Some (record a.desk.value { journal = journal })
    pub each : (seat : ℕ) (v : SeatView) → get_elem? views seat ≡ slot.some v → RoleFits v.role seat v

-- There is one history: the journal at the start, and what was served since. The words are the lock and the
-- history's length
abbrev pub DeskRule : About → State (Option DeskView) SeatView → Type 0
DeskRule a s =
    (lock : ℕ) × (home : slot.Option (Option DeskView)) × (later : List EntryView) × (seat_of : ℕ → ℕ)
    × (s.words ≡ lock ∷ length (a.desk.value.journal ++ later) ∷ []) × (s.homes ≡ home ∷ [])
    × Runs a lock home (a.desk.value.journal ++ later) later seat_of s.views
