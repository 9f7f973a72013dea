-- The table of a shared desk, and a clerk's seat between two calls, while it holds the lock, and after it has
-- served.
use Rattle.std.specs.Prelude.{◌≡◌, ◌≢◌, ℕ, ◌+◌, ◌<◌, ◌≤◌, ◌^◌, List, [], ◌∷◌, ◌++◌, false, true, None}
use Rattle.atomic_table.specs.Seated.{TableId}
use Rattle.pb_shared.specs.Inner.Desk.{desk_with}
use Rattle.pb_core.specs.Request.{EntryView}
use Rattle.pb_desk.specs.Desk.{DeskView}
use Rattle.pb_desk.specs.Replay.{most_clerks}
use Rattle.pb_shared.specs.Clerk.{SharedView, ClerkView, new_sheet}
use Rattle.pb_shared.specs.Inner.Rule.{stock, Sitter}
use Rattle.pb_shared.specs.Inner.Plays.{CanSee, won, lost}
use Rattle.pb_shared.specs.declared.seat_view.About.{About}
use Rattle.pb_shared.specs.declared.seat_view.Role.TheVariants.{Clerk}

-- the table of a shared desk has two words and a slot
pub record IsTable (id : TableId) (a : About) : Type 0 where
  pub words : id.words ≡ 2
  pub slots : id.slots ≡ 1
  pub small : a.desk.value.room < 2 ^ 32

-- the seat of a clerk between two calls: it does not hold the lock, and has taken nothing out
pub record IsIdle (number : ℕ) (m : Sitter) : Type 0 where
  pub role : m.0.role ≡ Clerk
  pub number_is : m.0.sheet.number ≡ number
  pub known : number < m.0.about.clerks
  pub few : m.0.about.clerks ≤ most_clerks
  pub free : m.0.holds ≡ false
  pub empty : m.1 ≡ []

-- a clerk who has made no call
abbrev pub newcomer : SharedView → ℕ → ClerkView
newcomer d number = record { desk = d; sheet = new_sheet d.start.journal number }

-- an exchange won the lock: the desk was taken out, with the whole history as its journal, which is what the
-- clerk has now seen
abbrev pub HasWon : Sitter → DeskView → Sitter → Type 0
HasWon m desk m' = (seen : List EntryView) × CanSee m.0 seen × (desk ≡ desk_with m.0.about.desk.value seen)
    × (m' ≡ (won m.0 seen, (0, None) ∷ []))

-- an exchange found the lock with another clerk
abbrev pub HasLost : Sitter → ℕ → Sitter → Type 0
HasLost m holder m' = (holder < m.0.about.clerks) × (holder ≢ m.0.sheet.number)
    × (m' ≡ (lost m.0 (holder + 1), []))

-- the clerk holds the lock, and its desk is out
pub record IsOut (m : Sitter) : Type 0 where
  pub role : m.0.role ≡ Clerk
  pub holds : m.0.holds ≡ true
  pub taken : m.1 ≡ (0, None) ∷ []

-- the desk as it was taken out, with this journal
abbrev pub IsDeskOf : Sitter → DeskView → List EntryView → Type 0
IsDeskOf m desk journal = desk ≡ desk_with m.0.about.desk.value journal

-- the desk as it was taken out, with one entry more, which is the clerk's
abbrev pub HasServed : Sitter → DeskView → Type 0
HasServed m desk = (x : EntryView) × (x.clerk ≡ m.0.sheet.number) × IsDeskOf m desk (m.0.sheet.seen ++ x ∷ [])

-- a new table with this desk for this many clerks, and its first seat
pub record IsLaid (desk : DeskView) (clerks : ℕ) (id : TableId) (a : About) (its : TableId)
    (m : Sitter) : Type 0 where
  pub table : IsTable id a
  pub desk_is : a.desk.value ≡ desk
  pub clerks_is : a.clerks ≡ clerks
  pub seat_of : its ≡ id
  pub first : m ≡ (stock a, [])
