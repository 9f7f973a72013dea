-- What each step on the table tells the seat that makes it, within the rule of the steps. Proofs alone need
-- it.
use Rattle.std.specs.Prelude.{◌≡◌, ◌≢◌, ℕ, suc, ◌+◌, ◌≤◌, true, false, List, [], ◌∷◌, ◌++◌, length, drop}
use Rattle.std.specs.Prelude.{Option, Some, None}
use Rattle.pb_shared.specs.Inner.Desk.{desk_with}
use Rattle.pb_core.specs.Request.{EntryView}
use Rattle.pb_desk.specs.Desk.{DeskView}
use Rattle.pb_desk.specs.declared.version.Version.TheVariants.{Two}
use Rattle.pb_shared.specs.Clerk.{Begins, CanHave, GrowsByOthers, new_sheet}
use Rattle.pb_shared.specs.Inner.Rule.{seated, Sitter}
use Rattle.pb_shared.specs.declared.seat_view.About.{About}
use Rattle.pb_shared.specs.declared.seat_view.Role.TheVariants.{Clerk, Guest, Spent}
use Rattle.pb_shared.specs.declared.seat_view.SeatView.{SeatView}

-- the history can be this, as far as the seat knows
pub record CanSee (v : SeatView) (seen : List EntryView) : Type 0 where
  pub can_be : CanHave v.about.desk.value seen
  pub begins : GrowsByOthers v.sheet.number v.sheet.seen seen

abbrev pub won : SeatView → List EntryView → SeatView
won v seen =
    record v { sheet = record v.sheet { seen = seen; found = v.sheet.found ++ 0 ∷ [] }; holds = true }

abbrev pub lost : SeatView → ℕ → SeatView
lost v word = record v { sheet = record v.sheet { found = v.sheet.found ++ word ∷ [] } }

-- the desk has this journal now, whose entries past what was seen are the clerk's own
abbrev pub published : SeatView → List EntryView → SeatView
published v journal =
    let mine = v.sheet.mine ++ drop (length v.sheet.seen) journal in
    record v { sheet = record v.sheet { seen = journal; mine = mine }; home = true }

abbrev pub freed : SeatView → SeatView
freed v = record v { holds = false; home = false }

abbrev pub has_read : SeatView → List EntryView → ℕ → SeatView
has_read v seen word = record v { sheet = record v.sheet { seen = seen; read = v.sheet.read ++ word ∷ [] } }

-- the journal of the desk that a seat has taken out
abbrev pub journal_out : List (ℕ × Option DeskView) → List EntryView
journal_out [] = []
journal_out ((_, None) ∷ _) = []
journal_out ((_, Some d) ∷ _) = d.journal

-- an exchange wins the lock and takes the desk out, with the whole history as its journal, or it finds the
-- word of another clerk
abbrev pub tries_lock : Sitter → ℕ → Sitter → Type 0
tries_lock m word m' =
    (word ≡ 0 → (seen : List EntryView) × CanSee m.0 seen
    × (m' ≡ (won m.0 seen, (0, Some (desk_with m.0.about.desk.value seen)) ∷ [])))
    × (word ≢ 0 → (word ≤ m.0.about.clerks) × (word ≢ m.0.sheet.number + 1) × (m' ≡ (lost m.0 word, [])))

abbrev pub publishes : Sitter → ℕ → Sitter → Type 0
publishes m word m' = m' ≡ (published m.0 (journal_out m.1), [])

abbrev pub frees : Sitter → ℕ → Sitter → Type 0
frees m word m' = m' ≡ (freed m.0, [])

abbrev pub reads : Sitter → ℕ → Sitter → Type 0
reads m word m' = (seen : List EntryView) × CanSee m.0 seen × Begins m.0.told seen × (word ≡ length seen)
    × (m' ≡ (has_read m.0 seen word, m.1))

abbrev pub visits : Sitter → ℕ → Sitter → Type 0
visits m word m' = m'.0 ≡ seated Guest m.0.about (new_sheet m.0.about.desk.value.journal 0)

-- the next clerk leaves the stock
abbrev pub dealt_left : SeatView → SeatView
dealt_left v = record v { sheet = record v.sheet { number = suc v.sheet.number } }

abbrev pub dealt_right : SeatView → SeatView
dealt_right v = seated Clerk v.about (new_sheet v.about.desk.value.journal v.sheet.number)

abbrev pub note_of : SeatView → SeatView
note_of v = seated Guest v.about v.sheet

abbrev pub informed : SeatView → SeatView → SeatView
informed v note = record v { told = note.sheet.seen }

abbrev pub handed : SeatView → SeatView → SeatView
handed v clerk = record v { returned = clerk.sheet ∷ v.returned }

-- a desk that nobody has
abbrev pub no_desk : DeskView
no_desk = record {
  opening = record {
    election = record { budget = 0; max_length = None; projects = []; voters = [] };
    version = Two;
  };
  room = 0;
  journal = [];
}

abbrev pub nobody : SeatView
nobody =
    let a : About = record { desk = record { marker = record {}; value = no_desk }; clerks = 0 } in
    seated Spent a (new_sheet [] 0)
