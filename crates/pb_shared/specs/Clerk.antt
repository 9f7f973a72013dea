-- What contracts see of a shared desk and its clerks, and what a call changes of it.
use Rattle.std.specs.Prelude.{◌≡◌, ◌≢◌, ℕ, ◌+◌, ◌<◌, ◌≤◌, ◌==◌, List, [], ◌∷◌, ◌++◌, length, filter, All}
use Rattle.atomic_table.specs.Seated.{TableId}
use Rattle.pb_core.specs.Request.{EntryView, RequestView}
use Rattle.pb_core.specs.declared.answer.Answer.{Answer}
use Rattle.pb_desk.specs.Desk.{DeskView}
use Rattle.pb_desk.specs.Replay.{IsLegal, most_clerks}
use Rattle.pb_shared.specs.declared.seat_view.Sheet.{Sheet}

-- which shared desk it is, the desk as it was when it was shared, and the number of clerks
pub record SharedView : Type 0 where
  pub id : TableId
  pub start : DeskView
  pub clerks : ℕ

-- a clerk, or a note: the shared desk that made it, and what it knows
pub record ClerkView : Type 0 where
  pub desk : SharedView
  pub sheet : Sheet

-- the first list begins the second
abbrev pub Begins : List EntryView → List EntryView → Type 0
Begins front journal = (rest : List EntryView) × (journal ≡ front ++ rest)

-- what was seen begins the journal, and what came after it is other clerks'
abbrev pub GrowsByOthers : ℕ → List EntryView → List EntryView → Type 0
GrowsByOthers number seen journal =
    (rest : List EntryView) × (journal ≡ seen ++ rest) × (filter (λ x. x.clerk == number) rest ≡ [])

-- the desk can have this journal: it is legal, and fits the room
abbrev pub CanHave : DeskView → List EntryView → Type 0
CanHave d journal = IsLegal d.opening journal × (length journal ≤ d.room)

-- who has seen this journal, and made no call
abbrev pub new_sheet : List EntryView → ℕ → Sheet
new_sheet journal number = record { number = number; seen = journal; mine = []; found = []; read = [] }

-- a desk is shared among 1 to 64 clerks
abbrev pub AreClerks : ℕ → Type 0
AreClerks clerks = (0 < clerks) × (clerks ≤ most_clerks)

-- this lock word is that of a clerk of the desk, who is none of these
abbrev pub IsAnothers : SharedView → List Sheet → ℕ → Type 0
IsAnothers d sheets word = (0 < word) × (word ≤ d.clerks) × All (λ x. word ≢ x.number + 1) sheets

module _ (tries : ℕ) (d : SharedView) (x : Sheet) where
  -- the call's last exchange found this word; those before it, fewer than the tries, were lost to other clerks
  abbrev pub Tries : ℕ → Sheet → Type 0
  Tries word x' = (lost : List ℕ) × All (IsAnothers d (x ∷ [])) lost × (length lost < tries)
      × (x'.found ≡ x.found ++ (lost ++ word ∷ []))

  -- one of the tries won the lock, and the clerk has seen the journal, which the desk can have, and which grew
  -- by other clerks' entries alone; nothing else of the clerk has changed
  abbrev pub Sees : Sheet → Type 0
  Sees x' = Tries 0 x' × (CanHave d.start x'.seen × GrowsByOthers x.number x.seen x'.seen)
      × (x' ≡ record x { seen = x'.seen; found = x'.found })

  -- one of the tries won the lock, and the request was answered: past other clerks' entries that came in
  -- between, its entry stands last in what the clerk has now seen, and is the only one that its own grew by
  abbrev pub Serves : RequestView → Answer → Sheet → Type 0
  Serves request answer x' =
      let last : EntryView = record { clerk = x.number; request = request; answer = answer } in
      (before : List EntryView) × GrowsByOthers x.number x.seen before × CanHave d.start x'.seen × Tries 0 x'
      × (x' ≡ record x { seen = before ++ last ∷ []; mine = x.mine ++ last ∷ []; found = x'.found })

-- the clerk's load found this front word: the length of what it has now seen, which the desk can have
abbrev pub Reads : SharedView → Sheet → ℕ → Sheet → Type 0
Reads d x front x' = (CanHave d.start x'.seen × GrowsByOthers x.number x.seen x'.seen) × (front ≡ length x'.seen)
    × (x' ≡ record x { seen = x'.seen; read = x.read ++ front ∷ [] })

-- the shared desk can have this journal, which begins with what each of these clerks has seen, and past the
-- start is a merge: it has the entries of each of them, in order, and no entry by a number that is no clerk's
pub record IsMergeOf (d : SharedView) (clerks : List ClerkView) (journal : List EntryView) : Type 0 where
  pub later : List EntryView
  pub journal_is : journal ≡ d.start.journal ++ later
  pub can_be : CanHave d.start journal
  pub agrees : All (λ c. Begins c.sheet.seen journal
      × (filter (λ x. x.clerk == c.sheet.number) later ≡ c.sheet.mine)) clerks
  pub by_clerks : All (λ x. x.clerk < d.clerks) later
