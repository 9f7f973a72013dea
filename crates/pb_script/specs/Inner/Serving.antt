-- How far the clerks' requests were served.
use Rattle.std.specs.Prelude.{◌≡◌, ℕ, ◌<◌, ◌≤◌, ◌++◌, ⊤, Bool, true, false, List, [], ◌∷◌, All, length, map}
use Rattle.std.specs.Prelude.{slice_index, slice_index_or, take}
use Rattle.pb_core.specs.Election.{ElectionView}
use Rattle.pb_core.specs.Request.{EntryView, RequestView, Shut}
use Rattle.pb_core.specs.declared.answer.Answer.{Answer}
use Rattle.pb_desk.specs.Opening.{OpeningView}
use Rattle.pb_desk.specs.declared.version.Version.TheVariants.{Two}
use Rattle.pb_desk.specs.Rows.{ScriptRowView}
use Rattle.pb_shared.specs.Clerk.{AreClerks, ClerkView, SharedView}
use Rattle.pb_shared.specs.Inner.Entries.{entries_by}
use Rattle.pb_shared.specs.declared.share_fault.ShareFault.{ShareFault}
use Rattle.pb_shared.specs.declared.share_fault.ShareFault.TheVariants as share
use Rattle.pb_script.specs.declared.script_fault.ScriptFault.TheVariants as script
use Rattle.pb_script.specs.declared.serve_fault.ServeFault.{ServeFault}
use Rattle.pb_script.specs.declared.serve_fault.ServeFault.TheVariants.{Script, ClerkCount}
use Rattle.pb_script.specs.Inner.Script.{asked_by}

-- what a clerk asked in a journal, in order
abbrev pub requests_of : ℕ → List EntryView → List RequestView
requests_of clerk journal = map (λ x. x.request) (entries_by clerk journal)

-- the journal serves a script for this many clerks: what each clerk asked in it is what the clerk's rows say,
-- in their order, and it has no other entries
pub record ServesScript (clerks : ℕ) (script : List ScriptRowView) (journal : List EntryView) : Type 0 where
  pub in_order : (clerk : ℕ) → clerk < clerks → requests_of clerk journal ≡ asked_by clerk script
  pub by_clerks : All (λ x. x.clerk < clerks) journal

-- a run's journal is such a one; where the run shuts the desk at its end, one last entry, by clerk 0, asks
-- for that after such a one
abbrev pub ShutAtEnd : Bool → (List EntryView → Type 0) → List EntryView → Type 0
ShutAtEnd false IsJournal journal = IsJournal journal
ShutAtEnd true IsJournal journal =
    (before : List EntryView) × (answer : Answer) × IsJournal before
    × (journal ≡ before ++ record { clerk = 0; request = Shut; answer = answer } ∷ [])

-- the requests of each clerk, by its number
abbrev pub list_of : List (List RequestView) → ℕ → List RequestView
list_of lists clerk = slice_index_or lists clerk []

-- the journal has what each clerk asked, in order, and no other entries
pub record ServesAll (lists : List (List RequestView)) (journal : List EntryView) : Type 0 where
  pub in_order : (clerk : ℕ) → clerk < length lists → requests_of clerk journal ≡ list_of lists clerk
  pub by_clerks : All (λ x. x.clerk < length lists) journal

-- the journal has all that the clerks below this number asked, of each other clerk the first of its requests,
-- this many, and no other entries
pub record ServesUpTo (done : ℕ) (lists : List (List RequestView)) (served : List ℕ)
    (journal : List EntryView) : Type 0 where
  pub whole : (clerk : ℕ) → clerk < done → clerk < length lists
      → requests_of clerk journal ≡ list_of lists clerk
  pub first : (clerk : ℕ) → done ≤ clerk → clerk < length lists
      → requests_of clerk journal ≡ take (slice_index served clerk) (list_of lists clerk)
  pub by_clerks : All (λ x. x.clerk < length lists) journal

-- a number for each clerk, of the requests that were served: no more than the clerk has
pub record AreCounts (lists : List (List RequestView)) (served : List ℕ) : Type 0 where
  pub one_each : length served ≡ length lists
  pub within : (clerk : ℕ) → clerk < length lists → slice_index served clerk ≤ length (list_of lists clerk)

-- the entries that came later are those of this clerk, for these requests
pub record AppendsFor (clerk : ℕ) (requests : List RequestView) (before after : List EntryView) : Type 0 where
  pub later : List EntryView
  pub journal_is : after ≡ before ++ later
  pub by_clerk : All (λ x. x.clerk ≡ clerk) later
  pub asked : map (λ x. x.request) later ≡ requests

-- a clerk is back: of these requests it has served the first, this many, in order, and nothing else
pub record HasServed (d : SharedView) (number : ℕ) (requests : List RequestView) (c : ClerkView)
    (served : ℕ) : Type 0 where
  pub own : c.desk ≡ d
  pub number_is : c.sheet.number ≡ number
  pub within : served ≤ length requests
  pub mine : map (λ x. x.request) c.sheet.mine ≡ take served requests

-- all clerks are back, in the order of their numbers: each has served the first of its requests, this many
pub record AreBack (d : SharedView) (lists : List (List RequestView)) (clerks : List ClerkView)
    (served : List ℕ) : Type 0 where
  pub clerks_count : length clerks ≡ d.clerks
  pub served_count : length served ≡ d.clerks
  pub each : (number : ℕ) (c : ClerkView) → number < d.clerks → c ≡ slice_index_or clerks number c
      → HasServed d number (list_of lists number) c (slice_index served number)

-- a desk that was not shared, as it is answered
abbrev pub unshared : ShareFault → ServeFault
unshared (share.ClerkCount desk) = ClerkCount
unshared (share.NoMemory desk) = Script script.NoMemory

-- why requests were not served: the number of clerks, or memory was refused
abbrev pub IsServingFault : ℕ → ServeFault → Type 0
IsServingFault clerks ClerkCount = ¬ AreClerks clerks
IsServingFault clerks (Script script.NoMemory) = ⊤
IsServingFault clerks (Script fault) = ⊥

-- what a desk of the program opens with
abbrev pub opening_of : ElectionView → OpeningView
opening_of e = record { election = e; version = Two }
