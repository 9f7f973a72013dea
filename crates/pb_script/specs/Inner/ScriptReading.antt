-- How far a script was read.
use Rattle.std.specs.Prelude.{◌≡◌, ℕ, ◌++◌, ⊤, true, All, List, [], length, Option, None, Some, IfSome, Ok}
use Rattle.std.specs.List.{AllZip}
use Rattle.pb_core.specs.Request.{RequestView}
use Rattle.pb_rows.specs.Reading.{Fields, IsNext}
use Rattle.pb_rows.specs.declared.fault.RecordsFault.{RecordsFault}
use Rattle.pb_rows.specs.declared.fault.RecordsFault.TheVariants as stop
use Rattle.pb_script.specs.Admission.{Judges}
use Rattle.pb_desk.specs.Rows.{ScriptRowView}
use Rattle.pb_script.specs.ScriptReading.{IsNextScriptFault}
use Rattle.pb_script.specs.Scripts.{IsScript}
use Rattle.pb_script.specs.declared.admission.Admission.{Admission}
use Rattle.pb_script.specs.Inner.Script.{AreAsked}
use Rattle.pb_script.specs.declared.script_fault.ScriptFault.{ScriptFault}
use Rattle.pb_script.specs.declared.script_fault.ScriptFault.TheVariants.{ReadFailed}

-- where it is known which records are left, there is none
abbrev pub NoneLeft : Option (List Fields) → Type 0
NoneLeft left = IfSome left (λ records. records ≡ [])

-- the records are a script for this many clerks, in which each asks this
abbrev pub SplitsScript : Admission → ℕ → List Fields → List (List RequestView) → Type 0
SplitsScript a clerks records lists =
    (script : List ScriptRowView) × IsScript a clerks records script × AreAsked clerks script lists

-- where it is known which records there were, they are those that were read, and those that are left
abbrev pub HaveGone : Option (List Fields) → List Fields → Option (List Fields) → Type 0
HaveGone None gone left = ⊤
HaveGone (Some all) gone None = ⊥
HaveGone (Some all) gone (Some rest) = all ≡ gone ++ rest

-- the next record is this one, and says this
pub record TakesScriptRow (a : Admission) (clerks : ℕ) (left after : Option (List Fields)) (x : ScriptRowView)
    : Type 0 where
  pub fields : Fields
  pub next : IsNext left after true fields
  pub row : Judges a clerks fields (Ok x)

-- this many records were read, and in them each clerk asked this
pub record HaveAsked (a : Admission) (clerks : ℕ) (all left : Option (List Fields)) (count : ℕ)
    (lists : List (List RequestView)) : Type 0 where
  pub gone : List Fields
  pub script : List ScriptRowView
  pub have_gone : HaveGone all gone left
  pub rows : AllZip (λ row x. Judges a clerks row (Ok x)) gone script
  pub count_is : length gone ≡ count
  pub lists_are : AreAsked clerks script lists

-- the reader is at fault only where it failed
abbrev pub BlamesReader : ScriptFault → Option RecordsFault → Type 0
BlamesReader (ReadFailed row) stopped = stopped ≡ Some stop.ReadFailed
BlamesReader fault stopped = ⊤

-- the first fault of the records: those before it are admitted
abbrev pub IsFaultOfScript : Admission → ℕ → List Fields → ScriptFault → Type 0
IsFaultOfScript a clerks records fault = (before : List Fields) × (left : List Fields)
    × (records ≡ before ++ left) × All (λ row. (x : ScriptRowView) × Judges a clerks row (Ok x)) before
    × IsNextScriptFault a clerks (length before) left fault
