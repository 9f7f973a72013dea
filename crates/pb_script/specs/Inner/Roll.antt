-- How far a voters' roll was read.
use Rattle.std.specs.Prelude.{◌≡◌, ℕ, ◌≤◌, ◌++◌, ⊤, Bool, true, false, List, All, Option, Some, codes, is_some, length}
use Rattle.std.specs.Cmp.Lexicographic.{slice_cmp}
use Rattle.std.specs.FinMap.{FinMap, get, insert}
use Rattle.std.specs.Ordering.{nat_cmp}
use Rattle.std.specs.Str.{bytes_eq, trim}
use Rattle.csv.specs.Records.{AllText}
use Rattle.pb_read.specs.Rows.{field}
use Rattle.pb_read.specs.Voting.{is_among}
use Rattle.pb_rows.specs.Reading.{Fields}
use Rattle.pb_script.specs.Inner.ScriptReading.{HaveGone}
use Rattle.pb_script.specs.Roll.{AreRoll, IsNextRollFault, ids_of}
use Rattle.pb_read.specs.StandsFor.{most_records}
use Rattle.pb_script.specs.declared.roll.RollFault.{RollFault}
use Rattle.pb_script.specs.declared.roll.RollFault.TheVariants.{ReadFailed}
use Rattle.pb_rows.specs.declared.fault.RecordsFault.{RecordsFault}
use Rattle.pb_rows.specs.declared.fault.RecordsFault.TheVariants as stop

-- whatever this many rows came before, with this many ids, the fault is that of the next
abbrev pub IsFaultAfter : ℕ → ℕ → List Fields → RollFault → Type 0
IsFaultAfter rows ids left fault = (before : List Fields) → length before ≡ rows → length (ids_of before) ≡ ids
    → ids ≤ most_records → IsNextRollFault before left fault

-- the reader is at fault only where it failed
abbrev pub BlamesRollReader : RollFault → Option RecordsFault → Type 0
BlamesRollReader (ReadFailed row) stopped = stopped ≡ Some stop.ReadFailed
BlamesRollReader fault stopped = ⊤

-- the id of this row has come to the table, or the row is a header
pub record PutsId (row : Fields) (is_first has_id : Bool) (old new : FinMap (slice_cmp nat_cmp) ℕ) : Type 0 where
  pub header : has_id ≡ false → (is_first ≡ true)
      × (bytes_eq (trim (field row 0)) (codes "voter_id") ≡ true) × (new ≡ old)
  pub id : has_id ≡ true → (is_first ≡ true → bytes_eq (trim (field row 0)) (codes "voter_id") ≡ false)
      × (new ≡ insert old (trim (field row 0)) 0)

-- this many rows were read, with this many ids, and the table has these
pub record HaveIds (all left : Option (List Fields)) (rows ids : ℕ) (roll : FinMap (slice_cmp nat_cmp) ℕ)
    : Type 0 where
  pub gone : List Fields
  pub have_gone : HaveGone all gone left
  pub text : All AllText gone
  pub count : length gone ≡ rows
  pub counted : length (ids_of gone) ≡ ids
  pub has : (voter : List ℕ) → is_some (get roll voter) ≡ is_among (ids_of gone) voter

-- the table is that of the roll which these records are: it has their ids, and no others
abbrev pub IsRoll : List Fields → FinMap (slice_cmp nat_cmp) ℕ → Type 0
IsRoll records roll =
    AreRoll records × ((voter : List ℕ) → is_some (get roll voter) ≡ is_among (ids_of records) voter)

-- the first fault of the records: those before it are a roll
abbrev pub IsRollFault : List Fields → RollFault → Type 0
IsRollFault records fault = (before : List Fields) × (left : List Fields) × (records ≡ before ++ left)
    × AreRoll before × IsNextRollFault before left fault
