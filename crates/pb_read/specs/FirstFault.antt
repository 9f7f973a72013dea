-- The first fault of a list of records.
use Rattle.std.specs.Prelude.{◌≡◌, ◌≤◌, ◌<◌, ◌+◌, ◌⊎◌, ℕ, true, false, List, ◌++◌, length}
use Rattle.std.specs.Prelude.{Option, Result, IfErr, IfOk, IfSome, MatchResult}
use Rattle.pb_core.specs.Election.{ElectionView}
use Rattle.pb_rows.specs.Reading.{Fields, records_of}
use Rattle.pb_read.specs.Faults.{applies_after}
use Rattle.pb_read.specs.Kinds.{number_of}
use Rattle.pb_read.specs.Stages.{IsAt}
use Rattle.pb_read.specs.Rows.{rows_of}
use Rattle.pb_read.specs.StandsFor.{Describes, StandsFor, most_records}
use Rattle.pb_read.specs.declared.fault.ReadFault.{ReadFault}
use Rattle.pb_read.specs.declared.fault.ReadKind.{ReadKind}
use Rattle.pb_read.specs.declared.progress.Stage.{Stage}
use Rattle.pb_read.specs.declared.fault.ReadKind.TheVariants.{ReadFailed, NoMemory}

-- none of these records is at fault: more may follow so that all of them describe an election
abbrev pub HasNoFault : List Fields → Type 0
HasNoFault records =
    (length records ≤ most_records) × (end : List Fields) × (e : ElectionView) × Describes (records ++ end) e

-- the first of the records that are left, or the end of the file, is at fault by this kind: no kind of a
-- lower number applies to it
pub record IsFirstFault (done left : List Fields) (kind : ReadKind) : Type 0 where
  pub stage : Stage × ElectionView
  pub so_far : IsAt (rows_of done) stage
  pub applies : applies_after (length done) stage left kind ≡ true
  pub lowest : (other : ReadKind) → number_of other < number_of kind →
      applies_after (length done) stage left other ≡ false

-- a refusal that no file can rule out
abbrev pub IsFromOutside : ReadKind → Type 0
IsFromOutside kind = (kind ≡ ReadFailed) ⊎ (kind ≡ NoMemory)

-- a fault of records, which are numbered from 1, as is the end of the file: those before that number have no
-- fault, and it is the first one; of one from outside no clause can say at which record it came
abbrev pub IsFaultAt : List Fields → ReadKind → ℕ → Type 0
IsFaultAt records kind at =
    (done : List Fields) × (left : List Fields) × (records ≡ done ++ left) × (at ≡ length done + 1)
    × HasNoFault done × (IsFirstFault done left kind ⊎ IsFromOutside kind)

-- what the reading of a text of which this is known comes to: the election that its records stand for, or their
-- first fault; and where they stand for one, a refusal comes from outside
pub record ReadsTo (known : Option (List ℕ)) (result : Result ElectionView ReadFault) : Type 0 where
  pub ok : IfSome known (λ bytes. IfOk result (StandsFor (records_of bytes)))
  pub fault : IfSome known (λ bytes. IfErr result (λ fault. IsFaultAt (records_of bytes) fault.kind fault.at))
  pub accepts : IfSome known (λ bytes. (e : ElectionView) → StandsFor (records_of bytes) e
      → MatchResult result (λ read. read ≡ e) (λ fault. IsFromOutside fault.kind))
