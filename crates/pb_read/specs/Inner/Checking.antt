-- How far a check of a whole file has come; private contracts speak of it.
use Rattle.std.specs.Prelude.{◌≡◌, ◌≢◌, ◌≤◌, ◌<◌, ◌+◌, ◌-◌, ◌==◌, ℕ, Bool, true, false, List, [], ◌∷◌, ◌++◌, length}
use Rattle.std.specs.Prelude.{All, remove, take, MatchOption, Option, Some, None, Result, Ok, Err, IfSome, if◌then◌else◌, ⊤}
use Rattle.csv.specs.Records.{AllText}
use Rattle.pb_core.specs.Election.{ElectionView}
use Rattle.pb_rows.specs.Reading.{Fields, IsNext}
use Rattle.pb_rows.specs.declared.fault.RecordsFault.{RecordsFault}
use Rattle.pb_rows.specs.declared.fault.RecordsFault.TheVariants as stop
use Rattle.pb_read.specs.Inner.Forms.{next_row}
use Rattle.pb_read.specs.FirstFault.{IsFaultAt}
use Rattle.pb_read.specs.Listed.{AreListed, IsLeftOut, leaves_out}
use Rattle.pb_read.specs.Inner.Machine.{Position, advance, lowest_kind, row_fault}
use Rattle.pb_read.specs.Inner.Progresses.{BlamesReader, EndsWith}
use Rattle.pb_read.specs.Stages.{the_end}
use Rattle.pb_read.specs.StandsFor.{StandsFor, most_records}
use Rattle.pb_read.specs.Inner.Tracking.{IsNextRow, Tracks}
use Rattle.pb_read.specs.declared.check.Refused.{Refused}
use Rattle.pb_read.specs.declared.check.Verdict.{Verdict}
use Rattle.pb_read.specs.declared.check.Verdict.TheVariants.{Passes, LeavesOut, Ends, Done}
use Rattle.pb_read.specs.declared.fault.ReadFault.{ReadFault}
use Rattle.pb_read.specs.declared.fault.ReadKind.{ReadKind}
use Rattle.pb_read.specs.declared.fault.ReadKind.TheVariants.{ReadFailed, NoMemory, TooManyRecords}
use Rattle.pb_read.specs.declared.progress.Stage.{Stage}
use Rattle.pb_read.specs.declared.row.Found.{Found}
use Rattle.pb_read.specs.declared.row.Found.TheVariants.{Text, NoText, End}

-- the next record was read, as a row or as one that is no text; or none is left
abbrev pub HasFound : Option (List Fields) → Option (List Fields) → Fields → Found → Type 0
HasFound left after row Text = IsNextRow left after true row
HasFound left after row NoText = (fields : Fields) × IsNext left after true fields × ¬ AllText fields
HasFound left after row End = (fields : Fields) × IsNext left after false fields

-- the lowest kind of fault of a row that is text, after this many that were kept
abbrev pub text_fault : ℕ → Position → Fields → Option ReadKind
text_fault kept p row = if kept == most_records then Some TooManyRecords else row_fault p (next_row row)

-- what comes of a fault of this kind, where the file has come to this stage
abbrev pub IsRefusal : Stage → ReadKind → Verdict → Type 0
IsRefusal stage kind (LeavesOut other) = (other ≡ kind) × (kind ≢ NoMemory) × (leaves_out stage kind ≡ true)
IsRefusal stage kind (Ends other) = (other ≡ kind) × (leaves_out stage kind ≡ false)
IsRefusal stage kind verdict = ⊥

-- reading ends at a kind that applies; that the reader failed, or memory was refused, no clause can say
abbrev pub EndsAt : ReadKind → Option ReadKind → Type 0
EndsAt ReadFailed found = Unit {0}
EndsAt NoMemory found = Unit {0}
EndsAt kind found = found ≡ Some kind

-- a verdict on what comes next at a position, by the lowest kind that applies there
abbrev pub IsVerdict : Option ReadKind → Position → Position → Verdict → Type 0
IsVerdict found p q (LeavesOut kind) = (found ≡ Some kind) × (q ≡ p) × (leaves_out p.0 kind ≡ true)
IsVerdict found p q (Ends kind) = EndsAt kind found × (leaves_out p.0 kind ≡ false)
IsVerdict found p q verdict = ⊥

-- the same of a row that is text, which may pass
abbrev pub JudgesRow : ℕ → Fields → Position → Position → Verdict → Type 0
JudgesRow kept row p q Passes =
    ((kept == most_records) ≡ false) × (row_fault p (next_row row) ≡ None) × (q ≡ advance p (next_row row))
JudgesRow kept row p q verdict = IsVerdict (text_fault kept p row) p q verdict

-- the next record, where it is known what is left, is followed by these, and its lowest kind of fault is this
-- one
abbrev pub NextHas : ℕ → Option (List Fields) → Option (List Fields) → Position → ReadKind → Type 0
NextHas kept None after p kind = Unit {0}
NextHas kept (Some []) after p kind = ⊥
NextHas kept (Some (next ∷ rest)) after p kind =
    (after ≡ Some rest) × (lowest_kind kept p (next ∷ rest) ≡ Some kind)

-- the same of what is left, be it a record or the end
abbrev pub LeftHas : ℕ → Option (List Fields) → Position → ReadKind → Type 0
LeftHas kept left p ReadFailed = Unit {0}
LeftHas kept left p NoMemory = Unit {0}
LeftHas kept left p kind = IfSome left (λ records. lowest_kind kept p records ≡ Some kind)

-- a verdict on the records that are left, after this many that were kept
abbrev pub Judges :
    ℕ → Option (List Fields) → Option (List Fields) → Position → Position → Verdict → Type 0
Judges kept left after p q Passes =
    (row : Fields) × IsNextRow left after true row × JudgesRow kept row p q Passes
Judges kept left after p q (LeavesOut kind) =
    NextHas kept left after p kind × (q ≡ p) × (leaves_out p.0 kind ≡ true)
Judges kept left after p q (Ends kind) = LeftHas kept left p kind × (leaves_out p.0 kind ≡ false)
Judges kept left after p q Done = IfSome left (λ records. records ≡ []) × (q ≡ p) × ((e : ElectionView) × EndsWith p e)

-- a verdict on the end of the file
abbrev pub JudgesEnd : Position → Verdict → Type 0
JudgesEnd p (Ends kind) = EndsAt kind (row_fault p the_end) × (leaves_out p.0 kind ≡ false)
JudgesEnd p Done = (e : ElectionView) × EndsWith p e
JudgesEnd p verdict = ⊥

-- reading goes on
abbrev pub GoesOn : Verdict → Type 0
GoesOn (Ends kind) = ⊥
GoesOn Done = ⊥
GoesOn verdict = Unit {0}

-- the records without the one of this number, from 1
abbrev pub without : ℕ → List Fields → List Fields
without at records = remove records (at - 1)

-- taking out the records of these faults, of which each is the first of those that are left, leads to these
abbrev pub LeadsTo : ℕ → List Fields → List ReadFault → List Fields → Type 0
LeadsTo out records [] now = records ≡ now
LeadsTo out records (fault ∷ more) now =
    (out < fault.at) × IsFaultAt records fault.kind (fault.at - out)
    × (out < 999) × IsLeftOut true (take (fault.at - out - 1) records) fault.kind
    × LeadsTo (out + 1) (without (fault.at - out) records) more now

-- this many records were read, and these faults listed
pub record Going (all : List Fields) (left : Option (List Fields)) (done : ℕ) (faults : List ReadFault)
    (p : Position) : Type 0 where
  pub now : List Fields
  pub kept : ℕ
  pub leads : LeadsTo 0 all faults now
  pub done_is : done ≡ kept + length faults
  pub few : kept ≤ most_records
  pub tracks : Tracks (Some now) left kept p

-- the same where the records are known
abbrev pub IsGoing : Option (List Fields) → Option (List Fields) → ℕ → List ReadFault → Position → Type 0
IsGoing None left done faults p = Unit {0}
IsGoing (Some all) left done faults p = Going all left done faults p

-- the reader is at fault only where it failed
abbrev pub Blames : Verdict → Option RecordsFault → Type 0
Blames (LeavesOut kind) stopped = BlamesReader kind stopped
Blames (Ends kind) stopped = BlamesReader kind stopped
Blames verdict stopped = Unit {0}

-- and for one of these faults
abbrev pub AreBlamed : Option RecordsFault → List ReadFault → Type 0
AreBlamed stopped faults = All (λ fault. fault.kind ≡ ReadFailed → stopped ≡ Some stop.ReadFailed) faults

-- what it means that reading stops at a fault that is the next after these: where it is left out, and not the
-- last of as many as are listed, reading can go on
abbrev pub StopsAt : Option (List Fields) → Option (List Fields) → List ReadFault → Position → ReadFault → Bool → Type 0
StopsAt all left faults p fault true =
    (length faults < 999 → IsGoing all left fault.at (faults ++ fault ∷ []) p)
    × (length faults ≡ 999 → IfSome all (λ records. AreListed 0 records (faults ++ fault ∷ [])))
StopsAt all left faults p fault false = IfSome all (λ records. AreListed 0 records (faults ++ fault ∷ []))

-- the same, or that it has come to the end
abbrev pub Stops : Option (List Fields) → Option (List Fields) → List ReadFault → Position → Result ⊤ Refused → Type 0
Stops all left faults p (Ok done) = IfSome all (λ records. AreListed 0 records faults × (faults ≡ [] → StandsFor records p.1))
Stops all left faults p (Err refused) = StopsAt all left faults p refused.fault refused.is_left_out

-- what a check that lists these faults hands out: where there is none the election that the records stand
-- for, else nothing
abbrev pub IsHandedOut : List Fields → List ReadFault → Option ElectionView → Type 0
IsHandedOut records faults election =
    MatchOption election (faults ≢ []) (λ e. (faults ≡ []) × StandsFor records e)

-- whether the record with this number, from 1, is left out
abbrev pub IsLeftOutAt : Bool → List Fields → ReadKind → ℕ → Type 0
IsLeftOutAt is_left_out records kind at = IsLeftOut is_left_out (take (at - 1) records) kind
