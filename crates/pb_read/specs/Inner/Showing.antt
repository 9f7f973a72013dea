-- What was shown so far; private contracts speak of it.
use Rattle.std.specs.Prelude.{◌≡◌, ℕ, ⊤, Bool, true, false, List, [], ◌∷◌, ◌++◌, length, map, Option, Some, None, Result, Ok, Err, IfSome}
use Rattle.std.specs.Str.{trim}
use Rattle.pb_rows.specs.Reading.{Fields}
use Rattle.pb_read.specs.Inner.Forms.{next_row}
use Rattle.pb_read.specs.Inner.Fields.{record_after}
use Rattle.pb_read.specs.Inner.Machine.{Position, advance, row_fault}
use Rattle.pb_read.specs.Inner.Tracking.{IsNextRow, Reached}
use Rattle.pb_read.specs.Refusals.{refusal_of}
use Rattle.pb_read.specs.Shown.{AreShown, IsAll, Sight, WereShown, faults_of, kept, refused, seen}
use Rattle.pb_read.specs.declared.check.Refused.{Refused}
use Rattle.pb_read.specs.declared.check.Verdict.{Verdict}
use Rattle.pb_read.specs.declared.check.Verdict.TheVariants.{Passes, LeavesOut, Ends, Done}
use Rattle.pb_read.specs.declared.fault.ReadFault.{ReadFault}
use Rattle.pb_read.specs.declared.fault.ReadKind.{ReadKind}

-- where it is known what was shown before, this was shown after it; the last one comes first
abbrev pub Adds : Sight → Option (List Sight) → Option (List Sight) → Type 0
Adds sight before after = IfSome before (λ old. after ≡ Some (sight ∷ old))

-- this many of all records were shown, with these faults, and those that were kept come to a position
pub record AreShownTo (all : List Fields) (count : ℕ) (faults : List ReadFault) (p : Position) (old : List Sight) (after : Option (List Sight)) : Type 0 where
  pub new : List Sight
  pub is : after ≡ Some (new ++ old)
  pub are : AreShown all new
  pub size : length new ≡ count
  pub faults_are : faults_of new ≡ faults
  pub reached : Reached (kept all new) p

-- this many of all records were read and shown, and these are left
pub record HasShown (all left : List Fields) (count : ℕ) (faults : List ReadFault) (p : Position) (before after : Option (List Sight)) : Type 0 where
  pub done : List Fields
  pub cut : all ≡ done ++ left
  pub count_is : length done ≡ count
  pub shown : IfSome before (λ old. AreShownTo all count faults p old after)

-- the same of a reader, where its records are known
abbrev pub Shows : Option (List Fields) → Option (List Fields) → ℕ → List ReadFault → Position → Option (List Sight) → Option (List Sight) → Type 0
Shows None left count faults p before after = Unit {0}
Shows (Some all) None count faults p before after = ⊥
Shows (Some all) (Some left) count faults p before after = HasShown all left count faults p before after

-- and what it means where reading stops
abbrev pub ShowsFault : Option (List Fields) → Option (List Fields) → List ReadFault → Position → Option (List Sight) → Option (List Sight) → ReadFault → Bool → Type 0
ShowsFault all left faults p before after fault true = Shows all left fault.at (faults ++ fault ∷ []) p before after
ShowsFault all left faults p before after fault false =
    IfSome all (λ records. WereShown records (faults ++ fault ∷ []) (IsAll records) before after)
    × IfSome all (λ records. WereShown records (faults ++ fault ∷ []) (λ new. length new ≡ fault.at) before after)

abbrev pub ShowsStop : Option (List Fields) → Option (List Fields) → List ReadFault → Position → Option (List Sight) → Option (List Sight) → Result ⊤ Refused → Type 0
ShowsStop all left faults p before after (Ok done) = IfSome all (λ records. WereShown records faults (IsAll records) before after)
ShowsStop all left faults p before after (Err stop) = ShowsFault all left faults p before after stop.fault stop.is_left_out

-- a fault of this kind of a row is shown
abbrev pub IsRefusedRow : Fields → ℕ → Position → ReadKind → Option (List Sight) → Option (List Sight) → Type 0
IsRefusedRow row at p kind before after = Adds (refused (refusal_of p row (record { kind = kind; at = at }))) before after

-- a row that passes is shown with its number and the election, and a fault; the end of the file is not yet
abbrev pub IsShownRow : Fields → ℕ → Position → Position → Option (List Sight) → Option (List Sight) → Verdict → Type 0
IsShownRow row at p q before after Passes = Adds (seen at row q.1) before after
IsShownRow row at p q before after (LeavesOut kind) = IsRefusedRow row at p kind before after
IsShownRow row at p q before after (Ends kind) = IsRefusedRow row at p kind before after
IsShownRow row at p q before after Done = after ≡ before

-- the same of what is left to read
abbrev pub IsRefusedNext : Option (List Fields) → ℕ → Position → ReadKind → Option (List Sight) → Option (List Sight) → Type 0
IsRefusedNext left at p kind before after =
    (row : Fields) × IfSome left (λ records. row ≡ map trim (record_after 0 records)) × IsRefusedRow row at p kind before after

abbrev pub IsShownNext : Option (List Fields) → Option (List Fields) → ℕ → Position → Position → Option (List Sight) → Option (List Sight) → Verdict → Type 0
IsShownNext left rest at p q before after Passes =
    (row : Fields) × IsNextRow left rest true row × (row_fault p (next_row row) ≡ None) × (q ≡ advance p (next_row row))
    × Adds (seen at row q.1) before after
IsShownNext left rest at p q before after (LeavesOut kind) = IsRefusedNext left at p kind before after
IsShownNext left rest at p q before after (Ends kind) = IsRefusedNext left at p kind before after
IsShownNext left rest at p q before after Done = after ≡ before
