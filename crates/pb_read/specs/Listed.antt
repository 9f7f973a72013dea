-- The faults that a check of a whole file lists.
use Rattle.std.specs.Prelude.{◌≡◌, ◌<◌, ◌+◌, ◌-◌, ◌⊎◌, ◌==◌, ◌||◌, ◌&&◌, nat_le, ℕ, Bool, true, false}
use Rattle.std.specs.Prelude.{List, [], ◌∷◌, remove, take}
use Rattle.pb_core.specs.Election.{ElectionView}
use Rattle.pb_rows.specs.Reading.{Fields}
use Rattle.pb_read.specs.FirstFault.{IsFaultAt}
use Rattle.pb_read.specs.Kinds.{number_of}
use Rattle.pb_read.specs.Rows.{rows_of}
use Rattle.pb_read.specs.Stages.{IsAt}
use Rattle.pb_read.specs.StandsFor.{StandsFor}
use Rattle.pb_read.specs.declared.fault.ReadFault.{ReadFault}
use Rattle.pb_read.specs.declared.fault.ReadKind.{ReadKind}
use Rattle.pb_read.specs.declared.progress.Stage.{Stage}
use Rattle.pb_read.specs.declared.progress.Stage.TheVariants.{InProjects, InVotes}

-- a row has a fault of this kind by itself: NotText, MissingField, or from BadMoney to TooManyVoters
abbrev pub is_of_row : ReadKind → Bool
is_of_row kind = number_of kind == 2 || number_of kind == 8 || (nat_le 11 (number_of kind) && nat_le (number_of kind) 20)

-- a record that comes at this stage is left out for a fault of this kind: a row of PROJECTS or VOTES alone
abbrev pub leaves_out : Stage → ReadKind → Bool
leaves_out (InProjects columns) kind = is_of_row kind
leaves_out (InVotes columns) kind = is_of_row kind
leaves_out stage kind = false

-- whether a record that comes after these is left out for a fault of this kind, by what their rows come to
abbrev pub IsLeftOut : Bool → List Fields → ReadKind → Type 0
IsLeftOut is_left_out before kind =
    (p : Stage × ElectionView) × IsAt (rows_of before) p × (leaves_out p.0 kind ≡ is_left_out)

-- a check lists these faults of records, of which so many were taken out before: none where they stand for an
-- election; else their first fault, and then what it lists of them without the faulty one. It ends where that
-- record is not left out, and at the 1,000th fault, and nowhere else
abbrev pub AreListed : ℕ → List Fields → List ReadFault → Type 0
AreListed out records [] = (e : ElectionView) × StandsFor records e
AreListed out records (fault ∷ more) =
    (out < fault.at) × IsFaultAt records fault.kind (fault.at - out)
    × (((more ≡ []) × ((out ≡ 999) ⊎ IsLeftOut false (take (fault.at - out - 1) records) fault.kind))
    ⊎ ((out < 999) × IsLeftOut true (take (fault.at - out - 1) records) fault.kind
    × AreListed (out + 1) (remove records (fault.at - out - 1)) more))
