-- What is shown to who looks on while a file is read.
use Rattle.std.specs.Prelude.{◌≡◌, ◌+◌, ℕ, ⊤, false, List, [], ◌∷◌, ◌++◌, length, map, Option, Some, IfSome}
use Rattle.std.specs.List.{slice_index_or}
use Rattle.std.specs.Str.{trim}
use Rattle.pb_core.specs.Election.{ElectionView}
use Rattle.pb_rows.specs.Reading.{Fields}
use Rattle.pb_read.specs.Listed.{IsLeftOut}
use Rattle.pb_read.specs.Refusals.{refusal_of}
use Rattle.pb_read.specs.Rows.{rows_of}
use Rattle.pb_read.specs.Stages.{IsAt}
use Rattle.pb_read.specs.StandsFor.{StandsFor}
use Rattle.pb_read.specs.declared.fault.ReadFault.{ReadFault}
use Rattle.pb_read.specs.declared.progress.Stage.{Stage}
use Rattle.pb_read.specs.declared.refusal.Refusal.{Refusal}

-- a record by its number, from 1, with its fields without the white space at their ends, and the election so
-- far; a refusal; or that the file has ended, and may end there, with its election
pub data Sight : Type 0 where
  seen : ℕ → Fields → ElectionView → Sight
  refused : Refusal → Sight
  ended : ElectionView → Sight

-- the faults that were shown, in the order of their records
abbrev pub faults_of : List Sight → List ReadFault
faults_of [] = []
faults_of (refused r ∷ before) = faults_of before ++ r.fault ∷ []
faults_of (sight ∷ before) = faults_of before

module _ (records : List Fields) where
  -- the records that were seen, without those that were refused
  abbrev pub kept : List Sight → List Fields
  kept [] = []
  kept (seen at row e ∷ before) = kept before ++ slice_index_or records (length before) [] ∷ []
  kept (sight ∷ before) = kept before

  -- a sight shows the next of these records, or their end, as it must: the election of a row of PROJECTS has the
  -- terms and the projects of the rows up to here, that of a row of VOTES also their voters, and a refusal tells
  -- what its fault is about
  abbrev pub IsNextSight : List Sight → Sight → Type 0
  IsNextSight before (seen at row e) =
      (at ≡ length before + 1) × (row ≡ map trim (slice_index_or records (length before) []))
      × ((stage : Stage) × IsAt (rows_of (kept (seen at row e ∷ before))) (stage, e))
  IsNextSight before (refused r) =
      (r.fault.at ≡ length before + 1) × ((p : Stage × ElectionView) × IsAt (rows_of (kept before)) p
      × (r ≡ refusal_of p (map trim (slice_index_or records (length before) [])) r.fault))
  IsNextSight before (ended e) = (length before ≡ length records) × StandsFor (kept before) e

  abbrev pub AreShown : List Sight → Type 0
  AreShown [] = ⊤
  AreShown (sight ∷ before) = IsNextSight before sight × AreShown before

  -- nothing is left to show: the file has ended, or was refused for good
  abbrev pub IsAll : List Sight → Type 0
  IsAll (ended e ∷ before) = ⊤
  IsAll (refused r ∷ before) = IsLeftOut false (kept before) r.fault.kind
  IsAll sights = ⊥

-- where it is known what was shown before, these records were shown after it, with these faults
abbrev pub WereShown : List Fields → List ReadFault → (List Sight → Type 0) → Option (List Sight) → Option (List Sight) → Type 0
WereShown records faults Until before after = IfSome before (λ old.
    (new : List Sight) × (after ≡ Some (new ++ old)) × AreShown records new × (faults_of new ≡ faults) × Until new)
