-- A voters' roll.
use Rattle.std.specs.Prelude.{◌≡◌, ℕ, ◌+◌, ◌≤◌, List, [], ◌∷◌, All, codes, drop, if◌then◌else◌}
use Rattle.std.specs.Prelude.{length, map, slice_index_or}
use Rattle.std.specs.Str.{bytes_eq, trim}
use Rattle.csv.specs.Records.{AllText}
use Rattle.pb_read.specs.Rows.{field}
use Rattle.pb_rows.specs.Reading.{Fields}
use Rattle.pb_read.specs.StandsFor.{most_records}
use Rattle.pb_script.specs.declared.roll.RollFault.{RollFault}
use Rattle.pb_script.specs.declared.roll.RollFault.TheVariants.{ReadFailed, NotText, TooManyIds, NoMemory}

-- the ids of a roll: the first fields of its records, without white space at their ends; a first one
-- `voter_id` is a header
abbrev pub ids_of : List Fields → List (List ℕ)
ids_of records = let ids = map (λ row. trim (field row 0)) records in
    if bytes_eq (slice_index_or ids 0 []) (codes "voter_id") then drop 1 ids else ids

-- the records are a roll: text, with as many ids at most as a script has rows
abbrev pub AreRoll : List Fields → Type 0
AreRoll records = All AllText records × (length (ids_of records) ≤ most_records)

-- the fault of the first of the records that are left, where these came before it
abbrev pub IsNextRollFault : List Fields → List Fields → RollFault → Type 0
IsNextRollFault before left (ReadFailed row) = row ≡ length before + 1
IsNextRollFault before (fields ∷ rest) (NotText row) = (row ≡ length before + 1) × ¬ AllText fields
IsNextRollFault before (fields ∷ rest) (TooManyIds row) =
    (row ≡ length before + 1) × (length (ids_of before) ≡ most_records) × AllText fields
IsNextRollFault before left fault = fault ≡ NoMemory
