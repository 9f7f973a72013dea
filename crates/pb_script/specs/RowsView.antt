-- What contracts see of a reader of request rows.
use Rattle.std.specs.Prelude.{◌≡◌, ◌≢◌, ◌+◌, ◌<◌, ◌^◌, ℕ, IsSome, List, Option, Some}
use Rattle.pb_rows.specs.Reading.{Fields}
use Rattle.pb_rows.specs.declared.fault.RecordsFault.{RecordsFault}
use Rattle.pb_rows.specs.declared.fault.RecordsFault.TheVariants.{NoMemory}

-- the records that are still to come, where they are known; what stopped the reading; and how many rows were
-- given
pub record RowsView : Type 0 where
  pub left : Option (List Fields)
  pub fault : Option RecordsFault
  pub count : ℕ

-- the reader underneath has failed: what stopped the reading was not that memory was refused
abbrev pub HasFailed : RowsView → Type 0
HasFailed rows = IsSome rows.fault × (rows.fault ≢ Some NoMemory)

-- it gave so many rows more, as far as 64 bits count them
abbrev pub HasGiven : RowsView → RowsView → ℕ → Type 0
HasGiven before after rows = before.count + rows < 2 ^ 64 → after.count ≡ before.count + rows
