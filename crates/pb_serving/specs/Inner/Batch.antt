-- The rows of the input that are served together.
use Rattle.std.specs.Prelude.{◌≡◌, ℕ, true, List, Option, None, Result, Ok, Err, [], ◌∷◌, ◌++◌}
use Rattle.std.specs.List.{AllZip}
use Rattle.std.specs.Result.{result_map_both}
use Rattle.pb_core.specs.Request.{EntryView, asked}
use Rattle.pb_desk.specs.Replay.{most_clerks}
use Rattle.pb_rows.specs.Reading.{Fields, IsNext}
use Rattle.pb_script.specs.Admission.{Judges}
use Rattle.pb_script.specs.declared.admission.Admission.{Admission}
use Rattle.pb_script.specs.declared.admission.RowRefusal.{RowRefusal}
use Rattle.pb_script.specs.Inner.ScriptReading.{HaveGone, NoneLeft}
use Rattle.pb_script.specs.RowsView.{HasFailed, HasGiven, RowsView}
use Rattle.pb_durable.specs.declared.clerk_request.ClerkRequest.{ClerkRequest}
use Rattle.pb_serving.specs.declared.batch.BatchEnd.{BatchEnd}
use Rattle.pb_serving.specs.declared.batch.BatchEnd.TheVariants.{More, Refused, Over, ReadFailed, NoMemory}

-- how many refused rows are read behind the rows that ask
abbrev pub refused : BatchEnd → ℕ
refused (Refused why) = 1
refused end = 0

-- the row asks what this entry has, or is refused for this
abbrev pub Becomes : Admission → Fields → Result EntryView RowRefusal → Type 0
Becomes a row x = Judges a most_clerks row
    (result_map_both (λ (x : EntryView). record { clerk = x.clerk; request = x.request }) (λ why. why) x)

-- the row asks this
abbrev pub IsRowAsking : Admission → Fields → ClerkRequest → Type 0
IsRowAsking a row x = Judges a most_clerks row (Ok (record { clerk = x.clerk; request = asked x.request }))

-- the next row was read, and asks this; or a batch ends there, since the row is refused, or none is left, or
-- none was given
abbrev pub IsNextAsk : Admission → RowsView → RowsView → Result ClerkRequest BatchEnd → Type 0
IsNextAsk a before after (Ok ask) = (row : Fields) × IsNext before.left after.left true row
    × IsRowAsking a row ask × HasGiven before after 1 × (after.fault ≡ None)
IsNextAsk a before after (Err (Refused why)) = (row : Fields) × IsNext before.left after.left true row
    × Judges a most_clerks row (Err why) × HasGiven before after 1 × (after.fault ≡ None)
IsNextAsk a before after (Err Over) =
    NoneLeft before.left × (after.count ≡ before.count) × (after.fault ≡ None)
IsNextAsk a before after (Err ReadFailed) = (after.count ≡ before.count) × HasFailed after
IsNextAsk a before after (Err NoMemory) = (after.count ≡ before.count) × ¬ HasFailed after
IsNextAsk a before after (Err More) = ⊥

-- how the records go on behind these rows, of which it was known what was left before and is now
abbrev pub EndsBy : Admission → BatchEnd → Option (List Fields) → List Fields → Option (List Fields) → Type 0
EndsBy a More left rows after = HaveGone left rows after
EndsBy a (Refused why) left rows after =
    (row : Fields) × Judges a most_clerks row (Err why) × HaveGone left (rows ++ row ∷ []) after
EndsBy a Over left rows after = (mid : Option (List Fields)) × HaveGone left rows mid × NoneLeft mid
EndsBy a ReadFailed left rows after = (mid : Option (List Fields)) × HaveGone left rows mid
EndsBy a NoMemory left rows after = (mid : Option (List Fields)) × HaveGone left rows mid

-- the next records ask this, and so they go on
pub record IsBatch (a : Admission) (left after : Option (List Fields)) (asks : List ClerkRequest) (end : BatchEnd) : Type 0 where
  pub rows : List Fields
  pub each : AllZip (IsRowAsking a) rows asks
  pub goes_on : EndsBy a end left rows after
