-- What a run of `serve` says.
use Rattle.std.specs.Prelude.{◌≡◌, ◌⊎◌, ◌≤◌, ℕ, suc, ◌+◌, ◌-◌, ◌^◌, ◌++◌, ◌==◌, min, List, [], ◌∷◌}
use Rattle.std.specs.Prelude.{IfSome, Result, Ok, Err, codes, decimal, filter_map, length, if◌then◌else◌}
use Rattle.std.specs.List.{AllZip}
use Rattle.std.specs.Result.{result_map_both, result_ok}
use Rattle.pb_core.specs.Request.{EntryView}
use Rattle.pb_desk.specs.Desk.{DeskView}
use Rattle.pb_desk.specs.Replay.{most_clerks}
use Rattle.pb_desk.specs.Rows.{journal_text, row_of}
use Rattle.pb_desk.specs.declared.version.Version.{Version}
use Rattle.pb_durable.specs.JournalFile.{StandsForText}
use Rattle.pb_rows.specs.Reading.{Fields}
use Rattle.pb_rows.specs.Writing.{text_of_row}
use Rattle.pb_script.specs.Admission.{Judges}
use Rattle.pb_script.specs.RowsView.{HasFailed, HasGiven, RowsView}
use Rattle.pb_script.specs.ScriptReading.{fault_of_row}
use Rattle.pb_script.specs.declared.admission.Admission.{Admission}
use Rattle.pb_script.specs.declared.admission.RowRefusal.{RowRefusal}
use Rattle.pb_script.specs.declared.script_fault.ScriptFault.TheVariants.{ReadFailed, TooManyRows}
use Rattle.pb_faults.specs.DeskRow.{entries_row}
use Rattle.pb_faults.specs.Fault.{line, told}
use Rattle.pb_faults.specs.declared.fault.AppFault.{AppFault}
use Rattle.pb_faults.specs.declared.fault.AppFault.TheVariants.{Script, Memory, Write, Serving}
use Rattle.pb_faults.specs.declared.serving_fault.ServingFault.TheVariants.{Output}

-- what is said first: how many bytes were cut off the journal, where there were any, and the row of its desk
abbrev pub heading : ℕ → DeskView → List ℕ
heading torn d =
    (if torn == 0 then [] else text_of_row (codes "torn" ∷ decimal torn ∷ [])) ++ text_of_row (entries_row d)

-- what is said to the rows that became these, where the next entry and the next row have these numbers
abbrev pub answers_from : ℕ → ℕ → List (Result EntryView RowRefusal) → List ℕ
answers_from entry row [] = []
answers_from entry row (Err why ∷ more) =
    line (told (Script (fault_of_row why row))).1 ++ answers_from entry (suc row) more
answers_from entry row (Ok x ∷ more) = text_of_row (row_of entry x) ++ answers_from (suc entry) (suc row) more

-- these rows of the input became this, were answered by this text, and their entries came to the journal: each
-- row is admitted, and asks what its entry has; or it is refused for this
abbrev pub Answers : Admission → List Fields → List (Result EntryView RowRefusal) → List EntryView → List EntryView → List ℕ → Type 0
Answers a rows became before after text = AllZip (λ row x. Judges a most_clerks row
    (result_map_both (λ (x : EntryView). record { clerk = x.clerk; request = x.request }) (λ why. why) x)) rows became
    × (after ≡ before ++ filter_map result_ok became) × (text ≡ answers_from (length before + 1) 1 became)

-- the file stands for a journal that begins with the first of these journals, and is a first part of the
-- second
abbrev pub StandsWithin : Version → List EntryView → List EntryView → List ℕ → Type 0
StandsWithin version first last file = (more rest : List EntryView)
    × StandsForText (journal_text version (first ++ more)) file × (last ≡ (first ++ more) ++ rest)

-- what a run may end by that has answered so many rows, and behind them has read, but not answered, so many
-- that are served, and so many that are not: a reader that failed is told with the number of the next row
abbrev pub IsBehind : AppFault → (answered served unserved : ℕ) → Type 0
IsBehind (Script (ReadFailed i)) answered served unserved =
    (i ≡ min (answered + 1) (2 ^ 32 - 1)) × (served + unserved ≡ 0)
IsBehind (Script TooManyRows) answered served unserved = (2 ^ 50 ≤ answered) × (served + unserved ≡ 0)
IsBehind (Serving Output) answered served unserved = (served ≤ 4097) × (unserved ≡ 0)
IsBehind fault answered served unserved = (served + unserved ≤ 4097) × ((fault ≡ Memory) ⊎ (fault ≡ Write))

-- Where a run has ended early: some first rows were answered by this text, with which the journal had come so
-- far. Those that are served behind them, whose answers are unsaid, are what the journal has besides; those that
-- are not served left nothing in it. All these were read, and no others. That the input failed is told, unless
-- a row that was read before has no answer.
abbrev pub Halts : Admission → AppFault → RowsView → RowsView → (old kept now : List EntryView) → (text unsaid : List ℕ) → Type 0
Halts a fault before after old kept now text unsaid = (answered served unserved rest : List Fields)
    × (became more : List (Result EntryView RowRefusal))
    × IfSome before.left (λ rows. rows ≡ answered ++ served ++ unserved ++ rest)
    × HasGiven before after (length (answered ++ served ++ unserved))
    × Answers a answered became old kept text × Answers a (answered ++ served) (became ++ more) old now (text ++ unsaid)
    × IsBehind fault (length answered) (length served) (length unserved)
    × (¬ HasFailed before → HasFailed after → served ++ unserved ≡ []
    → (i : ℕ) × (fault ≡ Script (ReadFailed i)))
