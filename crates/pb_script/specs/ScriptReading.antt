-- Why the records of a script are not accepted.
use Rattle.std.specs.Prelude.{◌≡◌, ℕ, ⊤, ◌+◌, ◌≤◌, List, [], ◌∷◌, Err}
use Rattle.pb_rows.specs.Reading.{Fields}
use Rattle.pb_script.specs.Admission.{Judges}
use Rattle.pb_read.specs.StandsFor.{most_records}
use Rattle.pb_script.specs.declared.admission.Admission.{Admission}
use Rattle.pb_script.specs.declared.admission.RowRefusal.{RowRefusal}
use Rattle.pb_script.specs.declared.admission.RowRefusal.TheVariants as row
use Rattle.pb_script.specs.declared.script_fault.ScriptFault.{ScriptFault}
use Rattle.pb_script.specs.declared.script_fault.ScriptFault.TheVariants.{ReadFailed, BadRow, TooManyRows}
use Rattle.pb_script.specs.declared.script_fault.ScriptFault.TheVariants.{NoMemory, UnknownId, NotOnRoll}
use Rattle.pb_script.specs.declared.script_fault.ScriptFault.TheVariants.{TooFew, FromFile, NoShut}

-- the fault of a script whose row of this number is refused for this
abbrev pub fault_of_row : RowRefusal → ℕ → ScriptFault
fault_of_row row.Bad at = BadRow at
fault_of_row row.UnknownId at = UnknownId at
fault_of_row row.NotOnRoll at = NotOnRoll at
fault_of_row row.TooFew at = TooFew at
fault_of_row row.FromFile at = FromFile at
fault_of_row row.NoShut at = NoShut at

-- the fault of the next record, where this many came before it: within a record a reader that fails comes
-- first, then the limit, then why the row is refused
abbrev pub IsNextScriptFault : Admission → ℕ → ℕ → List Fields → ScriptFault → Type 0
IsNextScriptFault a clerks before left (ReadFailed row) = (row ≡ before + 1) × (before ≤ most_records)
IsNextScriptFault a clerks before left NoMemory = ⊤
IsNextScriptFault a clerks before [] fault = ⊥
IsNextScriptFault a clerks before (fields ∷ rest) TooManyRows = before ≡ most_records
IsNextScriptFault a clerks before (fields ∷ rest) fault = (why : RowRefusal)
    × (fault ≡ fault_of_row why (before + 1)) × (before + 1 ≤ most_records) × Judges a clerks fields (Err why)
