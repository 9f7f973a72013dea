-- A whole script.
use Rattle.std.specs.Prelude.{ℕ, ◌≤◌, List, length, Ok}
use Rattle.std.specs.List.{AllZip}
use Rattle.pb_rows.specs.Reading.{Fields}
use Rattle.pb_script.specs.Admission.{Judges}
use Rattle.pb_read.specs.StandsFor.{most_records}
use Rattle.pb_desk.specs.Rows.{ScriptRowView}
use Rattle.pb_script.specs.declared.admission.Admission.{Admission}

-- the records are a script for this many clerks, whose rows are admitted and say this
pub record IsScript (a : Admission) (clerks : ℕ) (records : List Fields) (script : List ScriptRowView) : Type 0 where
  pub few : length records ≤ most_records
  pub rows : AllZip (λ row x. Judges a clerks row (Ok x)) records script
