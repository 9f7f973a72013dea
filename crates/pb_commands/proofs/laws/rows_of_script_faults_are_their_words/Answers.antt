use Rattle.std.proofs.Common.{◌≡◌, ℕ, refl}
use Rattle.pb_script.specs.ScriptFault.{at_row}
use Rattle.pb_script.specs.ScriptReading.{fault_of_row}
use Rattle.pb_script.specs.declared.admission.RowRefusal.{RowRefusal}
use Rattle.pb_script.specs.declared.admission.RowRefusal.TheVariants as refusal
use Rattle.pb_commands.proofs.laws.rows_of_script_faults_are_their_words.Goals as goal

row_refused : (why : RowRefusal) (row : ℕ) → at_row (fault_of_row why row) ≡ row
row_refused refusal.Bad row = refl
row_refused refusal.UnknownId row = refl
row_refused refusal.NotOnRoll row = refl
row_refused refusal.TooFew row = refl
row_refused refusal.FromFile row = refl
row_refused refusal.NoShut row = refl

pub returns : goal.returns
returns c = record { refused = row_refused; failed = λ row. refl; too_many = refl; memory = refl }
