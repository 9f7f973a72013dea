-- What a run of `check` writes.
use Rattle.std.specs.Prelude.{◌≡◌, ℕ, List, [], ◌∷◌, ◌++◌, codes, decimal, map}
use Rattle.pb_core.specs.Numbered.{numbered}
use Rattle.pb_read.specs.contracts.warning.Oddity.{the_type as oddities}
use Rattle.pb_read.specs.declared.warning.TheConstants as of_warning
use Rattle.pb_read.specs.declared.fault.ReadFault.{ReadFault}
use Rattle.pb_read.specs.declared.warning.WarningRow.{WarningRow}
use Rattle.pb_read.specs.declared.warning.WarningRow.TheVariants.{Of, MoreOf}
use Rattle.pb_rows.specs.Reading.{Fields}
use Rattle.pb_rows.specs.Writing.{text_of_rows}
use Rattle.pb_faults.specs.Fault.{told}
use Rattle.pb_faults.specs.declared.fault.AppFault.TheVariants.{Read, Warned}

-- the row of a warning
abbrev pub warning_row : WarningRow → Fields
warning_row (Of warning) = (told (Warned warning)).1
warning_row (MoreOf oddity more) =
    codes "warning" ∷ codes "MoreOf" ∷ (numbered oddities of_warning.NAMES oddity).1 ∷ decimal more ∷ []

-- a row for each fault, and then one for each warning of a list that is such
abbrev pub IsTextOfCheck : List ReadFault → (List WarningRow → Type 0) → List ℕ → Type 0
IsTextOfCheck faults AreWarnings text = (warnings : List WarningRow) × AreWarnings warnings × (text ≡ text_of_rows
    (map (λ fault. codes "fault" ∷ (told (Read fault)).1) faults ++ map warning_row warnings))
