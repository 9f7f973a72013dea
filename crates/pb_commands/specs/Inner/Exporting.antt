-- What stops the making of a file, and the comment of one; private contracts speak of it.
use Rattle.std.specs.Prelude.{◌≡◌, ◌≢◌, ◌==◌, ◌++◌, ℕ, ⊤, List, [], Some, codes, if◌then◌else◌, length}
use Rattle.pb_core.specs.Election.{ElectionView}
use Rattle.pb_export.specs.Export.{export_refusal}
use Rattle.pb_export.specs.declared.export_fault.ExportFault.TheVariants.{NoMemory}
use Rattle.pb_faults.specs.declared.fault.AppFault.{AppFault}
use Rattle.pb_faults.specs.declared.fault.AppFault.TheVariants.{Export, Memory}

-- memory was refused, or no file would be read back as the election
abbrev pub IsStopped : ElectionView → AppFault → Type 0
IsStopped e Memory = ⊤
IsStopped e (Export fault) = fault ≢ NoMemory → export_refusal e ≡ Some fault
IsStopped e fault = ⊥

-- a comment that the file had, behind other words
abbrev pub own_comment : List ℕ → List ℕ
own_comment own = if length own == 0 then [] else codes ". " ++ own
