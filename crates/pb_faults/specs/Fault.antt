-- What the program says of a fault: one line, and the status that it then ends with.
use denote.Enum.Declared.{tag_of}
use Rattle.std.specs.Prelude.{ℕ, List, [], ◌∷◌, ◌++◌, ◌==◌, codes, decimal, flat_map, if◌then◌else◌}
use Rattle.std.specs.Prelude.{nat_lt, slice_index, unwrap_or}
use Rattle.pb_core.specs.Numbered.{numbered}
use Rattle.pb_desk.specs.AuditFault.{at_row as audited_row}
use Rattle.pb_desk.specs.contracts.audit_fault.AuditFault.{the_type as audit_faults}
use Rattle.pb_desk.specs.declared.audit_fault.TheConstants as of_audit
use Rattle.pb_desk.specs.declared.audit_fault.AuditFault.TheVariants as audit
use Rattle.pb_export.specs.contracts.export_fault.ExportFault.{the_type as export_faults}
use Rattle.pb_export.specs.declared.export_fault.TheConstants as of_export
use Rattle.pb_export.specs.declared.export_fault.ExportFault.TheVariants as export
use Rattle.pb_read.specs.contracts.fault.ReadKind.{the_type as read_kinds}
use Rattle.pb_read.specs.contracts.warning.Oddity.{the_type as oddities}
use Rattle.pb_read.specs.declared.fault.TheConstants as of_read
use Rattle.pb_read.specs.declared.warning.TheConstants as of_warning
use Rattle.pb_read.specs.Kinds.{number_of as read_number}
use Rattle.pb_read.specs.declared.fault.ReadKind.TheVariants as read
use Rattle.pb_rounds.specs.contracts.count_fault.CountFault.{the_type as count_faults}
use Rattle.pb_rounds.specs.declared.count_fault.TheConstants as of_count
use Rattle.pb_rounds.specs.declared.count_fault.CountFault.TheVariants as count
use Rattle.pb_script.specs.declared.roll.RollFault.TheVariants as roll
use Rattle.pb_script.specs.ScriptFault.{at_row as script_row}
use Rattle.pb_script.specs.contracts.script_fault.ScriptFault.{the_type as script_faults}
use Rattle.pb_script.specs.declared.script_fault.TheConstants as of_script
use Rattle.pb_script.specs.declared.script_fault.ScriptFault.TheVariants as script
use Rattle.pb_faults.specs.declared.fault.AppFault.{AppFault}
use Rattle.pb_faults.specs.declared.fault.AppFault.TheVariants.{Read, Script, ClerkCount, Audit, OtherFile}
use Rattle.pb_faults.specs.declared.fault.AppFault.TheVariants.{OpenDesk, Count, TooManyRuns, Export, Open, Write, Memory}
use Rattle.pb_faults.specs.declared.fault.AppFault.TheVariants.{Warned, Roll, Serving}
use Rattle.pb_faults.specs.declared.run_text.RunText.{RunText}
use Rattle.pb_faults.specs.contracts.run_text.RunText.{the_type as run_texts}
use Rattle.pb_faults.specs.declared.serving_fault.ServingFault.TheVariants.{Spelling, Moved, Locked, Output}
use Rattle.pb_faults.specs.declared.words_refusal.WordsPlace.{WordsPlace}
use Rattle.pb_faults.specs.declared.words_refusal.WordsPlace.TheVariants.{Line, Key, Nowhere}

-- the same fault, in which out of memory is one case, whichever crate met it
abbrev pub merged : AppFault → AppFault
merged (Read fault) = if read_number fault.kind == read_number read.NoMemory then Memory else Read fault
merged (Script script.NoMemory) = Memory
merged (Audit audit.NoMemory) = Memory
merged (Count count.NoMemory) = Memory
merged (Export export.NoMemory) = Memory
merged (Roll roll.NoMemory) = Memory
merged fault = fault

-- what is told of a file, a script or a journal that has the fault with this number and name in this record
-- or row; fault 1 is a reader that failed
abbrev pub told_at : List ℕ → ℕ × List ℕ → ℕ → ℕ × List (List ℕ)
told_at what fault at = (if fault.0 == 1 then 3 else 1, what ∷ decimal fault.0 ∷ fault.1 ∷ decimal at ∷ [])

-- the number of a text in fault lines, which is that of its place on the command line: one for each, in the
-- order of `RunText`
abbrev pub number_of : RunText → ℕ
number_of text = slice_index (1 ∷ 2 ∷ 2 ∷ 3 ∷ 3 ∷ 4 ∷ 3 ∷ []) (tag_of run_texts text)

-- What is told of a merged fault: the status that the program ends with, and the fields of its line. The
-- status is 3 where a device failed, memory was refused, or the journal is not this run's; 2 where the
-- arguments are refused, the options of a count among them; 1 where what was read is, or its count. Options
-- in range can still be too few raises for a file, or its amounts too large for fine money. What is left for the
-- last line is that memory was refused.
abbrev pub told : AppFault → ℕ × List (List ℕ)
told (Read fault) = told_at (codes "read") (numbered read_kinds of_read.NAMES fault.kind) fault.at
told (Script fault) = told_at (codes "script") (numbered script_faults of_script.NAMES fault) (script_row fault)
told ClerkCount = (2, codes "clerks" ∷ codes "1" ∷ codes "ClerkCount" ∷ [])
told (Audit fault) =
    told_at (codes "audit") (numbered audit_faults of_audit.NAMES fault) (unwrap_or (audited_row fault) 0)
told OtherFile = (1, codes "other-file" ∷ [])
told OpenDesk = (1, codes "open-desk" ∷ [])
told (Count fault) = let n = numbered count_faults of_count.NAMES fault in
    (if nat_lt 3 n.0 then 1 else 2, codes "count" ∷ decimal n.0 ∷ n.1 ∷ [])
told TooManyRuns = (1, codes "ties" ∷ codes "1" ∷ codes "TooManyRuns" ∷ [])
told (Export fault) = let n = numbered export_faults of_export.NAMES fault in
    (1, codes "export" ∷ decimal n.0 ∷ n.1 ∷ [])
told (Open text) = (3, codes "open" ∷ decimal (number_of text) ∷ [])
told Write = (3, codes "write" ∷ [])
told (Warned warning) =
    (1, codes "warning" ∷ (numbered oddities of_warning.NAMES warning.oddity).1 ∷ decimal warning.at ∷ [])
told (Roll (roll.ReadFailed row)) = (3, codes "roll" ∷ codes "ReadFailed" ∷ decimal row ∷ [])
told (Roll (roll.NotText row)) = (1, codes "roll" ∷ codes "NotText" ∷ decimal row ∷ [])
told (Roll (roll.TooManyIds row)) = (1, codes "roll" ∷ codes "TooManyIds" ∷ decimal row ∷ [])
told (Serving Spelling) = (1, codes "spelling" ∷ [])
told (Serving Moved) = (3, codes "moved" ∷ codes "2" ∷ [])
told (Serving (Locked text)) = (3, codes "locked" ∷ decimal (number_of text) ∷ [])
told (Serving Output) = (3, codes "write" ∷ [])
told fault = (3, codes "memory" ∷ [])

-- what is told of a refused file with the words of a page, for a fault of this name: it has a line, or it is of
-- a key that the file lacks or has in vain, or the file could not be read
abbrev pub told_words : (name : List ℕ) → WordsPlace → ℕ × List (List ℕ)
told_words name (Line number) = (1, codes "words" ∷ name ∷ decimal number ∷ [])
told_words name (Key key) = (1, codes "words" ∷ name ∷ key.now ∷ [])
told_words name Nowhere = (3, codes "words" ∷ name ∷ [])

-- the line of these fields: a `;` stands before each
abbrev pub line : List (List ℕ) → List ℕ
line fields = codes "fault" ++ (flat_map (λ field. codes ";" ++ field) fields ++ codes "\n")
