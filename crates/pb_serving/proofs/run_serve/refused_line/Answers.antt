use Rattle.std.proofs.Common.{◌≡◌, ◌∙◌, ◌++◌, List, ℕ, ap}
use Rattle.pb_script.specs.ScriptReading.{fault_of_row}
use Rattle.pb_faults.specs.Fault.{line, told}
use Rattle.pb_faults.specs.declared.fault.AppFault.TheVariants.{Script}
use Rattle.pb_serving.proofs.run_serve.refused_line.Goals as goal

pub returns-in-Ok : goal.returns-in-Ok
returns-in-Ok c =
    let said = line (told (Script (fault_of_row c.args.why c.args.row))).1 in
    let grown : c.write_refused_row.new.writer.items ≡ c.new-text.result.items ++ said = c.in-Ok.ensures in
    grown ∙ ap (λ (t : List ℕ). t ++ said) c.new-text.ensures.items
