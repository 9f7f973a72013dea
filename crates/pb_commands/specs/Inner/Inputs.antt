-- What refuses the inputs of a run, as the run answers it.
use Rattle.std.specs.Prelude.{Result, Ok, Err}
use Rattle.pb_faults.specs.Fault.{merged}
use Rattle.pb_faults.specs.declared.fault.AppFault.{AppFault}
use Rattle.pb_faults.specs.declared.fault.AppFault.TheVariants as app
use Rattle.pb_commands.specs.declared.input_fault.InputFault.{InputFault}
use Rattle.pb_commands.specs.declared.input_fault.InputFault.TheVariants.{File, Warned, Journal, Memory}

abbrev pub of_input : InputFault → AppFault
of_input (File fault) = merged (app.Read fault)
of_input (Warned warning) = app.Warned warning
of_input (Journal fault) = merged (app.Audit fault)
of_input Memory = app.Memory

abbrev pub as_run : {T : Type 0} → Result T InputFault → Result T AppFault
as_run (Ok value) = Ok value
as_run (Err fault) = Err (of_input fault)
