use Rattle.std.proofs.Common.{Some, None, option_copied}
use Rattle.pb_commands.proofs.Endings.{memory_end, run_given, run_written}
use Rattle.pb_commands.proofs.InputEnds.{input_reads, inputs_of_any, not_that}
use Rattle.pb_commands.proofs.RunEnds.{ballots_known, ballots_pass, written_of_any}
use Rattle.pb_commands.specs.Ballots.{ballots_table}
use Rattle.pb_commands.specs.Inner.Ballots.{BallotsWrites}
use Rattle.pb_commands.specs.Closed.{LeavesNone}
use Rattle.pb_commands.specs.Inner.Inputs.{of_input}
use Rattle.pb_faults.specs.declared.fault.AppFault.TheVariants.{Memory, OpenDesk}
use Rattle.pb_commands.proofs.run_ballots.run_ballots.Goals as goal

pub returns-in_err-desk-clause-runs : goal.returns-in_err-desk-clause-runs
returns-in_err-desk-clause-runs g c =
    let table = ballots_table (option_copied c.args.voter) in
    let files = g.P.Read.remaining c.args.file in
    let journals = g.J.Read.remaining c.args.journal in
    let fault = c.in_err-desk.field-0.0 in
    run_given (BallotsWrites table) (λ bytes rows. LeavesNone bytes (Some rows)) files journals (None, None, None) g.W.Write.contents _ _ (of_input fault) c.from_residual.ensures.1
    (ballots_pass files journals (None, None, None) table (of_input fault) (input_reads fault).0 c.in_err-desk.ensures.ends)

pub returns-in_err-text-clause-runs : goal.returns-in_err-text-clause-runs
returns-in_err-text-clause-runs g c =
    let table = ballots_table (option_copied c.args.voter) in
    let files = g.P.Read.remaining c.args.file in
    let journals = g.J.Read.remaining c.args.journal in
    let file = c.in_ok-desk.ensures.ends.judges in
    run_given (BallotsWrites table) (λ bytes rows. LeavesNone bytes (Some rows)) files journals (None, None, None) g.W.Write.contents _ _ Memory c.from_residual-in_err-text.ensures.1
    (memory_end (BallotsWrites table) (λ bytes rows. LeavesNone bytes (Some rows)) files journals (None, None, None) file.1 file.0)

pub returns-clause-runs : goal.returns-clause-runs
returns-clause-runs g c =
    let table = ballots_table (option_copied c.args.voter) in
    let files = g.P.Read.remaining c.args.file in
    let journals = g.J.Read.remaining c.args.journal in
    let file = c.in_ok-desk.ensures.ends.judges in
    let text = c.in_ok-text.text.items in
    run_written (BallotsWrites table) (λ bytes rows. LeavesNone bytes (Some rows)) files journals (None, None, None) g.W.Write.contents _ _ text _
    (rw c.as_slice.ensures.value at c.write_out.ensures.ok) c.write_out.ensures.fault (rw c.as_slice.ensures.value at c.write_out.ensures.front) file.1 file.0
    (ballots_known files journals (None, None, None) c.in_ok-desk.desk c.in_ok-desk.ensures.ok table text c.in_ok-text.ensures)

pub returns-in_err-desk-clause-any : goal.returns-in_err-desk-clause-any
returns-in_err-desk-clause-any g c = inputs_of_any _ c.in_err-desk.field-0.0 c.from_residual.ensures.1

pub returns-in_err-text-clause-any : goal.returns-in_err-text-clause-any
returns-in_err-text-clause-any g c = not_that _ Memory OpenDesk c.from_residual-in_err-text.ensures.1 (λ is. cc)

pub returns-clause-any : goal.returns-clause-any
returns-clause-any g c = written_of_any _ _ c.write_out.ensures.fault
