use Rattle.pb_commands.proofs.Endings.{memory_end, run_ended, run_given, run_written}
use Rattle.pb_commands.proofs.RunEnds.{counts_pass, table_counts, writes_of}
use Rattle.pb_commands.specs.Closed.{CountRefuses, Gives}
use Rattle.pb_commands.specs.Ends.{known}
use Rattle.pb_commands.specs.Tables.{IsTableOf}
use Rattle.pb_faults.specs.declared.fault.AppFault.TheVariants.{Memory}
use Rattle.pb_commands.proofs.run_table.run_table.Goals as goal

pub returns-in-Err : goal.returns-in-Err
returns-in-Err g c =
    let rule = c.args.counting.now.rule.now in
    let journals = known g.J.Read.remaining c.args.inputs.journal in
    run_ended (Gives (IsTableOf c.args.table rule)) (CountRefuses rule) (g.P.Read.remaining c.args.inputs.file) journals _ g.W.Write.contents _ c.in-Err.fault
    (counts_pass (IsTableOf c.args.table rule) rule (g.P.Read.remaining c.args.inputs.file) journals _ (table_counts c.args.table rule) c.in-Err.fault
    c.in-Err.ensures.reads c.in-Err.ensures.ends)

pub returns-in_err-text : goal.returns-in_err-text
returns-in_err-text g c =
    let rule = c.args.counting.now.rule.now in
    let journals = known g.J.Read.remaining c.args.inputs.journal in
    let file = c.in-Ok.ensures.ends.judges in
    run_given (Gives (IsTableOf c.args.table rule)) (CountRefuses rule) (g.P.Read.remaining c.args.inputs.file) journals _ g.W.Write.contents _ _ Memory c.from_residual.ensures.1
    (memory_end (Gives (IsTableOf c.args.table rule)) (CountRefuses rule) (g.P.Read.remaining c.args.inputs.file) journals _ file.1 file.0)

pub returns : goal.returns
returns g c =
    let rule = c.args.counting.now.rule.now in
    let journals = known g.J.Read.remaining c.args.inputs.journal in
    let x = c.in-Ok.count in
    let file = c.in-Ok.ensures.ends.judges in
    let (e, election, counts, leaves) = c.in-Ok.ensures.given in
    let text = c.in_ok-text.text.items in
    run_written (Gives (IsTableOf c.args.table rule)) (CountRefuses rule) (g.P.Read.remaining c.args.inputs.file) journals _ g.W.Write.contents _ _ text _
    (rw c.as_slice.ensures.value at c.write_out.ensures.ok) c.write_out.ensures.fault (rw c.as_slice.ensures.value at c.write_out.ensures.front) file.1 file.0
    (writes_of (IsTableOf c.args.table rule) (g.P.Read.remaining c.args.inputs.file) journals e text leaves (x, c.in-Ok.ensures.counted, counts, c.in_ok-text.ensures))
