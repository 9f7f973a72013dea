use Rattle.std.proofs.Common.{refl}
use Rattle.pb_commands.proofs.DecidedEnds.{decided_pass}
use Rattle.pb_commands.proofs.Endings.{memory_end, run_ended, run_given, run_written}
use Rattle.pb_commands.proofs.RunEnds.{writes_of}
use Rattle.pb_commands.specs.Beside.{BesideRefuses}
use Rattle.pb_commands.specs.Closed.{Gives}
use Rattle.pb_commands.specs.Decided.{IsDecided}
use Rattle.pb_commands.specs.Ends.{known}
use Rattle.pb_faults.specs.declared.fault.AppFault.TheVariants.{Memory}
use Rattle.pb_commands.proofs.run_decided.run_decided.Goals as goal

pub returns-in-Err : goal.returns-in-Err
returns-in-Err g c =
    let rule = c.args.counting.now.rule.now in
    let a = c.args.asked.now in
    let files = g.P.Read.remaining c.args.inputs.file in
    let journals = known g.J.Read.remaining c.args.inputs.journal in
    run_ended (Gives (IsDecided a.table a.decide rule)) (BesideRefuses rule a.decide.other) files journals _ g.W.Write.contents _ c.in-Err.fault
    (decided_pass a.table a.decide rule files journals _ c.in-Err.fault c.in-Err.ensures.reads c.in-Err.ensures.ends)

pub returns-in_err-text : goal.returns-in_err-text
returns-in_err-text g c =
    let rule = c.args.counting.now.rule.now in
    let a = c.args.asked.now in
    let files = g.P.Read.remaining c.args.inputs.file in
    let journals = known g.J.Read.remaining c.args.inputs.journal in
    let file = c.in-Ok.ensures.ends.judges in
    run_given (Gives (IsDecided a.table a.decide rule)) (BesideRefuses rule a.decide.other) files journals _ g.W.Write.contents _ _ Memory c.from_residual.ensures.1
    (memory_end (Gives (IsDecided a.table a.decide rule)) (BesideRefuses rule a.decide.other) files journals _ file.1 file.0)

pub returns : goal.returns
returns g c =
    let rule = c.args.counting.now.rule.now in
    let a = c.args.asked.now in
    let files = g.P.Read.remaining c.args.inputs.file in
    let journals = known g.J.Read.remaining c.args.inputs.journal in
    let it = c.in-Ok.decided in
    let x = it.count in
    let file = c.in-Ok.ensures.ends.judges in
    let (e, election, counts, applies, leaves) = c.in-Ok.ensures.given in
    let text = c.in_ok-text.text.items in
    run_written (Gives (IsDecided a.table a.decide rule)) (BesideRefuses rule a.decide.other) files journals _ g.W.Write.contents _ _ text _
    (rw c.as_slice.ensures.value at c.write_out.ensures.ok) c.write_out.ensures.fault (rw c.as_slice.ensures.value at c.write_out.ensures.front) file.1 file.0
    (writes_of (IsDecided a.table a.decide rule) files journals e text leaves
    ((x.rule, it.own, it.other), _, applies, (x, c.in-Ok.ensures.counted, counts, refl), c.in_ok-text.ensures))
