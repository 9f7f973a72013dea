use Rattle.pb_commands.proofs.Endings.{run_ended, run_written}
use Rattle.pb_commands.proofs.RunEnds.{writes_of}
use Rattle.pb_commands.proofs.TiesEnds.{ties_pass, untold_ends}
use Rattle.pb_commands.specs.AllTies.{IsTiesOf, TiesRefuse}
use Rattle.pb_commands.specs.Closed.{Gives}
use Rattle.pb_commands.specs.Ends.{known}
use Rattle.pb_commands.proofs.run_ties.run_ties.Goals as goal

pub returns-in-Err : goal.returns-in-Err
returns-in-Err g c =
    let rule = c.args.counting.now.rule.now in
    let files = g.P.Read.remaining c.args.inputs.file in
    let journals = known g.J.Read.remaining c.args.inputs.journal in
    run_ended (Gives (IsTiesOf rule)) (TiesRefuse rule) files journals _ g.W.Write.contents _ c.in-Err.fault
    (ties_pass rule files journals _ c.in-Err.fault c.in-Err.ensures.reads c.in-Err.ensures.ends)

pub returns-in-Ok-ties_text : goal.returns-in-Ok-ties_text
returns-in-Ok-ties_text g c =
    let rule = c.args.counting.now.rule.now in
    let files = g.P.Read.remaining c.args.inputs.file in
    let journals = known g.J.Read.remaining c.args.inputs.journal in
    let (e, election, counts, leaves) = c.in-Ok.ensures.given in
    let file = c.in-Ok.ensures.ends.judges in
    let text = c.in-Ok-ties_text.text.items in
    run_written (Gives (IsTiesOf rule)) (TiesRefuse rule) files journals _ g.W.Write.contents _ _ text _
    (rw c.as_slice.ensures.value at c.write_out.ensures.ok) c.write_out.ensures.fault (rw c.as_slice.ensures.value at c.write_out.ensures.front) file.1 file.0
    (writes_of (IsTiesOf rule) files journals e text leaves (c.in-Ok-ties_text.ensures.ok rule e counts))

pub returns-in-Err-ties_text : goal.returns-in-Err-ties_text
returns-in-Err-ties_text g c =
    let rule = c.args.counting.now.rule.now in
    let files = g.P.Read.remaining c.args.inputs.file in
    let journals = known g.J.Read.remaining c.args.inputs.journal in
    let (e, election, counts, leaves) = c.in-Ok.ensures.given in
    let file = c.in-Ok.ensures.ends.judges in
    let fault = c.in-Err-ties_text.fault in
    run_ended (Gives (IsTiesOf rule)) (TiesRefuse rule) files journals _ g.W.Write.contents _ fault
    (untold_ends rule files journals _ e c.in-Ok.count counts fault c.in-Err-ties_text.ensures.fault leaves file.1 file.0)
