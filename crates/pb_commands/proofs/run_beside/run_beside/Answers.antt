use Rattle.pb_commands.proofs.BesideEnds.{beside_other, beside_own, refused_ends, unread_ends}
use Rattle.pb_commands.proofs.Endings.{run_ended, run_written}
use Rattle.pb_commands.proofs.RunEnds.{writes_of}
use Rattle.pb_commands.specs.Beside.{BesideRefuses, IsBeside}
use Rattle.pb_commands.specs.Closed.{Gives}
use Rattle.pb_commands.specs.Ends.{known}
use Rattle.pb_commands.proofs.run_beside.run_beside.Goals as goal

pub returns-in-Err : goal.returns-in-Err
returns-in-Err g c =
    let rule = c.args.counting.now.rule.now in
    let b = c.args.beside.now in
    let files = g.P.Read.remaining c.args.inputs.file in
    let journals = known g.J.Read.remaining c.args.inputs.journal in
    run_ended (Gives (IsBeside b.by_project rule b.rule)) (BesideRefuses rule b.rule) files journals _ g.W.Write.contents _ c.in-Err.fault
    (unread_ends (IsBeside b.by_project rule b.rule) rule b.rule files journals _ c.in-Err.fault c.in-Err.ensures.reads c.in-Err.ensures.ends)

pub returns-in-Ok-text_beside : goal.returns-in-Ok-text_beside
returns-in-Ok-text_beside g c =
    let rule = c.args.counting.now.rule.now in
    let b = c.args.beside.now in
    let files = g.P.Read.remaining c.args.inputs.file in
    let journals = known g.J.Read.remaining c.args.inputs.journal in
    let file = c.in-Ok.ensures.ends.judges in
    let text = c.in-Ok-text_beside.text.items in
    run_written (Gives (IsBeside b.by_project rule b.rule)) (BesideRefuses rule b.rule) files journals _ g.W.Write.contents _ _ text _
    (rw c.as_slice.ensures.value at c.write_out.ensures.ok) c.write_out.ensures.fault (rw c.as_slice.ensures.value at c.write_out.ensures.front) file.1 file.0
    (writes_of (IsBeside b.by_project rule b.rule) files journals c.in-Ok.election text c.in-Ok.ensures.ok c.in-Ok-text_beside.ensures.ok)

pub returns-in-Err-text_beside : goal.returns-in-Err-text_beside
returns-in-Err-text_beside g c =
    let rule = c.args.counting.now.rule.now in
    let b = c.args.beside.now in
    let files = g.P.Read.remaining c.args.inputs.file in
    let journals = known g.J.Read.remaining c.args.inputs.journal in
    let file = c.in-Ok.ensures.ends.judges in
    run_ended (Gives (IsBeside b.by_project rule b.rule)) (BesideRefuses rule b.rule) files journals _ g.W.Write.contents _ c.not_counted.result
    (refused_ends (IsBeside b.by_project rule b.rule) rule b.rule files journals _
    (beside_own b.by_project rule b.rule) (beside_other b.by_project rule b.rule) c.in-Ok.election c.not_counted.result c.in-Err-text_beside.fault c.not_counted.ensures
    c.in-Ok.ensures.ok file.1 file.0 c.in-Err-text_beside.ensures.fault)
