use Rattle.std.proofs.lemmas.Result.{on_ok_weaker}
use Rattle.pb_commands.proofs.Endings.{memory_end, run_ended, run_written}
use Rattle.pb_commands.proofs.RunEnds.{writes_of}
use Rattle.pb_commands.specs.Closed.{Gives}
use Rattle.pb_commands.specs.Ends.{known}
use Rattle.pb_app.specs.Inner.Page.{IsPageBy, PageRefuses}
use Rattle.pb_app.proofs.PageEnds.{page_pass}
use Rattle.pb_app.proofs.run_page.run_page.Goals as goal

pub returns-in-Err-clause-runs : goal.returns-in-Err-clause-runs
returns-in-Err-clause-runs g c =
    let rule = c.args.counting.now.rule.now in
    let decide = c.args.maker.now.decide in
    let files = g.P.Read.remaining c.args.inputs.file in
    let journals = known g.J.Read.remaining c.args.inputs.journal in
    run_ended (Gives (IsPageBy c.args.maker.now.run.now rule decide)) (PageRefuses rule decide) files journals _ g.W.Write.contents _ c.in-Err.fault
    (page_pass c.args.maker.now.run.now rule decide files journals _ c.in-Err.fault c.in-Err.ensures.reads c.in-Err.ensures.ends)

pub returns-in-Ok-made-clause-runs : goal.returns-in-Ok-made-clause-runs
returns-in-Ok-made-clause-runs g c =
    let rule = c.args.counting.now.rule.now in
    let decide = c.args.maker.now.decide in
    let files = g.P.Read.remaining c.args.inputs.file in
    let journals = known g.J.Read.remaining c.args.inputs.journal in
    let (e, counts, leaves) = c.in-Ok.ensures.given in
    let file = c.in-Ok.ensures.ends.judges in
    let text = c.in-Ok-made.text.items in
    run_written (Gives (IsPageBy c.args.maker.now.run.now rule decide)) (PageRefuses rule decide) files journals _ g.W.Write.contents _ _ text _
    (rw c.as_slice.ensures.value at c.write_out.ensures.ok) c.write_out.ensures.fault (rw c.as_slice.ensures.value at c.write_out.ensures.front) file.1 file.0
    (writes_of (IsPageBy c.args.maker.now.run.now rule decide) files journals e text leaves ((c.in-Ok.counted.count, c.in-Ok.counted.decided), counts, c.in-Ok-made.ensures))

pub returns-in-Err-made-clause-runs : goal.returns-in-Err-made-clause-runs
returns-in-Err-made-clause-runs g c =
    let rule = c.args.counting.now.rule.now in
    let decide = c.args.maker.now.decide in
    let files = g.P.Read.remaining c.args.inputs.file in
    let journals = known g.J.Read.remaining c.args.inputs.journal in
    let file = c.in-Ok.ensures.ends.judges in
    run_ended (Gives (IsPageBy c.args.maker.now.run.now rule decide)) (PageRefuses rule decide) files journals _ g.W.Write.contents _ _
    (memory_end (Gives (IsPageBy c.args.maker.now.run.now rule decide)) (PageRefuses rule decide) files journals _ file.1 file.0)

pub returns-in-Ok-made-clause-written : goal.returns-in-Ok-made-clause-written
returns-in-Ok-made-clause-written g c =
    let (e, counts, leaves) = c.in-Ok.ensures.given in
    let text = c.in-Ok-made.text.items in
    let page : IsPageBy c.args.maker.now.run.now c.args.counting.now.rule.now c.args.maker.now.decide e text =
    ((c.in-Ok.counted.count, c.in-Ok.counted.decided), counts, c.in-Ok-made.ensures) in
    on_ok_weaker c.write_out.result (λ appends. (e, (text, page, appends))) (rw c.as_slice.ensures.value at c.write_out.ensures.ok)
