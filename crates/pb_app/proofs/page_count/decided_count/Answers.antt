use Rattle.std.specs.Prelude.{Some}
use Rattle.pb_commands.proofs.Endings.{given}
use Rattle.pb_commands.specs.Closed.{Gives}
use Rattle.pb_commands.specs.Ends.{known}
use Rattle.pb_app.specs.Inner.Page.{IsCountFor, PageRefuses}
use Rattle.pb_app.proofs.PageEnds.{decided_pass}
use Rattle.pb_app.proofs.page_count.decided_count.Goals as goal

pub returns-in-Ok-clause-counted : goal.returns-in-Ok-clause-counted
returns-in-Ok-clause-counted g c = rw c.of_decided.ensures.count c.in-Ok.ensures.counted

pub returns-in-Ok-clause-given : goal.returns-in-Ok-clause-given
returns-in-Ok-clause-given g c =
    let (e, election, counts, applies, leaves) = c.in-Ok.ensures.given in
    rw c.of_decided.ensures.count (e, (c.in-Ok.decided.own, c.in-Ok.decided.other, counts, applies, c.of_decided.ensures.decided), leaves)

pub returns-in-Ok-clause-ends : goal.returns-in-Ok-clause-ends
returns-in-Ok-clause-ends g c =
    let rule = c.args.counting.now.rule.now in
    let decide = c.args.decide.now in
    let file = c.in-Ok.ensures.ends.judges in
    given (Gives (IsCountFor rule (Some decide))) (PageRefuses rule (Some decide)) (g.P.Read.remaining c.args.inputs.file)
    (known g.J.Read.remaining c.args.inputs.journal) _ _ file.1 file.0

pub returns-in-Err-clause-ends : goal.returns-in-Err-clause-ends
returns-in-Err-clause-ends g c =
    decided_pass c.args.counting.now.rule.now (g.P.Read.remaining c.args.inputs.file)
    (known g.J.Read.remaining c.args.inputs.journal) _ c.args.decide.now c.in-Err.fault c.in-Err.ensures.reads c.in-Err.ensures.ends
