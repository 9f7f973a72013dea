use Rattle.std.proofs.Common.{refl}
use Rattle.std.specs.Prelude.{None}
use Rattle.pb_commands.proofs.Endings.{given}
use Rattle.pb_commands.specs.Closed.{Gives}
use Rattle.pb_commands.specs.Ends.{known}
use Rattle.pb_app.specs.Inner.Page.{IsCountFor, PageRefuses}
use Rattle.pb_app.proofs.PageEnds.{plain_pass}
use Rattle.pb_app.proofs.page_count.plain_count.Goals as goal

pub returns-in-Ok-clause-given : goal.returns-in-Ok-clause-given
returns-in-Ok-clause-given g c =
    let (e, election, counts, leaves) = c.in-Ok.ensures.given in
    (e, (counts, refl), leaves)

pub returns-in-Ok-clause-ends : goal.returns-in-Ok-clause-ends
returns-in-Ok-clause-ends g c =
    let rule = c.args.counting.now.rule.now in
    let file = c.in-Ok.ensures.ends.judges in
    given (Gives (IsCountFor rule None)) (PageRefuses rule None) (g.P.Read.remaining c.args.inputs.file)
    (known g.J.Read.remaining c.args.inputs.journal) _ _ file.1 file.0

pub returns-in-Err-clause-ends : goal.returns-in-Err-clause-ends
returns-in-Err-clause-ends g c =
    plain_pass c.args.counting.now.rule.now (g.P.Read.remaining c.args.inputs.file)
    (known g.J.Read.remaining c.args.inputs.journal) _ c.in-Err.fault c.in-Err.ensures.reads c.in-Err.ensures.ends
