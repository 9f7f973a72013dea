use Rattle.pb_commands.proofs.BesideEnds.{refused_ends, unread_ends}
use Rattle.pb_commands.proofs.CountEnds.{refused_reads}
use Rattle.pb_commands.proofs.DecidedEnds.{applied_other, applied_own}
use Rattle.pb_commands.proofs.Endings.{given}
use Rattle.pb_commands.specs.Beside.{BesideRefuses}
use Rattle.pb_commands.specs.Closed.{Gives}
use Rattle.pb_commands.specs.Decided.{Applies}
use Rattle.pb_commands.specs.Ends.{known}
use Rattle.pb_commands.proofs.decide.decided_inputs.Goals as goal

pub returns-in-Err-clause-ends : goal.returns-in-Err-clause-ends
returns-in-Err-clause-ends g c =
    let rule = c.args.counting.now.rule.now in
    let decide = c.args.decide.now in
    unread_ends (Applies decide rule) rule decide.other (g.P.Read.remaining c.args.inputs.file) (known g.J.Read.remaining c.args.inputs.journal) _ c.in-Err.fault
    c.in-Err.ensures.reads c.in-Err.ensures.ends

pub returns-in-Ok-decided-clause-given : goal.returns-in-Ok-decided-clause-given
returns-in-Ok-decided-clause-given g c =
    let own = c.in-Ok-decided.ensures.given in
    (c.in-Ok.election, own.0, own.1, c.in-Ok-decided.ensures.applies, c.in-Ok.ensures.ok)

pub returns-in-Ok-decided-clause-ends : goal.returns-in-Ok-decided-clause-ends
returns-in-Ok-decided-clause-ends g c =
    let rule = c.args.counting.now.rule.now in
    let decide = c.args.decide.now in
    given (Gives (Applies decide rule)) (BesideRefuses rule decide.other) (g.P.Read.remaining c.args.inputs.file) (known g.J.Read.remaining c.args.inputs.journal) _ _
    c.in-Ok.ensures.ends.judges.1 c.in-Ok.ensures.ends.judges.0

pub returns-in-Err-decided-clause-ends : goal.returns-in-Err-decided-clause-ends
returns-in-Err-decided-clause-ends g c =
    let rule = c.args.counting.now.rule.now in
    let decide = c.args.decide.now in
    refused_ends (Applies decide rule) rule decide.other (g.P.Read.remaining c.args.inputs.file) (known g.J.Read.remaining c.args.inputs.journal) _
    (applied_own decide rule) (applied_other decide rule) c.in-Ok.election c.not_counted.result c.in-Err-decided.fault c.not_counted.ensures
    c.in-Ok.ensures.ok c.in-Ok.ensures.ends.judges.1 c.in-Ok.ensures.ends.judges.0 c.in-Err-decided.ensures.fault

pub returns-in-Err-decided-clause-reads : goal.returns-in-Err-decided-clause-reads
returns-in-Err-decided-clause-reads g c = refused_reads c.not_counted.result c.in-Err-decided.fault c.not_counted.ensures
