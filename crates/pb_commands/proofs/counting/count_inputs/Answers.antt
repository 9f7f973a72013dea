use Rattle.pb_commands.proofs.CountEnds.{Outcomes, count_ends, inputs_pass, refused_reads}
use Rattle.pb_commands.proofs.Endings.{given}
use Rattle.pb_commands.specs.Closed.{CountRefuses}
use Rattle.pb_commands.specs.Ends.{known}
use Rattle.pb_commands.proofs.counting.count_inputs.Goals as goal

pub returns-in-Err-clause-ends : goal.returns-in-Err-clause-ends
returns-in-Err-clause-ends g c =
    inputs_pass c.args.counting.now.rule.now (g.P.Read.remaining c.args.inputs.file) (known g.J.Read.remaining c.args.inputs.journal) _ c.in-Err.fault
    c.in-Err.ensures.reads c.in-Err.ensures.ends

pub returns-in-Ok-counted-clause-given : goal.returns-in-Ok-counted-clause-given
returns-in-Ok-counted-clause-given g c =
    (c.in-Ok.election, c.counted.ensures.is_election, c.in-Ok-counted.ensures.given, c.in-Ok.ensures.ok)

pub returns-in-Ok-counted-clause-ends : goal.returns-in-Ok-counted-clause-ends
returns-in-Ok-counted-clause-ends g c =
    let rule = c.args.counting.now.rule.now in
    given (Outcomes rule) (CountRefuses rule) (g.P.Read.remaining c.args.inputs.file) (known g.J.Read.remaining c.args.inputs.journal) _ _
    c.in-Ok.ensures.ends.judges.1 c.in-Ok.ensures.ends.judges.0

pub returns-in-Err-counted-clause-ends : goal.returns-in-Err-counted-clause-ends
returns-in-Err-counted-clause-ends g c =
    count_ends c.args.counting.now.rule.now (g.P.Read.remaining c.args.inputs.file) (known g.J.Read.remaining c.args.inputs.journal) _ c.in-Ok.election
    c.not_counted.result c.in-Err-counted.fault c.not_counted.ensures c.in-Err-counted.ensures.fault c.in-Ok.ensures.ok
    c.in-Ok.ensures.ends.judges.1 c.in-Ok.ensures.ends.judges.0

pub returns-in-Err-counted-clause-reads : goal.returns-in-Err-counted-clause-reads
returns-in-Err-counted-clause-reads g c = refused_reads c.not_counted.result c.in-Err-counted.fault c.not_counted.ensures
