use Rattle.std.proofs.Common.{Some, None, refl, sym, ◌∙◌}
use Rattle.pb_commands.proofs.Endings.{given}
use Rattle.pb_commands.proofs.InputEnds.{is_file, reader_ends, warning_ends}
use Rattle.pb_commands.specs.Closed.{Leaves, LeavesNone}
use Rattle.pb_commands.proofs.inputs.own_election.Goals as goal

pub returns-in-Err-clause-ends : goal.returns-in-Err-clause-ends
returns-in-Err-clause-ends g c =
    reader_ends _ _ c.in-Err.fault _ refl c.in-Err.ensures.reads.fault c.in-Err.ensures.shown c.in-Err.ensures.reads.accepts

pub returns-in-Some-clause-ends : goal.returns-in-Some-clause-ends
returns-in-Some-clause-ends g c =
    warning_ends (g.P.Read.remaining c.args.file) _ c.in-Ok.election c.in-Some.warning (sym c.refusal.ensures ∙ c.in-Some.is, c.in-Ok.ensures.shown)
    c.in-Ok.ensures.reads.ok

pub returns-clause-ends : goal.returns-clause-ends
returns-clause-ends g c =
    given Leaves LeavesNone (g.P.Read.remaining c.args.file) (Some None) _ c.in-Ok.election
    (is_file (g.P.Read.remaining c.args.file) c.in-Ok.election c.in-Ok.ensures.reads.ok) (sym c.refusal.ensures ∙ c.in_default.is, c.in-Ok.ensures.shown)

pub returns-clause-ok : goal.returns-clause-ok
returns-clause-ok g c = c.in-Ok.ensures.reads.ok
