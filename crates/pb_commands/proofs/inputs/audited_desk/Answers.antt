use Rattle.std.proofs.Common.{Some, None, refl}
use Rattle.pb_commands.proofs.Endings.{given}
use Rattle.pb_commands.proofs.InputEnds.{desk_is, desk_passes, input_reads, journal_ends}
use Rattle.pb_commands.specs.Audited.{IsDeskOf}
use Rattle.pb_commands.specs.Closed.{LeavesNone}
use Rattle.pb_commands.specs.Inner.Inputs.{of_input}
use Rattle.pb_commands.proofs.inputs.audited_desk.Goals as goal

pub returns-in-Err-clause-ends : goal.returns-in-Err-clause-ends
returns-in-Err-clause-ends g c = desk_passes _ _ _ (of_input c.in-Err.fault) (input_reads c.in-Err.fault).0 c.in-Err.ensures.ends

pub returns-in-Ok-audit-clause-ends : goal.returns-in-Ok-audit-clause-ends
returns-in-Ok-audit-clause-ends g c =
    given IsDeskOf (λ bytes rows. LeavesNone bytes (Some rows)) (g.P.Read.remaining c.args.file) (g.J.Read.remaining c.args.journal) _ c.in-Ok-audit.desk
    c.in-Ok.ensures.ends.judges.1 c.in-Ok.ensures.ends.judges.0

pub returns-in-Ok-audit-clause-ok : goal.returns-in-Ok-audit-clause-ok
returns-in-Ok-audit-clause-ok g c =
    desk_is (g.P.Read.remaining c.args.file) (g.J.Read.remaining c.args.journal) (None, None, None) c.in-Ok.election c.in-Ok-audit.desk
    c.in-Ok.ensures.ok c.in-Ok-audit.ensures.audited

pub returns-in-Err-audit-clause-ends : goal.returns-in-Err-audit-clause-ends
returns-in-Err-audit-clause-ends g c =
    journal_ends (g.P.Read.remaining c.args.file) (g.J.Read.remaining c.args.journal) _ c.in-Ok.election c.in-Err-audit.fault _ refl
    c.in-Ok.ensures.ok c.in-Err-audit.ensures.fault c.in-Ok.ensures.ends.judges.0
