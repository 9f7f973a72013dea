use Rattle.std.proofs.Common.{◌≡◌, Some, None}
use Rattle.std.proofs.lemmas.Result.{on_ok_weaker}
use Rattle.pb_commands.proofs.Endings.{known_map, run_ended, run_given, run_written}
use Rattle.pb_commands.proofs.AuditAccepted.{desk_from_outside}
use Rattle.pb_commands.proofs.AuditEnds.{audit_known, audits_pass, open_audit, refused_audit, report_fails}
use Rattle.pb_commands.proofs.CountEnds.{none_counted}
use Rattle.pb_commands.proofs.InputEnds.{input_reads, input_undemanded}
use Rattle.pb_commands.proofs.RunEnds.{of_any, written_of_any}
use Rattle.pb_commands.specs.Audited.{AuditWrites, IsDeskOf, IsReport}
use Rattle.pb_commands.specs.Inner.Audited.{IsRefusedDesk}
use Rattle.pb_commands.specs.Closed.{CountRefuses}
use Rattle.pb_commands.specs.Inner.Inputs.{of_input}
use Rattle.pb_desk.specs.Desk.{DeskView}
use Rattle.pb_script.specs.EntryCounts.{counts_of}
use Rattle.pb_faults.specs.Fault.{merged}
use Rattle.pb_faults.specs.declared.fault.AppFault.TheVariants.{Count, OpenDesk}
use Rattle.pb_commands.proofs.run_audit.run_audit_watched.Goals as goal

pub returns-in_err-desk-clause-runs : goal.returns-in_err-desk-clause-runs
returns-in_err-desk-clause-runs g c =
    let demand = c.args.inputs.demand in
    let rule = c.args.counting.now.rule.now in
    let files = g.P.Read.remaining c.args.inputs.file in
    let journals = g.J.Read.remaining c.args.inputs.journal in
    let fault = c.in_err-desk.field-0.0 in
    run_given (AuditWrites demand (IsReport rule)) (λ bytes rows. CountRefuses rule bytes (Some rows)) files journals _ g.W.Write.contents _ _ (of_input fault) c.from_residual.ensures.1
    (audits_pass (IsReport rule) (CountRefuses rule) demand files journals _ (none_counted rule) (of_input fault) (input_reads fault).0 c.in_err-desk.ensures.ends)

pub returns-then-is_refused-clause-runs : goal.returns-then-is_refused-clause-runs
returns-then-is_refused-clause-runs g c =
    let demand = c.args.inputs.demand in
    let rule = c.args.counting.now.rule.now in
    let files = g.P.Read.remaining c.args.inputs.file in
    let journals = g.J.Read.remaining c.args.inputs.journal in
    let file = c.in_ok-desk.ensures.ends.judges in
    let refused = c.is_refused.ensures.refused c.if-is_refused.true in
    run_ended (AuditWrites demand (IsReport rule)) (λ bytes rows. CountRefuses rule bytes (Some rows)) files journals _ g.W.Write.contents _ OpenDesk
    (open_audit (IsReport rule) (CountRefuses rule) demand files journals _ (none_counted rule) c.in_ok-desk.desk refused.0 refused.1 c.in_ok-desk.ensures.ok file.1 file.0)

pub returns-in_err-text-clause-runs : goal.returns-in_err-text-clause-runs
returns-in_err-text-clause-runs g c =
    let demand = c.args.inputs.demand in
    let rule = c.args.counting.now.rule.now in
    let files = g.P.Read.remaining c.args.inputs.file in
    let journals = g.J.Read.remaining c.args.inputs.journal in
    let file = c.in_ok-desk.ensures.ends.judges in
    let fault = c.in_err-text.field-0.0 in
    run_given (AuditWrites demand (IsReport rule)) (λ bytes rows. CountRefuses rule bytes (Some rows)) files journals _ g.W.Write.contents _ _ (merged (Count fault))
    c.from_residual-in_err-text.ensures.1
    (refused_audit (IsReport rule) (CountRefuses rule) demand files journals _ c.in_ok-desk.desk c.in_ok-desk.ensures.ok (IsRefusedDesk c.in_ok-desk.desk rule)
    (report_fails demand rule c.in_ok-desk.desk) (desk_from_outside rule c.in_ok-desk.desk) fault c.in_err-text.ensures.fault file.1 file.0)

pub returns-clause-runs : goal.returns-clause-runs
returns-clause-runs g c =
    let demand = c.args.inputs.demand in
    let rule = c.args.counting.now.rule.now in
    let files = g.P.Read.remaining c.args.inputs.file in
    let journals = g.J.Read.remaining c.args.inputs.journal in
    let file = c.in_ok-desk.ensures.ends.judges in
    let text = c.in_ok-text.text.items in
    run_written (AuditWrites demand (IsReport rule)) (λ bytes rows. CountRefuses rule bytes (Some rows)) files journals _ g.W.Write.contents _ _ text _
    (rw c.as_slice.ensures.value at c.write_out.ensures.ok) c.write_out.ensures.fault (rw c.as_slice.ensures.value at c.write_out.ensures.front) file.1 file.0
    (audit_known (IsReport rule) (CountRefuses rule) demand files journals (None, None, None) c.in_ok-desk.desk c.in_ok-desk.ensures.ok (c.is_refused.ensures.passed c.if-is_refused.false) text c.in_ok-text.ensures.ok)

pub returns-in_err-desk-clause-demanded : goal.returns-in_err-desk-clause-demanded
returns-in_err-desk-clause-demanded g c = input_undemanded _ _ c.in_err-desk.field-0.0 c.from_residual.ensures.1

pub returns-then-is_refused-clause-demanded : goal.returns-then-is_refused-clause-demanded
returns-then-is_refused-clause-demanded g c = λ is. (c.is_refused.ensures.refused c.if-is_refused.true).0

pub returns-in_err-text-clause-demanded : goal.returns-in_err-text-clause-demanded
returns-in_err-text-clause-demanded g c = of_any _ _ c.in_err-text.field-0.0 c.from_residual-in_err-text.ensures.1

pub returns-clause-demanded : goal.returns-clause-demanded
returns-clause-demanded g c = written_of_any _ _ c.write_out.ensures.fault

pub returns-clause-counts : goal.returns-clause-counts
returns-clause-counts g c =
    let desk = c.in_ok-desk.desk in
    let counts = c.of.result.counts in
    on_ok_weaker c.write_out.result (λ said. known_map (λ bytes journal. IsDeskOf bytes journal desk) (λ bytes journal. (d : DeskView) × IsDeskOf bytes journal d × (counts ≡ counts_of d.journal))
    (g.P.Read.remaining c.args.inputs.file) (g.J.Read.remaining c.args.inputs.journal) (λ bytes journal is. (desk, is, c.of.ensures)) c.in_ok-desk.ensures.ok) c.write_out.ensures.ok
