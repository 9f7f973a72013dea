use Rattle.std.proofs.Common.{None, append-nil}
use Rattle.pb_rounds.specs.RuleNames.{rule_text}
use Rattle.pb_commands.proofs.Endings.{run_ended, run_written}
use Rattle.pb_commands.proofs.ExportEnds.{export_can, export_counts, exports_pass, not_exported, passed_bars, stopped_bars, stopped_ends, writer_bars}
use Rattle.pb_commands.proofs.RunEnds.{sorted_by_own, writes_of}
use Rattle.pb_reasons.specs.CountedElection.{IsCountIn}
use Rattle.pb_commands.specs.Closed.{CountRefuses, Gives}
use Rattle.pb_commands.specs.Ends.{known}
use Rattle.pb_commands.specs.Exported.{ExportRefuses, IsExportOf}
use Rattle.pb_commands.proofs.run_export.run_export.Goals as goal

pub returns-in-Err-clause-runs : goal.returns-in-Err-clause-runs
returns-in-Err-clause-runs g c =
    let rule = c.args.counting.now.rule.now in
    let files = g.P.Read.remaining c.args.inputs.file in
    let journals = known g.J.Read.remaining c.args.inputs.journal in
    run_ended (Gives (IsExportOf rule (rule_text rule) _)) (ExportRefuses (IsCountIn rule) (CountRefuses rule)) files journals _ g.W.Write.contents _ c.in-Err.fault
    (exports_pass (IsCountIn rule) (CountRefuses rule) (IsExportOf rule (rule_text rule)) files journals _ (export_counts rule) (not_exported rule) _ c.in-Err.fault c.in-Err.ensures.reads c.in-Err.ensures.ends)

pub returns-in-Err-clause-accepts : goal.returns-in-Err-clause-accepts
returns-in-Err-clause-accepts g c = λ none.
    let rule = c.args.counting.now.rule.now in
    let files = g.P.Read.remaining c.args.inputs.file in
    let journals = known g.J.Read.remaining c.args.inputs.journal in
    passed_bars (IsCountIn rule) (CountRefuses rule) (IsExportOf rule (rule_text rule)) files journals _ (export_counts rule) c.in-Err.fault c.in-Err.ensures.ends none

pub returns-in-Ok-export_text-clause-runs : goal.returns-in-Ok-export_text-clause-runs
returns-in-Ok-export_text-clause-runs g c =
    let rule = c.args.counting.now.rule.now in
    let files = g.P.Read.remaining c.args.inputs.file in
    let journals = known g.J.Read.remaining c.args.inputs.journal in
    let x = c.in-Ok.count in
    let (e, election, counts, leaves) = c.in-Ok.ensures.given in
    let file = c.in-Ok.ensures.ends.judges in
    let told = rw (c.carried.ensures, counts.0) at (c.in-Ok-export_text.ensures.ok e election (sorted_by_own rule e x counts)) in
    let made = rw (append-nil (rule_text rule)) at told in
    let text = c.in-Ok-export_text.text.items in
    run_written (Gives (IsExportOf rule (rule_text rule) _)) (ExportRefuses (IsCountIn rule) (CountRefuses rule)) files journals _ g.W.Write.contents _ _ text _
    (rw c.as_slice.ensures.value at c.write_out.ensures.ok) c.write_out.ensures.fault (rw c.as_slice.ensures.value at c.write_out.ensures.front) file.1 file.0
    (writes_of (IsExportOf rule (rule_text rule) _) files journals e text leaves made)

pub returns-in-Ok-export_text-clause-accepts : goal.returns-in-Ok-export_text-clause-accepts
returns-in-Ok-export_text-clause-accepts g c = λ none.
    let rule = c.args.counting.now.rule.now in
    let files = g.P.Read.remaining c.args.inputs.file in
    let journals = known g.J.Read.remaining c.args.inputs.journal in
    writer_bars (IsCountIn rule) (CountRefuses rule) (IsExportOf rule (rule_text rule)) files journals (None, None, None) c.write_out.result c.write_out.ensures.fault

pub returns-in-Err-export_text-clause-runs : goal.returns-in-Err-export_text-clause-runs
returns-in-Err-export_text-clause-runs g c =
    let rule = c.args.counting.now.rule.now in
    let files = g.P.Read.remaining c.args.inputs.file in
    let journals = known g.J.Read.remaining c.args.inputs.journal in
    let x = c.in-Ok.count in
    let (e, election, counts, leaves) = c.in-Ok.ensures.given in
    let file = c.in-Ok.ensures.ends.judges in
    let fault = c.in-Err-export_text.fault in
    run_ended (Gives (IsExportOf rule (rule_text rule) _)) (ExportRefuses (IsCountIn rule) (CountRefuses rule)) files journals _ g.W.Write.contents _ fault
    (stopped_ends (IsCountIn rule) (CountRefuses rule) (IsExportOf rule (rule_text rule)) files journals _ (export_can rule) e x counts _ fault (c.in-Err-export_text.ensures.fault e election (sorted_by_own rule e x counts)) c.in-Err-export_text.ensures.merged leaves file.1 file.0)

pub returns-in-Err-export_text-clause-accepts : goal.returns-in-Err-export_text-clause-accepts
returns-in-Err-export_text-clause-accepts g c = λ none.
    let rule = c.args.counting.now.rule.now in
    let files = g.P.Read.remaining c.args.inputs.file in
    let journals = known g.J.Read.remaining c.args.inputs.journal in
    let x = c.in-Ok.count in
    let (e, election, counts, leaves) = c.in-Ok.ensures.given in
    stopped_bars (IsCountIn rule) (CountRefuses rule) (IsExportOf rule (rule_text rule)) files journals (None, None, None) (export_can rule) e x counts c.in-Err-export_text.fault (c.in-Err-export_text.ensures.fault e election (sorted_by_own rule e x counts)) c.in-Err-export_text.ensures.merged leaves
