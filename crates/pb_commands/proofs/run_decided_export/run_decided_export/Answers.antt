use Rattle.std.proofs.Common.{None}
use Rattle.pb_commands.proofs.DecidedEnds.{export_can, export_applies, not_exported}
use Rattle.pb_commands.proofs.ExportEnds.{exports_pass, passed_bars, stopped_bars, stopped_ends, writer_bars}
use Rattle.pb_commands.proofs.Endings.{run_ended, run_written}
use Rattle.pb_commands.proofs.RunEnds.{sorted_by_own, writes_of}
use Rattle.pb_commands.specs.Beside.{BesideRefuses}
use Rattle.pb_commands.specs.Closed.{Gives}
use Rattle.pb_commands.specs.Decided.{IsDecidedExport, Applies}
use Rattle.pb_commands.specs.Exported.{ExportRefuses}
use Rattle.pb_commands.specs.Ends.{known}
use Rattle.pb_commands.proofs.run_decided_export.run_decided_export.Goals as goal

pub returns-in-Err-clause-runs : goal.returns-in-Err-clause-runs
returns-in-Err-clause-runs g c =
    let rule = c.args.counting.now.rule.now in
    let decide = c.args.decide.now in
    let files = g.P.Read.remaining c.args.inputs.file in
    let journals = known g.J.Read.remaining c.args.inputs.journal in
    run_ended (Gives (IsDecidedExport decide rule _)) (ExportRefuses (Applies decide rule) (BesideRefuses rule decide.other)) files journals _ g.W.Write.contents _ c.in-Err.fault
    (exports_pass (Applies decide rule) (BesideRefuses rule decide.other) (IsDecidedExport decide rule) files journals _ (export_applies decide rule) (not_exported decide rule) _ c.in-Err.fault c.in-Err.ensures.reads c.in-Err.ensures.ends)

pub returns-in-Err-clause-accepts : goal.returns-in-Err-clause-accepts
returns-in-Err-clause-accepts g c = λ none.
    let rule = c.args.counting.now.rule.now in
    let decide = c.args.decide.now in
    let files = g.P.Read.remaining c.args.inputs.file in
    let journals = known g.J.Read.remaining c.args.inputs.journal in
    passed_bars (Applies decide rule) (BesideRefuses rule decide.other) (IsDecidedExport decide rule) files journals _ (export_applies decide rule) c.in-Err.fault c.in-Err.ensures.ends none

pub returns-in-Ok-text_of-clause-runs : goal.returns-in-Ok-text_of-clause-runs
returns-in-Ok-text_of-clause-runs g c =
    let rule = c.args.counting.now.rule.now in
    let decide = c.args.decide.now in
    let files = g.P.Read.remaining c.args.inputs.file in
    let journals = known g.J.Read.remaining c.args.inputs.journal in
    let it = c.in-Ok.decided in
    let x = it.count in
    let (e, election, counts, applies, leaves) = c.in-Ok.ensures.given in
    let file = c.in-Ok.ensures.ends.judges in
    let made = rw c.carried.ensures at (c.in-Ok-text_of.ensures.ok e election (sorted_by_own x.rule e x counts)) in
    let text = c.in-Ok-text_of.text.items in
    run_written (Gives (IsDecidedExport decide rule _)) (ExportRefuses (Applies decide rule) (BesideRefuses rule decide.other)) files journals _ g.W.Write.contents _ _ text _
    (rw c.as_slice.ensures.value at c.write_out.ensures.ok) c.write_out.ensures.fault (rw c.as_slice.ensures.value at c.write_out.ensures.front) file.1 file.0
    (writes_of (IsDecidedExport decide rule _) files journals e text leaves ((x.rule, it.own, it.other), applies, made))

pub returns-in-Ok-text_of-clause-accepts : goal.returns-in-Ok-text_of-clause-accepts
returns-in-Ok-text_of-clause-accepts g c = λ none.
    let rule = c.args.counting.now.rule.now in
    let decide = c.args.decide.now in
    let files = g.P.Read.remaining c.args.inputs.file in
    let journals = known g.J.Read.remaining c.args.inputs.journal in
    writer_bars (Applies decide rule) (BesideRefuses rule decide.other) (IsDecidedExport decide rule) files journals (None, None, None) c.write_out.result c.write_out.ensures.fault

pub returns-in-Err-text_of-clause-runs : goal.returns-in-Err-text_of-clause-runs
returns-in-Err-text_of-clause-runs g c =
    let rule = c.args.counting.now.rule.now in
    let decide = c.args.decide.now in
    let files = g.P.Read.remaining c.args.inputs.file in
    let journals = known g.J.Read.remaining c.args.inputs.journal in
    let it = c.in-Ok.decided in
    let x = it.count in
    let (e, election, counts, applies, leaves) = c.in-Ok.ensures.given in
    let file = c.in-Ok.ensures.ends.judges in
    let fault = c.in-Err-text_of.fault in
    run_ended (Gives (IsDecidedExport decide rule _)) (ExportRefuses (Applies decide rule) (BesideRefuses rule decide.other)) files journals _ g.W.Write.contents _ fault
    (stopped_ends (Applies decide rule) (BesideRefuses rule decide.other) (IsDecidedExport decide rule) files journals _ (export_can decide rule) e (x.rule, it.own, it.other) applies _ fault
    (c.in-Err-text_of.ensures.fault e election (sorted_by_own x.rule e x counts)) c.in-Err-text_of.ensures.merged leaves file.1 file.0)

pub returns-in-Err-text_of-clause-accepts : goal.returns-in-Err-text_of-clause-accepts
returns-in-Err-text_of-clause-accepts g c = λ none.
    let rule = c.args.counting.now.rule.now in
    let decide = c.args.decide.now in
    let files = g.P.Read.remaining c.args.inputs.file in
    let journals = known g.J.Read.remaining c.args.inputs.journal in
    let it = c.in-Ok.decided in
    let x = it.count in
    let (e, election, counts, applies, leaves) = c.in-Ok.ensures.given in
    stopped_bars (Applies decide rule) (BesideRefuses rule decide.other) (IsDecidedExport decide rule) files journals (None, None, None) (export_can decide rule) e (x.rule, it.own, it.other) applies c.in-Err-text_of.fault
    (c.in-Err-text_of.ensures.fault e election (sorted_by_own x.rule e x counts)) c.in-Err-text_of.ensures.merged leaves
