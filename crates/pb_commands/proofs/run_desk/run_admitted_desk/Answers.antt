use Rattle.std.proofs.Common.{◌∙◌, IfSome, List, None, ℕ, subst}
use Rattle.std.proofs.lemmas.Result.{on_ok_weaker}
use Rattle.std.specs.Io.KnownBytes.{Appends}
use Rattle.pb_rows.specs.Reading.{records_of}
use Rattle.pb_script.specs.Served.{IsServeFault, IsServed}
use Rattle.pb_script.specs.declared.admission.Admission.{Admission}
use Rattle.pb_commands.proofs.DeskRuns.{desk_known, own_passes, script_ends}
use Rattle.pb_commands.proofs.Endings.{memory_end, run_ended, run_written}
use Rattle.pb_commands.proofs.InputEnds.{input_reads}
use Rattle.pb_commands.specs.Inner.Inputs.{of_input}
use Rattle.pb_commands.specs.DeskRun.{DeskRefuses, DeskWrites}
use Rattle.pb_commands.specs.Ends.{IfBothKnown}
use Rattle.pb_faults.specs.declared.fault.AppFault.TheVariants.{Memory}
use Rattle.pb_commands.proofs.run_desk.run_admitted_desk.Goals as goal

pub returns-in-Err-clause-runs : goal.returns-in-Err-clause-runs
returns-in-Err-clause-runs g c =
    let files = g.P.Read.remaining c.args.file in
    let scripts = g.S.Read.remaining c.args.script in
    rw c.from.ensures
    (run_ended (λ bytes rows. DeskWrites c.args.rules bytes rows c.args.clerks c.args.shuts) (λ _ rows. DeskRefuses c.args.rules rows c.args.clerks) files scripts (None, None, None) g.W.Write.contents _ (of_input c.in-Err.fault)
    (own_passes c.args.rules c.args.clerks c.args.shuts files scripts (of_input c.in-Err.fault) (input_reads c.in-Err.fault).0 c.in-Err.ensures.ends))

pub returns-in-Err-admission_of-clause-runs : goal.returns-in-Err-admission_of-clause-runs
returns-in-Err-admission_of-clause-runs g c =
    let files = g.P.Read.remaining c.args.file in
    let scripts = g.S.Read.remaining c.args.script in
    let file = c.in-Ok.ensures.ends.judges in
    run_ended (λ bytes rows. DeskWrites c.args.rules bytes rows c.args.clerks c.args.shuts) (λ _ rows. DeskRefuses c.args.rules rows c.args.clerks) files scripts (None, None, None) g.W.Write.contents _ Memory
    (memory_end (λ bytes rows. DeskWrites c.args.rules bytes rows c.args.clerks c.args.shuts) (λ _ rows. DeskRefuses c.args.rules rows c.args.clerks) files scripts (None, None, None) file.1 file.0)

pub returns-in-Err-served-clause-runs : goal.returns-in-Err-served-clause-runs
returns-in-Err-served-clause-runs g c =
    let files = g.P.Read.remaining c.args.file in
    let scripts = g.S.Read.remaining c.args.script in
    let e = c.in-Ok.election in
    let fault = c.in-Err-served.fault in
    run_ended (λ bytes rows. DeskWrites c.args.rules bytes rows c.args.clerks c.args.shuts) (λ _ rows. DeskRefuses c.args.rules rows c.args.clerks) files scripts (None, None, None) g.W.Write.contents _ c.unserved.result
    (script_ends c.args.rules c.args.clerks c.args.shuts files scripts e c.in-Ok.ensures.ok fault c.unserved.result c.unserved.ensures
    (subst (λ (a : Admission). IfSome scripts (λ rows. IsServeFault a c.args.clerks (records_of rows) fault)) c.in-Ok-admission_of.ensures c.in-Err-served.ensures.fault))

pub returns-clause-runs : goal.returns-clause-runs
returns-clause-runs g c =
    let files = g.P.Read.remaining c.args.file in
    let scripts = g.S.Read.remaining c.args.script in
    let e = c.in-Ok.election in
    let file = c.in-Ok.ensures.ends.judges in
    let text = c.in-Ok-served.field-0.text.items in
    run_written (λ bytes rows. DeskWrites c.args.rules bytes rows c.args.clerks c.args.shuts) (λ _ rows. DeskRefuses c.args.rules rows c.args.clerks) files scripts (None, None, None) g.W.Write.contents _ _ text _
    (rw c.as_slice.ensures.value at c.write_out.ensures.ok) c.write_out.ensures.fault (rw c.as_slice.ensures.value at c.write_out.ensures.front) file.1 file.0
    (desk_known c.args.rules c.args.clerks c.args.shuts files scripts e c.in-Ok.ensures.ok text
    (subst (λ (a : Admission). IfSome scripts (λ rows. IsServed a e c.args.clerks c.args.shuts (records_of rows) text)) c.in-Ok-admission_of.ensures c.in-Ok-served.ensures.ok))

pub returns-clause-counts : goal.returns-clause-counts
returns-clause-counts g c =
    let files = g.P.Read.remaining c.args.file in
    let scripts = g.S.Read.remaining c.args.script in
    let e = c.in-Ok.election in
    let text = c.in-Ok-served.field-0.text.items in
    let counted = c.in-Ok-served.ensures.counts in
    let old = g.W.Write.contents c.args.writer.now in
    let new = g.W.Write.contents c.write_out.new.writer in
    let allowed = desk_known c.args.rules c.args.clerks c.args.shuts files scripts e c.in-Ok.ensures.ok text
    (subst (λ (a : Admission). IfSome scripts (λ rows. IsServed a e c.args.clerks c.args.shuts (records_of rows) text)) c.in-Ok-admission_of.ensures c.in-Ok-served.ensures.ok) in
    on_ok_weaker c.write_out.result (λ said. (
      counted.0,
      counted.2,
      subst (Appends old new) (c.as_slice.ensures.value ∙ counted.1) said,
      subst (λ (t : List ℕ). IfBothKnown files scripts (λ bytes rows. DeskWrites c.args.rules bytes rows c.args.clerks c.args.shuts t)) counted.1 allowed,
    )) c.write_out.ensures.ok
