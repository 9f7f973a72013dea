use Rattle.std.proofs.Common.{◌≡◌, ◌∙◌, ◌++◌, ℕ, append_assoc, drop, length, inl, inr, [], Err, IsErrAnd, refl, ap, sym, subst, arith}
use Rattle.std.specs.Io.KnownBytes.{Appends}
use Rattle.std.proofs.KnownBytes.{Appends-trans}
use Rattle.pb_desk.specs.Desk.{DeskView}
use Rattle.pb_durable.proofs.Openings.{if_err}
use Rattle.pb_desk.specs.Rows.{journal_text}
use Rattle.pb_durable.specs.declared.durable_fault.DurableFault.TheVariants as durable
use Rattle.pb_durable.specs.Device.{LeavesOnly}
use Rattle.pb_serving.specs.Answered.{heading, Halts, StandsWithin}
use Rattle.pb_script.specs.EntryCounts.{counts_of}
use Rattle.pb_serving.specs.Inner.Durable.{of_device}
use Rattle.pb_faults.specs.declared.fault.AppFault.{AppFault}
use Rattle.pb_faults.specs.declared.fault.AppFault.TheVariants.{Memory, Serving, Write}
use Rattle.pb_faults.specs.declared.serving_fault.ServingFault.TheVariants.{Output}
use Rattle.pb_desk.specs.Replay.{IsLegal}
use Rattle.pb_serving.proofs.Answering.{begun_behind, begun_more, halts_behind_all, halts_unbegun, not_stopped, Begun, HasAnswered}
use Rattle.pb_serving.proofs.Apart.{ok_not_err, output_not_memory, output_not_read, output_not_write, same_err}
use Rattle.pb_serving.proofs.Batches.{adds_none}
use Rattle.pb_serving.proofs.Causes.{behind_device, device_not_output, err_is, not_durable, not_output, told_is}
use Rattle.pb_serving.specs.Inner.Admitted.{AddsAdmitted}
use Rattle.pb_serving.proofs.Standings.{begins, closes, kept_all, kept_closing}
use Rattle.pb_serving.proofs.run_serve.run_serve.Goals as goal

pub returns-in_err-opened-clause-stopped : goal.returns-in_err-opened-clause-stopped
returns-in_err-opened-clause-stopped g c =
    let old = c.args.desk.now in
    if_err c.from_residual.result Memory _ c.from_residual.ensures.1 (
      old.desk.journal,
      [],
      [],
      halts_unbegun c.args.session.now.admission.now Memory c.args.rows.now old.desk.journal (omega arith, inl refl),
      λ other. inr (refl, refl, refl),
      λ output. absurd (output_not_memory output),
      λ tells f left. kept_all g.D.Device.moment g.D.Device.left_since g.D.Device.seen g.D.Device.may_leave old (c.requires tells) f left,
    )

pub returns-in_err-opened-clause-any_moment : goal.returns-in_err-opened-clause-any_moment
returns-in_err-opened-clause-any_moment g c = λ tells. begins g.D.Device.moment g.D.Device.left_since g.D.Device.seen g.D.Device.may_leave g.met.D.Device.only_now c.args.desk.now (c.requires tells)

pub returns-in_err-write_out-clause-stopped : goal.returns-in_err-write_out-clause-stopped
returns-in_err-write_out-clause-stopped g c =
    let old = c.args.desk.now in
    let why = c.in_err-write_out.field-0.0 in
    let is : why ≡ Serving Output = c.in_err-write_out.ensures.fault in
    let before = g.W.Write.contents c.args.writer.now in
    let after = g.W.Write.contents c.write_out.new.writer in
    let head = heading c.args.session.now.torn old.desk in
    let head_is : c.as_slice.result.now ≡ head = c.as_slice.ensures.value ∙ c.in_ok-opened.ensures ∙ ap (λ (d : DeskView). heading c.args.session.now.torn d) c.desk-2.ensures in
    if_err c.from_residual-in_err-write_out.result why _ c.from_residual-in_err-write_out.ensures.1 (
      old.desk.journal,
      [],
      [],
      subst (λ (fault : AppFault). Halts c.args.session.now.admission.now fault c.args.rows.now c.args.rows.now old.desk.journal old.desk.journal old.desk.journal [] []) (sym is)
          (halts_unbegun c.args.session.now.admission.now (Serving Output) c.args.rows.now old.desk.journal (omega arith, refl)),
      λ other. absurd (other is),
      λ output. begun_more before after (head ++ []) [] (begun_more before after head [] (subst (Begun before after) head_is c.in_err-write_out.ensures.front)),
      λ tells f left. kept_all g.D.Device.moment g.D.Device.left_since g.D.Device.seen g.D.Device.may_leave old (c.requires tells) f left,
    )

pub returns-in_err-write_out-clause-any_moment : goal.returns-in_err-write_out-clause-any_moment
returns-in_err-write_out-clause-any_moment g c = λ tells. begins g.D.Device.moment g.D.Device.left_since g.D.Device.seen g.D.Device.may_leave g.met.D.Device.only_now c.args.desk.now (c.requires tells)

pub returns-in_err-refused-clause-stopped : goal.returns-in_err-refused-clause-stopped
returns-in_err-refused-clause-stopped g c =
    let old = c.args.desk.now in
    let before = g.W.Write.contents c.args.writer.now in
    let head = heading c.args.session.now.torn old.desk in
    let mid = g.W.Write.contents c.write_out.new.writer in
    let after = g.W.Write.contents c.serve_rows.new.writer in
    let head_is : c.as_slice.result.now ≡ head = c.as_slice.ensures.value ∙ c.in_ok-opened.ensures ∙ ap (λ (d : DeskView). heading c.args.session.now.torn d) c.desk-2.ensures in
    let opened = subst (Appends before mid) head_is c.in_ok-write_out.ensures.ok in
    let s = c.in_err-refused.ensures.stopped in
    if_err c.from_residual-in_err-refused.result c.in_err-refused.field-0.0 _ c.from_residual-in_err-refused.ensures.1 (
      s.0,
      s.1,
      s.2,
      s.3,
      λ other. inl (Appends-trans before mid after head s.1 opened (s.4 other)),
      λ output. subst (Begun before after) (sym (append_assoc head s.1 s.2)) (begun_behind before mid after head (s.1 ++ s.2) opened (s.5 output)),
      s.6,
    )

pub returns-in_err-close-clause-stopped : goal.returns-in_err-close-clause-stopped
returns-in_err-close-clause-stopped g c =
    let old = c.args.desk.now in
    let before = g.W.Write.contents c.args.writer.now in
    let head = heading c.args.session.now.torn old.desk in
    let mid = g.W.Write.contents c.write_out.new.writer in
    let after = g.W.Write.contents c.serve_rows.new.writer in
    let head_is : c.as_slice.result.now ≡ head = c.as_slice.ensures.value ∙ c.in_ok-opened.ensures ∙ ap (λ (d : DeskView). heading c.args.session.now.torn d) c.desk-2.ensures in
    let opened = subst (Appends before mid) head_is c.in_ok-write_out.ensures.ok in
    let now = c.serve_rows.new.desk in
    let end = c.close.new.self in
    let why = of_device c.in_err-close.field-0.0 in
    let a = c.in_ok-refused.ensures.answered in
    let halts = halts_behind_all c.args.session.now.admission.now why c.args.rows.now c.serve_rows.new.rows old.desk.journal now.desk.journal a.2 a.0 a.1 a.3 a.4 a.5
    (λ answered. behind_device c.in_err-close.field-0.0 answered 0 0 (omega arith)) (not_stopped c.serve_rows.new.rows c.in_ok-refused.ensures.read) in
    if_err c.from_residual-in_err-close.result why _ c.from_residual-in_err-close.ensures.1 (
      now.desk.journal,
      a.2,
      [],
      subst (λ (d : DeskView). Halts c.args.session.now.admission.now why c.args.rows.now c.serve_rows.new.rows old.desk.journal now.desk.journal d.journal a.2 []) (sym c.close.ensures.desk) halts,
      λ other. inl (Appends-trans before mid after head a.2 opened a.6),
      λ output. absurd (device_not_output c.in_err-close.field-0.0 output),
      λ tells f here. subst (λ (d : DeskView). StandsWithin d.opening.version now.desk.journal d.journal f) (sym c.close.ensures.desk)
          (kept_closing g.D.Device.moment g.D.Device.left_since g.D.Device.seen g.D.Device.may_leave g.met.D.Device.counts_now now end.file.device (c.close.ensures.any_moment tells) f here),
    )

pub returns-in_err-close-clause-any_moment : goal.returns-in_err-close-clause-any_moment
returns-in_err-close-clause-any_moment g c = λ tells.
    let old = c.args.desk.now in
    subst (λ (d : DeskView). LeavesOnly g.D.Device.moment g.D.Device.left_since old.file.device c.close.new.self.file.device (StandsWithin old.desk.opening.version old.desk.journal d.journal)) (sym c.close.ensures.desk)
    (closes g.D.Device.moment g.D.Device.left_since g.D.Device.seen g.D.Device.may_leave old c.serve_rows.new.desk c.close.new.self.file.device c.in_ok-refused.ensures.grown.0 c.serve_rows.ensures.opening c.in_ok-refused.ensures.grown.1
    (c.serve_rows.ensures.any_moment tells) (c.close.ensures.any_moment tells))

pub returns-clause-any_moment : goal.returns-clause-any_moment
returns-clause-any_moment g c = λ tells.
    let old = c.args.desk.now in
    subst (λ (d : DeskView). LeavesOnly g.D.Device.moment g.D.Device.left_since old.file.device c.close.new.self.file.device (StandsWithin old.desk.opening.version old.desk.journal d.journal)) (sym c.close.ensures.desk)
    (closes g.D.Device.moment g.D.Device.left_since g.D.Device.seen g.D.Device.may_leave old c.serve_rows.new.desk c.close.new.self.file.device c.in_ok-refused.ensures.grown.0 c.serve_rows.ensures.opening c.in_ok-refused.ensures.grown.1
    (c.serve_rows.ensures.any_moment tells) (c.close.ensures.any_moment tells))

pub returns-clause-answered : goal.returns-clause-answered
returns-clause-answered g c =
    let old = c.args.desk.now in
    let before = g.W.Write.contents c.args.writer.now in
    let head = heading c.args.session.now.torn old.desk in
    let mid = g.W.Write.contents c.write_out.new.writer in
    let after = g.W.Write.contents c.serve_rows.new.writer in
    let head_is : c.as_slice.result.now ≡ head = c.as_slice.ensures.value ∙ c.in_ok-opened.ensures ∙ ap (λ (d : DeskView). heading c.args.session.now.torn d) c.desk-2.ensures in
    let opened = subst (Appends before mid) head_is c.in_ok-write_out.ensures.ok in
    let a = c.in_ok-refused.ensures.answered in
    subst (λ (d : DeskView). HasAnswered c.args.session.now.admission.now c.args.rows.now c.serve_rows.new.rows old.desk.journal d.journal (λ text. Appends before after (head ++ text)) c.in_ok-refused.refused.all c.in_ok-refused.refused.counts) (sym c.close.ensures.desk)
    (a.0, a.1, a.2, a.3, a.4, a.5, Appends-trans before mid after head a.2 opened a.6, a.7, a.8)

pub returns-in_err-opened-clause-admitted : goal.returns-in_err-opened-clause-admitted
returns-in_err-opened-clause-admitted g c = adds_none c.args.session.now.admission.now c.args.desk.now.desk.journal

pub returns-in_err-write_out-clause-admitted : goal.returns-in_err-write_out-clause-admitted
returns-in_err-write_out-clause-admitted g c = adds_none c.args.session.now.admission.now c.args.desk.now.desk.journal

pub returns-in_err-refused-clause-write : goal.returns-in_err-refused-clause-write
returns-in_err-refused-clause-write g c = λ tells said.
    let is : Write ≡ c.in_err-refused.field-0.0 = subst (λ r. IsErrAnd r (λ x. x ≡ c.in_err-refused.field-0.0)) said c.from_residual-in_err-refused.ensures.1 in
    c.serve_rows.ensures.write tells (c.in_err-refused.was ∙ ap (λ (f : AppFault). Err f) (sym is))

pub returns-clause-admitted : goal.returns-clause-admitted
returns-clause-admitted g c = subst (λ (d : DeskView). AddsAdmitted c.args.session.now.admission.now c.args.desk.now.desk.journal d.journal) (sym c.close.ensures.desk) c.serve_rows.ensures.grown

pub returns-clause-legal : goal.returns-clause-legal
returns-clause-legal g c = subst (λ (d : DeskView). IsLegal d.opening d.journal) (sym c.close.ensures.desk) c.serve_rows.ensures.legal

pub returns-in_err-close-clause-admitted : goal.returns-in_err-close-clause-admitted
returns-in_err-close-clause-admitted g c = subst (λ (d : DeskView). AddsAdmitted c.args.session.now.admission.now c.args.desk.now.desk.journal d.journal) (sym c.close.ensures.desk) c.serve_rows.ensures.grown

pub returns-in_err-close-clause-legal : goal.returns-in_err-close-clause-legal
returns-in_err-close-clause-legal g c = subst (λ (d : DeskView). IsLegal d.opening d.journal) (sym c.close.ensures.desk) c.serve_rows.ensures.legal

pub returns-clause-output : goal.returns-clause-output
returns-clause-output g c = λ tells said. absurd (ok_not_err said)

pub returns-clause-write : goal.returns-clause-write
returns-clause-write g c = λ tells said. absurd (ok_not_err said)

pub returns-in_err-close-clause-output : goal.returns-in_err-close-clause-output
returns-in_err-close-clause-output g c = λ tells said. absurd (not_output (durable.Device c.in_err-close.field-0.0) (sym (told_is c.from_residual-in_err-close.ensures.1 said)))

pub returns-in_err-close-clause-blame : goal.returns-in_err-close-clause-blame
returns-in_err-close-clause-blame g c = λ i said. absurd (not_durable (durable.Device c.in_err-close.field-0.0) i (sym (told_is c.from_residual-in_err-close.ensures.1 said)))

pub returns-in_err-refused-clause-output : goal.returns-in_err-refused-clause-output
returns-in_err-refused-clause-output g c = λ tells said. c.serve_rows.ensures.output tells (c.in_err-refused.was ∙ ap (λ (f : AppFault). Err f) (told_is c.from_residual-in_err-refused.ensures.1 said))

pub returns-in_err-refused-clause-blame : goal.returns-in_err-refused-clause-blame
returns-in_err-refused-clause-blame g c = λ i said. c.serve_rows.ensures.blame i (c.in_err-refused.was ∙ ap (λ (f : AppFault). Err f) (told_is c.from_residual-in_err-refused.ensures.1 said))

pub returns-in_err-refused-clause-admitted : goal.returns-in_err-refused-clause-admitted
returns-in_err-refused-clause-admitted g c = c.serve_rows.ensures.grown

pub returns-in_err-refused-clause-any_moment : goal.returns-in_err-refused-clause-any_moment
returns-in_err-refused-clause-any_moment g c = λ tells. c.serve_rows.ensures.any_moment tells

pub returns-clause-closed : goal.returns-clause-closed
returns-clause-closed g c = λ tells. subst (λ (d : DeskView). g.D.Device.seen c.close.new.self.file.device ≡ journal_text d.opening.version d.journal) (sym c.close.ensures.desk) (c.in_ok-close.ensures.closed tells)

pub returns-clause-durable : goal.returns-clause-durable
returns-clause-durable g c = λ tells. c.in_ok-close.ensures.durable tells

pub returns-clause-opening : goal.returns-clause-opening
returns-clause-opening g c = ap (λ (d : DeskView). d.opening) c.close.ensures.desk ∙ c.serve_rows.ensures.opening

pub returns-in_err-close-clause-opening : goal.returns-in_err-close-clause-opening
returns-in_err-close-clause-opening g c = ap (λ (d : DeskView). d.opening) c.close.ensures.desk ∙ c.serve_rows.ensures.opening

pub returns-clause-read : goal.returns-clause-read
returns-clause-read g c = c.in_ok-refused.ensures.read

pub returns-clause-blame : goal.returns-clause-blame
returns-clause-blame g c = λ i said. absurd (ok_not_err said)

pub returns-in_err-write_out-clause-write : goal.returns-in_err-write_out-clause-write
returns-in_err-write_out-clause-write g c = λ tells said. absurd (output_not_write c.in_err-write_out.ensures.fault (told_is c.from_residual-in_err-write_out.ensures.1 said))

pub serve_rows-requires-clause-legal : goal.serve_rows-requires-clause-legal
serve_rows-requires-clause-legal g c = subst (λ (d : DeskView). IsLegal d.opening d.journal) c.desk.ensures c.entries-before.ensures.legal

pub returns-in_err-refused-clause-opening : goal.returns-in_err-refused-clause-opening
returns-in_err-refused-clause-opening g c = c.serve_rows.ensures.opening

pub returns-in_err-refused-clause-legal : goal.returns-in_err-refused-clause-legal
returns-in_err-refused-clause-legal g c = c.serve_rows.ensures.legal

pub returns-in_err-refused-clause-told : goal.returns-in_err-refused-clause-told
returns-in_err-refused-clause-told g c = λ tells failed. err_is c.from_residual-in_err-refused.result c.in_err-refused.field-0.0 Write c.from_residual-in_err-refused.ensures.1 (same_err c.in_err-refused.was (c.serve_rows.ensures.told tells failed))

pub returns-in_err-write_out-clause-output : goal.returns-in_err-write_out-clause-output
returns-in_err-write_out-clause-output g c = λ tells said. c.requires tells

pub returns-in_err-opened-clause-output : goal.returns-in_err-opened-clause-output
returns-in_err-opened-clause-output g c = λ tells said. c.requires tells

pub returns-in_err-write_out-clause-legal : goal.returns-in_err-write_out-clause-legal
returns-in_err-write_out-clause-legal g c = subst (λ (d : DeskView). IsLegal d.opening d.journal) c.desk.ensures c.entries-before.ensures.legal

pub returns-in_err-write_out-clause-blame : goal.returns-in_err-write_out-clause-blame
returns-in_err-write_out-clause-blame g c = λ i said. absurd (output_not_read c.in_err-write_out.ensures.fault (told_is c.from_residual-in_err-write_out.ensures.1 said))

pub returns-clause-counts : goal.returns-clause-counts
returns-clause-counts g c =
    let old = c.args.desk.now.desk.journal in
    let before : c.entries-before.result ≡ length old = c.entries-before.ensures.entries ∙ ap (λ (d : DeskView). length d.journal) c.desk.ensures in
    c.of.ensures ∙ ap (λ (n : ℕ). counts_of (drop n c.desk-3.result.now.journal)) before ∙ ap (λ (d : DeskView). counts_of (drop (length old) d.journal)) c.desk-3.ensures
