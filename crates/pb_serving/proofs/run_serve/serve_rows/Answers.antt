use Rattle.std.proofs.Common.{◌≡◌, ◌∙◌, ◌≤◌, ◌<◌, ◌+◌, inl, ℕ, List, [], ◌∷◌, ◌++◌, length, Option, Err, IsErrAnd, refl, sym, ap, subst, arith}
use Rattle.std.proofs.lemmas.List.{append-nil}
use Rattle.std.specs.Io.KnownBytes.{Appends}
use Rattle.pb_durable.proofs.Openings.{if_err}
use Rattle.pb_durable.specs.Inner.Entries.{entries_of}
use Rattle.pb_script.specs.RowsView.{HasGiven}
use Rattle.pb_desk.specs.Rows.{rows_from}
use Rattle.pb_rows.specs.Writing.{text_of_rows}
use Rattle.pb_serving.specs.Answered.{answers_from, IsBehind}
use Rattle.pb_serving.specs.Inner.Admitted.{AddsAdmitted}
use Rattle.pb_serving.specs.Inner.Batch.{refused, EndsBy}
use Rattle.pb_serving.specs.Inner.Refused.{refusals_of, with_refusal}
use Rattle.pb_serving.specs.declared.refused_rows.RefusedRows.{RefusedRows}
use Rattle.pb_serving.specs.declared.batch.BatchEnd.{BatchEnd}
use Rattle.pb_serving.specs.declared.batch.BatchEnd.TheVariants as end
use Rattle.pb_serving.proofs.Answering.{bad_more, batch_more, done, gives, gone_mid, halts, halts_here, moved, refused_begun, started, text_behind, text_so_far, Begun, Outcome}
use Rattle.pb_serving.proofs.Apart.{cons_not_nil, memory_not_failed, memory_not_read, memory_not_write, more_not_failed, ok_not_err, output_not_memory, output_not_script, refused_not_failed, same_err, script_not_write}
use Rattle.pb_serving.proofs.Batches.{adds_more, adds_none, asks_clerks, entries_admitted}
use Rattle.pb_serving.proofs.Causes.{behind_refused, err_is, has_cause, not_failed, refused_not_read, refused_not_write, told_is}
use Rattle.pb_serving.proofs.Standings.{begins, goes_on, kept_all, kept_first}
use Rattle.pb_serving.proofs.Unanswered.{unanswered}
use Rattle.pb_script.specs.declared.script_fault.ScriptFault.TheVariants.{TooManyRows}
use Rattle.pb_script.specs.ScriptReading.{fault_of_row}
use Rattle.pb_faults.specs.Fault.{line, told}
use Rattle.pb_faults.specs.declared.fault.AppFault.{AppFault}
use Rattle.pb_faults.specs.declared.fault.AppFault.TheVariants.{Memory, Script, Serving, Write}
use Rattle.pb_faults.specs.declared.serving_fault.ServingFault.TheVariants.{Output}
use Rattle.pb_serving.proofs.run_serve.serve_rows.Goals.{in-More, in-Refused+in_ok-say_refused-in-Refused}
use Rattle.pb_serving.proofs.run_serve.serve_rows.Goals as goal

pub loop-init : goal.loop-init
loop-init g c = record {
  few = omega arith;
  many = omega arith;
  fewer = omega (arith, c.new-refused.ensures.all);
  sound = λ sound. sound;
  failures = λ tells. refl;
  legal = c.requires.legal;
  given = λ fits. omega arith;
  opening = refl;
  durable = c.requires.durable;
  grown = adds_none c.args.session.now.admission.now c.args.desk.now.desk.journal;
  progress = moved c.args.session.now.admission.now c.args.rows.now.left c.args.rows.now.left c.args.desk.now.desk.journal c.args.desk.now.desk.journal
      (g.W.Write.contents c.args.writer.now) (g.W.Write.contents c.args.writer.now) (g.W.Write.contents c.args.writer.now) 0 0 0 c.new-refused.result.all (refusals_of []) c.new-refused.result.counts
      refl refl c.new-refused.ensures.all c.new-refused.ensures.counts
      (started c.args.session.now.admission.now c.args.rows.now.left c.args.desk.now.desk.journal (g.W.Write.contents c.args.writer.now));
  any_moment = λ tells. begins g.D.Device.moment g.D.Device.left_since g.D.Device.seen g.D.Device.may_leave (g.met.D.Device.only_now) c.args.desk.now (c.requires.durable tells);
}

pub answer-requires-clause-clerks : goal.answer-requires-clause-clerks
answer-requires-clause-clerks g c =
    let batch = c.next_batch-end.ensures.batch in
    asks_clerks c.args.session.now.admission.now batch.rows _ batch.each

pub returns-in_err-answer-clause-stopped : goal.returns-in_err-answer-clause-stopped
returns-in_err-answer-clause-stopped g c =
    let inv = c.loop.invariant in
    let old = c.args.desk.now in
    let mid = c.loop.desk in
    let new = c.answer.new.desk in
    let batch = c.next_batch-end.ensures.batch in
    let asks = c.next_batch-end.new.asks.items in
    let asked = c.answer.ensures.asked in
    let why = c.in_err-answer.field-0.0 in
    let end = c.next_batch-end.result in
    let some : 0 < length asks = c.in_err-answer.ensures.some in
    let grown : new.desk.journal ≡ mid.desk.journal ++ entries_of asks asked.0 = asked.1 in
    let full : why ≡ Serving Output → length asked.0 ≡ length asks = λ is. (asked.2 (c.in_err-answer.was ∙ ap (λ (f : AppFault). Err f) is)).0 in
    let begun : why ≡ Serving Output → Begun (g.W.Write.contents c.loop.writer) (g.W.Write.contents c.answer.new.writer) (text_of_rows (rows_from (length mid.desk.journal + 1) (entries_of asks asked.0))) =
    λ is. let more = asked.2 (c.in_err-answer.was ∙ ap (λ (f : AppFault). Err f) is) in (more.1, more.2) in
    let given : HasGiven c.args.rows.now c.next_batch-end.new.rows (c.loop.row + (length asks + refused end)) = gives c.args.rows.now c.loop.rows c.next_batch-end.new.rows c.loop.row (length asks + refused end) inv.given c.next_batch-end.ensures.given in
    let left = unanswered c.args.session.now.admission.now why c.args.rows.now c.next_batch-end.new.rows c.loop.rows.left c.next_batch-end.new.rows.left old.desk.journal mid.desk.journal new.desk.journal (g.W.Write.contents c.args.writer.now) (g.W.Write.contents c.loop.writer) c.loop.row c.loop.refused.all c.loop.refused.counts
    batch.rows asks asked.0 end inv.progress batch.each batch.goes_on c.next_batch-end.ensures.few some grown full given c.in_err-answer.ensures.other (g.W.Write.contents c.answer.new.writer) begun in
    if_err c.from_residual.result why _ c.from_residual.ensures.1 (
      mid.desk.journal,
      text_so_far c.args.session.now.admission.now c.args.rows.now.left c.loop.rows.left old.desk.journal mid.desk.journal (g.W.Write.contents c.args.writer.now) (g.W.Write.contents c.loop.writer) c.loop.row c.loop.refused.all c.loop.refused.counts inv.progress,
      left.0,
      left.1,
      λ other. subst (λ (w : Option (List ℕ)). Appends (g.W.Write.contents c.args.writer.now) w (text_so_far c.args.session.now.admission.now c.args.rows.now.left c.loop.rows.left old.desk.journal mid.desk.journal (g.W.Write.contents c.args.writer.now) (g.W.Write.contents c.loop.writer) c.loop.row c.loop.refused.all c.loop.refused.counts inv.progress))
          (sym (c.in_err-answer.ensures.unsaid other)) inv.progress.said,
      left.2,
      λ tells f there. kept_first g.D.Device.moment g.D.Device.left_since g.D.Device.seen g.D.Device.may_leave g.met.D.Device.counts_now mid new (entries_of c.next_batch-end.new.asks.items asked.0) c.answer.ensures.opening asked.1 (c.answer.ensures.any_moment tells) f there,
    )

pub returns-in_err-answer-clause-any_moment : goal.returns-in_err-answer-clause-any_moment
returns-in_err-answer-clause-any_moment g c = λ tells.
    let inv = c.loop.invariant in
    let old = c.args.desk.now in
    let mid = c.loop.desk in
    let asked = c.answer.ensures.asked in
    goes_on g.D.Device.moment g.D.Device.left_since g.D.Device.seen g.D.Device.may_leave old mid c.answer.new.desk inv.grown.0 (entries_of c.next_batch-end.new.asks.items asked.0) inv.opening inv.grown.1 asked.1 (inv.any_moment tells) (c.answer.ensures.any_moment tells)

pub returns-in-Over-clause-any_moment : goal.returns-in-Over-clause-any_moment
returns-in-Over-clause-any_moment g c = λ tells.
    let inv = c.loop.invariant in
    let old = c.args.desk.now in
    let mid = c.loop.desk in
    let asked = c.answer.ensures.asked in
    goes_on g.D.Device.moment g.D.Device.left_since g.D.Device.seen g.D.Device.may_leave old mid c.answer.new.desk inv.grown.0 (entries_of c.next_batch-end.new.asks.items asked.0) inv.opening inv.grown.1 asked.1 (inv.any_moment tells) (c.answer.ensures.any_moment tells)

pub returns-in-ReadFailed-clause-any_moment : goal.returns-in-ReadFailed-clause-any_moment
returns-in-ReadFailed-clause-any_moment g c = λ tells.
    let inv = c.loop.invariant in
    let old = c.args.desk.now in
    let mid = c.loop.desk in
    let asked = c.answer.ensures.asked in
    goes_on g.D.Device.moment g.D.Device.left_since g.D.Device.seen g.D.Device.may_leave old mid c.answer.new.desk inv.grown.0 (entries_of c.next_batch-end.new.asks.items asked.0) inv.opening inv.grown.1 asked.1 (inv.any_moment tells) (c.answer.ensures.any_moment tells)

pub returns-in-NoMemory-clause-any_moment : goal.returns-in-NoMemory-clause-any_moment
returns-in-NoMemory-clause-any_moment g c = λ tells.
    let inv = c.loop.invariant in
    let old = c.args.desk.now in
    let mid = c.loop.desk in
    let asked = c.answer.ensures.asked in
    goes_on g.D.Device.moment g.D.Device.left_since g.D.Device.seen g.D.Device.may_leave old mid c.answer.new.desk inv.grown.0 (entries_of c.next_batch-end.new.asks.items asked.0) inv.opening inv.grown.1 asked.1 (inv.any_moment tells) (c.answer.ensures.any_moment tells)

pub returns-in_err-say_refused-in-Refused-clause-any_moment : goal.returns-in_err-say_refused-in-Refused-clause-any_moment
returns-in_err-say_refused-in-Refused-clause-any_moment g c = λ tells.
    let inv = c.loop.invariant in
    let old = c.args.desk.now in
    let mid = c.loop.desk in
    let asked = c.answer.ensures.asked in
    goes_on g.D.Device.moment g.D.Device.left_since g.D.Device.seen g.D.Device.may_leave old mid c.answer.new.desk inv.grown.0 (entries_of c.next_batch-end.new.asks.items asked.0) inv.opening inv.grown.1 asked.1 (inv.any_moment tells) (c.answer.ensures.any_moment tells)

pub returns-in-Over-clause-answered : goal.returns-in-Over-clause-answered
returns-in-Over-clause-answered g c =
    let inv = c.loop.invariant in
    let old = c.args.desk.now in
    let mid = c.loop.desk in
    let batch = c.next_batch-end.ensures.batch in
    let said = c.in_ok-answer.ensures.said in
    let asks = c.next_batch-end.new.asks.items in
    let grown : c.answer.new.desk.desk.journal ≡ mid.desk.journal ++ entries_of asks said.0 = said.2 in
    let count : length said.0 ≡ length asks = said.1 in
    let text = said.3 in
    let ends = subst (λ (e : BatchEnd). EndsBy c.args.session.now.admission.now e c.loop.rows.left batch.rows c.next_batch-end.new.rows.left) c.in-Over.is batch.goes_on in
    let given = gives c.args.rows.now c.loop.rows c.next_batch-end.new.rows c.loop.row (length asks + refused end.Over) inv.given (subst (λ (e : BatchEnd). HasGiven c.loop.rows c.next_batch-end.new.rows (length asks + refused e)) c.in-Over.is c.next_batch-end.ensures.given) in
    let sizes : c.loop.row + (length asks + 0) ≡ c.loop.row + length asks = omega arith in
    done c.args.session.now.admission.now c.args.rows.now c.next_batch-end.new.rows ends.0 old.desk.journal c.answer.new.desk.desk.journal (g.W.Write.contents c.args.writer.now) (g.W.Write.contents c.answer.new.writer) (c.loop.row + length asks) c.loop.refused.all c.loop.refused.counts
    (batch_more c.args.session.now.admission.now c.args.rows.now.left c.loop.rows.left ends.0 old.desk.journal mid.desk.journal c.answer.new.desk.desk.journal
    (g.W.Write.contents c.args.writer.now) (g.W.Write.contents c.loop.writer) (g.W.Write.contents c.answer.new.writer) c.loop.row c.loop.refused.all c.loop.refused.counts
    batch.rows asks said.0 inv.progress ends.1 batch.each count grown text) ends.2 (subst (λ (n : ℕ). HasGiven c.args.rows.now c.next_batch-end.new.rows n) sizes given)

pub returns-in-ReadFailed-clause-stopped : goal.returns-in-ReadFailed-clause-stopped
returns-in-ReadFailed-clause-stopped g c =
    let inv = c.loop.invariant in
    let old = c.args.desk.now in
    let mid = c.loop.desk in
    let batch = c.next_batch-end.ensures.batch in
    let said = c.in_ok-answer.ensures.said in
    let asks = c.next_batch-end.new.asks.items in
    let grown : c.answer.new.desk.desk.journal ≡ mid.desk.journal ++ entries_of asks said.0 = said.2 in
    let count : length said.0 ≡ length asks = said.1 in
    let text = said.3 in
    let size : c.len-asking.result ≡ length asks = c.len-asking.ensures ∙ c.next_batch-end.new.asks.ok.0 in
    let new = c.answer.new.desk in
    let ends = subst (λ (e : BatchEnd). EndsBy c.args.session.now.admission.now e c.loop.rows.left batch.rows c.next_batch-end.new.rows.left) c.in-ReadFailed.is batch.goes_on in
    let so_far = batch_more c.args.session.now.admission.now c.args.rows.now.left c.loop.rows.left ends.0 old.desk.journal mid.desk.journal c.answer.new.desk.desk.journal
    (g.W.Write.contents c.args.writer.now) (g.W.Write.contents c.loop.writer) (g.W.Write.contents c.answer.new.writer) c.loop.row c.loop.refused.all c.loop.refused.counts
    batch.rows asks said.0 inv.progress ends.1 batch.each count grown text in
    let given = gives c.args.rows.now c.loop.rows c.next_batch-end.new.rows c.loop.row (length asks + refused end.ReadFailed) inv.given (subst (λ (e : BatchEnd). HasGiven c.loop.rows c.next_batch-end.new.rows (length asks + refused e)) c.in-ReadFailed.is c.next_batch-end.ensures.given) in
    let sizes : c.loop.row + (length asks + 0) ≡ c.loop.row + length asks = omega arith in (
      new.desk.journal,
      text_so_far c.args.session.now.admission.now c.args.rows.now.left ends.0 old.desk.journal new.desk.journal (g.W.Write.contents c.args.writer.now) (g.W.Write.contents c.answer.new.writer) (c.loop.row + length asks) c.loop.refused.all c.loop.refused.counts so_far,
      [],
      halts_here c.args.session.now.admission.now c.read_failed.result c.args.rows.now c.next_batch-end.new.rows ends.0 old.desk.journal new.desk.journal (g.W.Write.contents c.args.writer.now) (g.W.Write.contents c.answer.new.writer) (c.loop.row + length asks) c.loop.refused.all c.loop.refused.counts so_far
          (subst (λ (n : ℕ). HasGiven c.args.rows.now c.next_batch-end.new.rows n) sizes given)
          (λ answered is. subst (λ (fault : AppFault). IsBehind fault answered 0 0) (sym c.read_failed.ensures) (omega (arith, size, is), refl))
          (λ sound failed. (_, c.read_failed.ensures)),
      λ other. so_far.said,
      λ output. absurd (output_not_script output c.read_failed.ensures),
      λ tells f left. kept_all g.D.Device.moment g.D.Device.left_since g.D.Device.seen g.D.Device.may_leave new (c.in_ok-answer.ensures.durable tells) f left,
    )

pub returns-in-NoMemory-clause-stopped : goal.returns-in-NoMemory-clause-stopped
returns-in-NoMemory-clause-stopped g c =
    let inv = c.loop.invariant in
    let old = c.args.desk.now in
    let mid = c.loop.desk in
    let batch = c.next_batch-end.ensures.batch in
    let said = c.in_ok-answer.ensures.said in
    let asks = c.next_batch-end.new.asks.items in
    let grown : c.answer.new.desk.desk.journal ≡ mid.desk.journal ++ entries_of asks said.0 = said.2 in
    let count : length said.0 ≡ length asks = said.1 in
    let text = said.3 in
    let new = c.answer.new.desk in
    let ends = subst (λ (e : BatchEnd). EndsBy c.args.session.now.admission.now e c.loop.rows.left batch.rows c.next_batch-end.new.rows.left) c.in-NoMemory.is batch.goes_on in
    let so_far = batch_more c.args.session.now.admission.now c.args.rows.now.left c.loop.rows.left ends.0 old.desk.journal mid.desk.journal c.answer.new.desk.desk.journal
    (g.W.Write.contents c.args.writer.now) (g.W.Write.contents c.loop.writer) (g.W.Write.contents c.answer.new.writer) c.loop.row c.loop.refused.all c.loop.refused.counts
    batch.rows asks said.0 inv.progress ends.1 batch.each count grown text in
    let given = gives c.args.rows.now c.loop.rows c.next_batch-end.new.rows c.loop.row (length asks + refused end.NoMemory) inv.given (subst (λ (e : BatchEnd). HasGiven c.loop.rows c.next_batch-end.new.rows (length asks + refused e)) c.in-NoMemory.is c.next_batch-end.ensures.given) in
    let sizes : c.loop.row + (length asks + 0) ≡ c.loop.row + length asks = omega arith in (
      new.desk.journal,
      text_so_far c.args.session.now.admission.now c.args.rows.now.left ends.0 old.desk.journal new.desk.journal (g.W.Write.contents c.args.writer.now) (g.W.Write.contents c.answer.new.writer) (c.loop.row + length asks) c.loop.refused.all c.loop.refused.counts so_far,
      [],
      halts_here c.args.session.now.admission.now Memory c.args.rows.now c.next_batch-end.new.rows ends.0 old.desk.journal new.desk.journal (g.W.Write.contents c.args.writer.now) (g.W.Write.contents c.answer.new.writer) (c.loop.row + length asks) c.loop.refused.all c.loop.refused.counts so_far
          (subst (λ (n : ℕ). HasGiven c.args.rows.now c.next_batch-end.new.rows n) sizes given)
          (λ answered is. (omega arith, inl refl))
          (λ sound failed. absurd (memory_not_failed c.in-NoMemory.is (c.next_batch-end.ensures.told (inv.sound sound) failed))),
      λ other. so_far.said,
      λ output. absurd (output_not_memory output),
      λ tells f left. kept_all g.D.Device.moment g.D.Device.left_since g.D.Device.seen g.D.Device.may_leave new (c.in_ok-answer.ensures.durable tells) f left,
    )

pub loop-preserved : goal.loop-preserved
loop-preserved g c =
    let inv = c.loop.invariant in
    let old = c.args.desk.now in
    let mid = c.loop.desk in
    let batch = c.next_batch-end.ensures.batch in
    let said = c.in_ok-answer.ensures.said in
    let asks = c.next_batch-end.new.asks.items in
    let grown : c.answer.new.desk.desk.journal ≡ mid.desk.journal ++ entries_of asks said.0 = said.2 in
    let count : length said.0 ≡ length asks = said.1 in
    let text = said.3 in
    let new = c.answer.new.desk in
    let asked = c.answer.ensures.asked in
    let size : c.len-asking.result ≡ length asks = c.len-asking.ensures ∙ c.next_batch-end.new.asks.ok.0 in
    let few : length asks ≤ 4096 = c.next_batch-end.ensures.few in
    let before = inv.few in
    let many = inv.many in
    let fewer = inv.fewer in
    let contents = g.W.Write.contents in
    let all = c.args.rows.now.left in
    let left = c.loop.rows.left in
    let after = c.next_batch-end.new.rows.left in
    let start = contents c.args.writer.now in
    let ends : (e : BatchEnd) → c.next_batch-end.result ≡ e → EndsBy c.args.session.now.admission.now e left batch.rows after = λ e is. subst (λ (x : BatchEnd). EndsBy c.args.session.now.admission.now x left batch.rows after) is batch.goes_on in
    let opening = c.answer.ensures.opening ∙ inv.opening in
    let failures : g.D.Device.tells → g.D.Device.failures new.file.device ≡ g.D.Device.failures old.file.device = λ tells.
    not_failed (g.D.Device.failures mid.file.device) (g.D.Device.failures new.file.device) (c.answer.ensures.steady tells) (λ rise. ok_not_err (c.in_ok-answer.ensures.told tells rise)) ∙ inv.failures tells in
    let admitted = entries_admitted c.args.session.now.admission.now batch.rows asks said.0 batch.each in
    let entries : AddsAdmitted c.args.session.now.admission.now old.desk.journal new.desk.journal = adds_more c.args.session.now.admission.now old.desk.journal mid.desk.journal new.desk.journal (entries_of asks said.0) inv.grown grown admitted in
    elim c.match-end.branch [
      | in-More w ↦
          let row = w.row-is in
          let bad = ap (λ (r : RefusedRows). r.all) w.refused-is in
          let reasons = ap (λ (r : RefusedRows). r.counts) w.refused-is in
          let some = c.next_batch-end.ensures.some w.in-More.is in
          record {
            few = omega (arith, row, size, few, before);
            many = omega (arith, row, size, some, many);
            fewer = omega (arith, row, bad, size, fewer);
            sound = λ sound failed. more_not_failed w.in-More.is (c.next_batch-end.ensures.told (inv.sound sound) failed);
            failures = failures;
            legal = c.answer.ensures.legal;
            given = subst (λ (n : ℕ). HasGiven c.args.rows.now c.next_batch-end.new.rows n) (omega (arith, row, size)) (gives c.args.rows.now c.loop.rows c.next_batch-end.new.rows c.loop.row (length asks + refused end.More) inv.given
                (subst (λ (e : BatchEnd). HasGiven c.loop.rows c.next_batch-end.new.rows (length asks + refused e)) w.in-More.is c.next_batch-end.ensures.given));
            opening = opening;
            durable = λ tells. c.in_ok-answer.ensures.durable tells;
            grown = entries;
            progress = moved c.args.session.now.admission.now all after old.desk.journal new.desk.journal start (contents c.answer.new.writer) (contents c.match-end.writer) (c.loop.row + length asks) c.loop.refused.all c.match-end.row c.match-end.refused.all c.loop.refused.counts c.match-end.refused.counts
                (ap contents w.writer-is) (omega (arith, row, size)) bad reasons
                (batch_more c.args.session.now.admission.now all left after old.desk.journal mid.desk.journal new.desk.journal start (contents c.loop.writer) (contents c.answer.new.writer) c.loop.row c.loop.refused.all c.loop.refused.counts
                batch.rows asks said.0 inv.progress (ends end.More w.in-More.is) batch.each count grown text);
            any_moment = λ tells. goes_on g.D.Device.moment g.D.Device.left_since g.D.Device.seen g.D.Device.may_leave old mid new inv.grown.0 (entries_of c.next_batch-end.new.asks.items asked.0) inv.opening inv.grown.1 asked.1 (inv.any_moment tells) (c.answer.ensures.any_moment tells);
          }
      | in-Refused+in_ok-say_refused-in-Refused w ↦
          let row = w.row-is in
          let bad = ap (λ (r : RefusedRows). r.all) w.refused-is ∙ w.add.ensures.all in
          let reasons = ap (λ (r : RefusedRows). r.counts) w.refused-is ∙ w.add.ensures.counts in
          let here = ends (end.Refused w.in-Refused.why) w.in-Refused.is in
          let between = gone_mid left after batch.rows here.0 here.2 in
          let at : c.loop.row + c.len-asking.result + 1 ≡ c.loop.row + length asks + 1 = omega (arith, size) in
          let line_is = subst (λ (n : ℕ). Appends (contents c.answer.new.writer) (contents w.say_refused.new.writer) (line (told (Script (fault_of_row w.in-Refused.why n))).1)) at w.in_ok-say_refused-in-Refused.ensures.ok in
          record {
            few = omega (arith, row, size, few, before);
            many = omega (arith, row, size, many);
            fewer = omega (arith, row, bad, size, fewer);
            sound = λ sound failed. refused_not_failed w.in-Refused.is (c.next_batch-end.ensures.told (inv.sound sound) failed);
            failures = failures;
            legal = c.answer.ensures.legal;
            given = subst (λ (n : ℕ). HasGiven c.args.rows.now c.next_batch-end.new.rows n) (omega (arith, row, size)) (gives c.args.rows.now c.loop.rows c.next_batch-end.new.rows c.loop.row (length asks + refused (end.Refused w.in-Refused.why)) inv.given
                (subst (λ (e : BatchEnd). HasGiven c.loop.rows c.next_batch-end.new.rows (length asks + refused e)) w.in-Refused.is c.next_batch-end.ensures.given));
            opening = opening;
            durable = λ tells. c.in_ok-answer.ensures.durable tells;
            grown = entries;
            progress = moved c.args.session.now.admission.now all after old.desk.journal new.desk.journal start (contents w.say_refused.new.writer) (contents c.match-end.writer) (c.loop.row + length asks + 1) (c.loop.refused.all + 1) c.match-end.row c.match-end.refused.all
                (with_refusal c.loop.refused.counts w.in-Refused.why) c.match-end.refused.counts
                (ap contents w.writer-is) (omega (arith, row, size)) bad reasons
                (bad_more c.args.session.now.admission.now all between.0 after old.desk.journal new.desk.journal new.desk.journal start (contents c.answer.new.writer) (contents w.say_refused.new.writer) (c.loop.row + length asks) c.loop.refused.all c.loop.refused.counts
                here.0 w.in-Refused.why
                (batch_more c.args.session.now.admission.now all left between.0 old.desk.journal mid.desk.journal new.desk.journal start (contents c.loop.writer) (contents c.answer.new.writer) c.loop.row c.loop.refused.all c.loop.refused.counts
                batch.rows asks said.0 inv.progress between.1 batch.each count grown text)
                between.2 here.1 line_is (omega (arith, size, few, before, c.loop-test.true)));
            any_moment = λ tells. goes_on g.D.Device.moment g.D.Device.left_since g.D.Device.seen g.D.Device.may_leave old mid new inv.grown.0 (entries_of c.next_batch-end.new.asks.items asked.0) inv.opening inv.grown.1 asked.1 (inv.any_moment tells) (c.answer.ensures.any_moment tells);
          }
    ]

pub returns-clause-stopped : goal.returns-clause-stopped
returns-clause-stopped g c =
    let inv = c.loop.invariant in
    let old = c.args.desk.now in
    let mid = c.loop.desk in (
      mid.desk.journal,
      text_so_far c.args.session.now.admission.now c.args.rows.now.left c.loop.rows.left old.desk.journal mid.desk.journal (g.W.Write.contents c.args.writer.now) (g.W.Write.contents c.loop.writer) c.loop.row c.loop.refused.all c.loop.refused.counts inv.progress,
      [],
      halts_here c.args.session.now.admission.now (Script TooManyRows) c.args.rows.now c.loop.rows c.loop.rows.left old.desk.journal mid.desk.journal (g.W.Write.contents c.args.writer.now) (g.W.Write.contents c.loop.writer) c.loop.row c.loop.refused.all c.loop.refused.counts inv.progress
          inv.given (λ answered is. let many = inv.many in (omega (arith, is, many, c.loop-test.false), refl))
          (λ sound failed. absurd (inv.sound sound failed)),
      λ other. inv.progress.said,
      λ output. absurd (output_not_script output refl),
      λ tells f left. kept_all g.D.Device.moment g.D.Device.left_since g.D.Device.seen g.D.Device.may_leave mid (inv.durable tells) f left,
    )

pub returns-in_err-say_refused-in-Refused-clause-stopped : goal.returns-in_err-say_refused-in-Refused-clause-stopped
returns-in_err-say_refused-in-Refused-clause-stopped g c =
    let inv = c.loop.invariant in
    let ad = c.args.session.now.admission.now in
    let old = c.args.desk.now in
    let mid = c.loop.desk in
    let new = c.answer.new.desk in
    let contents = g.W.Write.contents in
    let batch = c.next_batch-end.ensures.batch in
    let said = c.in_ok-answer.ensures.said in
    let asks = c.next_batch-end.new.asks.items in
    let grown : new.desk.journal ≡ mid.desk.journal ++ entries_of asks said.0 = said.2 in
    let count : length said.0 ≡ length asks = said.1 in
    let text = said.3 in
    let here = subst (λ (e : BatchEnd). EndsBy ad e c.loop.rows.left batch.rows c.next_batch-end.new.rows.left) c.in-Refused.is batch.goes_on in
    let between = gone_mid c.loop.rows.left c.next_batch-end.new.rows.left batch.rows here.0 here.2 in
    let so_far = batch_more ad c.args.rows.now.left c.loop.rows.left between.0 old.desk.journal mid.desk.journal new.desk.journal (contents c.args.writer.now) (contents c.loop.writer) (contents c.answer.new.writer) c.loop.row c.loop.refused.all c.loop.refused.counts
    batch.rows asks said.0 inv.progress between.1 batch.each count grown text in
    let given = gives c.args.rows.now c.loop.rows c.next_batch-end.new.rows c.loop.row (length asks + refused (end.Refused c.in-Refused.why)) inv.given (subst (λ (e : BatchEnd). HasGiven c.loop.rows c.next_batch-end.new.rows (length asks + refused e)) c.in-Refused.is c.next_batch-end.ensures.given) in
    let sizes : c.loop.row + (length asks + 1) ≡ c.loop.row + length asks + (1 + 0) = omega arith in
    let why = c.in_err-say_refused-in-Refused.field-0.0 in
    let size : c.len-asking.result ≡ length asks = c.len-asking.ensures ∙ c.next_batch-end.new.asks.ok.0 in
    let cause = c.in_err-say_refused-in-Refused.ensures.fault in
    let whys : List Outcome = Err c.in-Refused.why ∷ [] in
    if_err c.from_residual-in_err-say_refused-in-Refused.result why _ c.from_residual-in_err-say_refused-in-Refused.ensures.1 (
      new.desk.journal,
      text_so_far ad c.args.rows.now.left between.0 old.desk.journal new.desk.journal (contents c.args.writer.now) (contents c.answer.new.writer) (c.loop.row + length asks) c.loop.refused.all c.loop.refused.counts so_far,
      text_behind ad c.args.rows.now.left between.0 old.desk.journal new.desk.journal (contents c.args.writer.now) (contents c.answer.new.writer) (c.loop.row + length asks) c.loop.refused.all c.loop.refused.counts so_far whys,
      halts ad why c.args.rows.now c.next_batch-end.new.rows between.0 c.next_batch-end.new.rows.left old.desk.journal new.desk.journal new.desk.journal (contents c.args.writer.now) (contents c.answer.new.writer) (c.loop.row + length asks) c.loop.refused.all c.loop.refused.counts
          (here.0 ∷ []) [] whys so_far between.2 (here.1, tt) (sym (append-nil new.desk.journal)) (subst (λ (n : ℕ). HasGiven c.args.rows.now c.next_batch-end.new.rows n) sizes given)
          (λ answered same. behind_refused cause answered)
          (λ sound failed none. absurd (cons_not_nil none)),
      λ other. subst (λ (w : Option (List ℕ)). Appends (contents c.args.writer.now) w (answers_from (length old.desk.journal + 1) 1 so_far.became)) (sym (c.in_err-say_refused-in-Refused.ensures.unsaid other)) so_far.said,
      λ output. refused_begun ad c.args.rows.now.left between.0 old.desk.journal new.desk.journal (contents c.args.writer.now) (contents c.answer.new.writer) (contents c.say_refused.new.writer) (c.loop.row + length asks) c.loop.refused.all c.loop.refused.counts so_far
          c.in-Refused.why (c.loop.row + c.len-asking.result + 1) (omega (arith, size)) (c.in_err-say_refused-in-Refused.ensures.front output),
      λ tells f left. kept_all g.D.Device.moment g.D.Device.left_since g.D.Device.seen g.D.Device.may_leave new (c.in_ok-answer.ensures.durable tells) f left,
    )

pub returns-in_err-answer-clause-grown : goal.returns-in_err-answer-clause-grown
returns-in_err-answer-clause-grown g c =
    let inv = c.loop.invariant in
    let batch = c.next_batch-end.ensures.batch in
    let asked = c.answer.ensures.asked in
    adds_more c.args.session.now.admission.now c.args.desk.now.desk.journal c.loop.desk.desk.journal c.answer.new.desk.desk.journal (entries_of c.next_batch-end.new.asks.items asked.0) inv.grown asked.1
    (entries_admitted c.args.session.now.admission.now batch.rows c.next_batch-end.new.asks.items asked.0 batch.each)

pub returns-in-Over-clause-grown : goal.returns-in-Over-clause-grown
returns-in-Over-clause-grown g c =
    let inv = c.loop.invariant in
    let batch = c.next_batch-end.ensures.batch in
    let asked = c.answer.ensures.asked in
    adds_more c.args.session.now.admission.now c.args.desk.now.desk.journal c.loop.desk.desk.journal c.answer.new.desk.desk.journal (entries_of c.next_batch-end.new.asks.items asked.0) inv.grown asked.1
    (entries_admitted c.args.session.now.admission.now batch.rows c.next_batch-end.new.asks.items asked.0 batch.each)

pub returns-in-ReadFailed-clause-grown : goal.returns-in-ReadFailed-clause-grown
returns-in-ReadFailed-clause-grown g c =
    let inv = c.loop.invariant in
    let batch = c.next_batch-end.ensures.batch in
    let asked = c.answer.ensures.asked in
    adds_more c.args.session.now.admission.now c.args.desk.now.desk.journal c.loop.desk.desk.journal c.answer.new.desk.desk.journal (entries_of c.next_batch-end.new.asks.items asked.0) inv.grown asked.1
    (entries_admitted c.args.session.now.admission.now batch.rows c.next_batch-end.new.asks.items asked.0 batch.each)

pub returns-in-NoMemory-clause-grown : goal.returns-in-NoMemory-clause-grown
returns-in-NoMemory-clause-grown g c =
    let inv = c.loop.invariant in
    let batch = c.next_batch-end.ensures.batch in
    let asked = c.answer.ensures.asked in
    adds_more c.args.session.now.admission.now c.args.desk.now.desk.journal c.loop.desk.desk.journal c.answer.new.desk.desk.journal (entries_of c.next_batch-end.new.asks.items asked.0) inv.grown asked.1
    (entries_admitted c.args.session.now.admission.now batch.rows c.next_batch-end.new.asks.items asked.0 batch.each)

pub returns-in_err-say_refused-in-Refused-clause-grown : goal.returns-in_err-say_refused-in-Refused-clause-grown
returns-in_err-say_refused-in-Refused-clause-grown g c =
    let inv = c.loop.invariant in
    let batch = c.next_batch-end.ensures.batch in
    let asked = c.answer.ensures.asked in
    adds_more c.args.session.now.admission.now c.args.desk.now.desk.journal c.loop.desk.desk.journal c.answer.new.desk.desk.journal (entries_of c.next_batch-end.new.asks.items asked.0) inv.grown asked.1
    (entries_admitted c.args.session.now.admission.now batch.rows c.next_batch-end.new.asks.items asked.0 batch.each)

pub returns-in_err-answer-clause-write : goal.returns-in_err-answer-clause-write
returns-in_err-answer-clause-write g c = λ tells said.
    let inv = c.loop.invariant in
    let old = c.args.desk.now in
    let mid = c.loop.desk in
    let new = c.answer.new.desk in
    let asked = c.answer.ensures.asked in
    let why = c.in_err-answer.field-0.0 in
    let same : Write ≡ why = subst (λ r. IsErrAnd r (λ x. x ≡ why)) said c.from_residual.ensures.1 in
    let size : length c.next_batch-end.new.asks.items ≤ 4096 = c.next_batch-end.ensures.few in
    has_cause (g.D.Device.failures old.file.device) (g.D.Device.failures mid.file.device) (g.D.Device.failures new.file.device) mid.desk new.desk (length c.next_batch-end.new.asks.items) (entries_of c.next_batch-end.new.asks.items asked.0)
    (inv.failures tells) size c.answer.ensures.room c.answer.ensures.opening asked.1 (c.answer.ensures.write tells (c.in_err-answer.was ∙ ap (λ (f : AppFault). Err f) (sym same)))

pub returns-in_err-answer-clause-told : goal.returns-in_err-answer-clause-told
returns-in_err-answer-clause-told g c = λ tells failed.
    let inv = c.loop.invariant in
    let before = inv.failures tells in
    let said = c.answer.ensures.told tells (omega (arith, before, failed)) in
    err_is c.from_residual.result c.in_err-answer.field-0.0 Write c.from_residual.ensures.1 (same_err c.in_err-answer.was said)

pub returns-in-Over-clause-output : goal.returns-in-Over-clause-output
returns-in-Over-clause-output g c = λ tells said. c.in_ok-answer.ensures.durable tells

pub returns-in-ReadFailed-clause-output : goal.returns-in-ReadFailed-clause-output
returns-in-ReadFailed-clause-output g c = λ tells said. c.in_ok-answer.ensures.durable tells

pub returns-in-NoMemory-clause-output : goal.returns-in-NoMemory-clause-output
returns-in-NoMemory-clause-output g c = λ tells said. c.in_ok-answer.ensures.durable tells

pub returns-clause-output : goal.returns-clause-output
returns-clause-output g c = λ tells said. c.loop.invariant.durable tells

pub returns-in-Over-clause-steady : goal.returns-in-Over-clause-steady
returns-in-Over-clause-steady g c = λ tells. subst (λ (n : ℕ). n ≤ g.D.Device.failures c.answer.new.desk.file.device) (c.loop.invariant.failures tells) (c.answer.ensures.steady tells)

pub returns-in-ReadFailed-clause-steady : goal.returns-in-ReadFailed-clause-steady
returns-in-ReadFailed-clause-steady g c = λ tells. subst (λ (n : ℕ). n ≤ g.D.Device.failures c.answer.new.desk.file.device) (c.loop.invariant.failures tells) (c.answer.ensures.steady tells)

pub returns-in-NoMemory-clause-steady : goal.returns-in-NoMemory-clause-steady
returns-in-NoMemory-clause-steady g c = λ tells. subst (λ (n : ℕ). n ≤ g.D.Device.failures c.answer.new.desk.file.device) (c.loop.invariant.failures tells) (c.answer.ensures.steady tells)

pub returns-in_err-answer-clause-steady : goal.returns-in_err-answer-clause-steady
returns-in_err-answer-clause-steady g c = λ tells. subst (λ (n : ℕ). n ≤ g.D.Device.failures c.answer.new.desk.file.device) (c.loop.invariant.failures tells) (c.answer.ensures.steady tells)

pub returns-in_err-say_refused-in-Refused-clause-steady : goal.returns-in_err-say_refused-in-Refused-clause-steady
returns-in_err-say_refused-in-Refused-clause-steady g c = λ tells. subst (λ (n : ℕ). n ≤ g.D.Device.failures c.answer.new.desk.file.device) (c.loop.invariant.failures tells) (c.answer.ensures.steady tells)

pub returns-in-Over-clause-write : goal.returns-in-Over-clause-write
returns-in-Over-clause-write g c = λ tells said. absurd (ok_not_err said)

pub returns-in-ReadFailed-clause-write : goal.returns-in-ReadFailed-clause-write
returns-in-ReadFailed-clause-write g c = λ tells said. absurd (script_not_write c.read_failed.ensures (same_err refl said))

pub returns-in-NoMemory-clause-write : goal.returns-in-NoMemory-clause-write
returns-in-NoMemory-clause-write g c = λ tells said. absurd (memory_not_write (same_err refl said))

pub returns-in-Over-clause-opening : goal.returns-in-Over-clause-opening
returns-in-Over-clause-opening g c = c.answer.ensures.opening ∙ c.loop.invariant.opening

pub returns-in-Over-clause-legal : goal.returns-in-Over-clause-legal
returns-in-Over-clause-legal g c = c.answer.ensures.legal

pub returns-in-ReadFailed-clause-opening : goal.returns-in-ReadFailed-clause-opening
returns-in-ReadFailed-clause-opening g c = c.answer.ensures.opening ∙ c.loop.invariant.opening

pub returns-in-ReadFailed-clause-legal : goal.returns-in-ReadFailed-clause-legal
returns-in-ReadFailed-clause-legal g c = c.answer.ensures.legal

pub returns-in-NoMemory-clause-opening : goal.returns-in-NoMemory-clause-opening
returns-in-NoMemory-clause-opening g c = c.answer.ensures.opening ∙ c.loop.invariant.opening

pub returns-in-NoMemory-clause-legal : goal.returns-in-NoMemory-clause-legal
returns-in-NoMemory-clause-legal g c = c.answer.ensures.legal

pub returns-in_err-say_refused-in-Refused-clause-opening : goal.returns-in_err-say_refused-in-Refused-clause-opening
returns-in_err-say_refused-in-Refused-clause-opening g c = c.answer.ensures.opening ∙ c.loop.invariant.opening

pub returns-in_err-say_refused-in-Refused-clause-legal : goal.returns-in_err-say_refused-in-Refused-clause-legal
returns-in_err-say_refused-in-Refused-clause-legal g c = c.answer.ensures.legal

pub returns-in_err-answer-clause-opening : goal.returns-in_err-answer-clause-opening
returns-in_err-answer-clause-opening g c = c.answer.ensures.opening ∙ c.loop.invariant.opening

pub returns-in_err-answer-clause-legal : goal.returns-in_err-answer-clause-legal
returns-in_err-answer-clause-legal g c = c.answer.ensures.legal

pub returns-in-Over-clause-told : goal.returns-in-Over-clause-told
returns-in-Over-clause-told g c = λ tells failed. absurd (ok_not_err (c.in_ok-answer.ensures.told tells (subst (λ (n : ℕ). n < g.D.Device.failures c.answer.new.desk.file.device) (sym (c.loop.invariant.failures tells)) failed)))

pub returns-in-ReadFailed-clause-told : goal.returns-in-ReadFailed-clause-told
returns-in-ReadFailed-clause-told g c = λ tells failed. absurd (ok_not_err (c.in_ok-answer.ensures.told tells (subst (λ (n : ℕ). n < g.D.Device.failures c.answer.new.desk.file.device) (sym (c.loop.invariant.failures tells)) failed)))

pub returns-in-NoMemory-clause-told : goal.returns-in-NoMemory-clause-told
returns-in-NoMemory-clause-told g c = λ tells failed. absurd (ok_not_err (c.in_ok-answer.ensures.told tells (subst (λ (n : ℕ). n < g.D.Device.failures c.answer.new.desk.file.device) (sym (c.loop.invariant.failures tells)) failed)))

pub returns-in_err-say_refused-in-Refused-clause-told : goal.returns-in_err-say_refused-in-Refused-clause-told
returns-in_err-say_refused-in-Refused-clause-told g c = λ tells failed. absurd (ok_not_err (c.in_ok-answer.ensures.told tells (subst (λ (n : ℕ). n < g.D.Device.failures c.answer.new.desk.file.device) (sym (c.loop.invariant.failures tells)) failed)))

pub returns-in-Over-clause-blame : goal.returns-in-Over-clause-blame
returns-in-Over-clause-blame g c = λ i said. absurd (ok_not_err said)

pub returns-in-NoMemory-clause-blame : goal.returns-in-NoMemory-clause-blame
returns-in-NoMemory-clause-blame g c = λ i said. absurd (memory_not_read (same_err refl said))

pub returns-in-ReadFailed-clause-blame : goal.returns-in-ReadFailed-clause-blame
returns-in-ReadFailed-clause-blame g c = λ i said. c.next_batch-end.ensures.blame c.in-ReadFailed.is

pub returns-in_err-say_refused-in-Refused-clause-blame : goal.returns-in_err-say_refused-in-Refused-clause-blame
returns-in_err-say_refused-in-Refused-clause-blame g c = λ i said. absurd (refused_not_read c.in_err-say_refused-in-Refused.ensures.fault (told_is c.from_residual-in_err-say_refused-in-Refused.ensures.1 said))

pub returns-in_err-say_refused-in-Refused-clause-write : goal.returns-in_err-say_refused-in-Refused-clause-write
returns-in_err-say_refused-in-Refused-clause-write g c = λ tells said. absurd (refused_not_write c.in_err-say_refused-in-Refused.ensures.fault (told_is c.from_residual-in_err-say_refused-in-Refused.ensures.1 said))

pub returns-in_err-say_refused-in-Refused-clause-output : goal.returns-in_err-say_refused-in-Refused-clause-output
returns-in_err-say_refused-in-Refused-clause-output g c = λ tells said. c.in_ok-answer.ensures.durable tells

pub returns-in_err-answer-clause-blame : goal.returns-in_err-answer-clause-blame
returns-in_err-answer-clause-blame g c = λ i said. absurd (c.answer.ensures.not_read i (c.in_err-answer.was ∙ ap (λ (f : AppFault). Err f) (told_is c.from_residual.ensures.1 said)))

pub returns-in_err-answer-clause-output : goal.returns-in_err-answer-clause-output
returns-in_err-answer-clause-output g c = λ tells said. c.answer.ensures.output tells (c.in_err-answer.was ∙ ap (λ (f : AppFault). Err f) (told_is c.from_residual.ensures.1 said))

pub returns-in-Over-clause-read : goal.returns-in-Over-clause-read
returns-in-Over-clause-read g c = c.next_batch-end.ensures.over c.in-Over.is

pub returns-in-Over-clause-durable : goal.returns-in-Over-clause-durable
returns-in-Over-clause-durable g c = λ tells. c.in_ok-answer.ensures.durable tells

pub returns-in-ReadFailed-clause-read : goal.returns-in-ReadFailed-clause-read
returns-in-ReadFailed-clause-read g c = tt

pub returns-in-ReadFailed-clause-answered : goal.returns-in-ReadFailed-clause-answered
returns-in-ReadFailed-clause-answered g c = tt

pub returns-in-ReadFailed-clause-durable : goal.returns-in-ReadFailed-clause-durable
returns-in-ReadFailed-clause-durable g c = λ tells. tt

pub returns-in-NoMemory-clause-read : goal.returns-in-NoMemory-clause-read
returns-in-NoMemory-clause-read g c = tt

pub returns-in-NoMemory-clause-answered : goal.returns-in-NoMemory-clause-answered
returns-in-NoMemory-clause-answered g c = tt

pub returns-in-NoMemory-clause-durable : goal.returns-in-NoMemory-clause-durable
returns-in-NoMemory-clause-durable g c = λ tells. tt

pub returns-in-Over-clause-stopped : goal.returns-in-Over-clause-stopped
returns-in-Over-clause-stopped g c = tt
