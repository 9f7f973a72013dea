use Rattle.std.proofs.Common.{◌≡◌, ◌∙◌, ◌++◌, ◌+◌, ◌≤◌, ℕ, length, List, [], Err, inl, arith, refl, ap, sym, subst}
use Rattle.pb_durable.proofs.Openings.{if_err}
use Rattle.pb_durable.specs.declared.durable_fault.DurableFault.{DurableFault}
use Rattle.pb_durable.proofs.Durable.{stays}
use Rattle.pb_durable.proofs.Moments.{started}
use Rattle.pb_durable.specs.Inner.Either.{StandsForEither}
use Rattle.pb_desk.specs.Rows.{journal_text}
use Rattle.pb_faults.specs.declared.fault.AppFault.{AppFault}
use Rattle.pb_faults.specs.declared.fault.AppFault.TheVariants.{Serving, Write}
use Rattle.pb_faults.specs.declared.serving_fault.ServingFault.TheVariants.{Output}
use Rattle.pb_serving.specs.Answered.{IsBehind}
use Rattle.pb_serving.specs.Inner.Durable.{of_durable}
use Rattle.pb_serving.proofs.Causes.{behind_durable, cause_of, failed_is, not_durable, not_output, told_is}
use Rattle.std.specs.Io.KnownBytes.{Appends}
use Rattle.pb_desk.specs.declared.version.Version.TheVariants.{One}
use Rattle.pb_durable.specs.Inner.Entries.{entries_of}
use Rattle.pb_serving.proofs.Apart.{ok_not_err, output_not_read, same_err}
use Rattle.pb_serving.proofs.Answering.{nothing_said, said_rows, Begun}
use Rattle.pb_durable.specs.declared.clerk_request.ClerkRequest.{ClerkRequest}
use Rattle.std.proofs.lemmas.List.{append-nil, nil_from_length}
use Rattle.std.proofs.lemmas.Grind.{common_steps}
use Rattle.pb_desk.specs.Rows.{rows_from}
use Rattle.pb_rows.specs.Writing.{text_of_rows}
use Rattle.pb_serving.proofs.run_serve.answer.Goals as goal

pub returns-clause-said : goal.returns-clause-said
returns-clause-said g c =
    let old = c.args.desk.now.desk.journal in
    let recorded = c.in-Ok.recorded in
    let answers = recorded.answers.items in
    let answered = c.in-Ok.ensures.answered in
    let rows = said_rows old c.serve_all.new.self.desk.journal (entries_of c.args.asks.items answers) recorded.rows.items answered.1 (c.in-Ok.ensures.rows One) in (
      answers,
      answered.0,
      answered.1,
      subst (Appends (g.W.Write.contents c.args.writer.now) (g.W.Write.contents c.write_out.new.writer)) (c.as_slice.ensures.value ∙ rows) c.in_ok-write_out.ensures.ok,
    )

pub returns-then-is_empty-clause-said : goal.returns-then-is_empty-clause-said
returns-then-is_empty-clause-said g c =
    let asks = c.args.asks.items in
    let old = c.args.desk.now.desk.journal in
    let w = g.W.Write.contents c.args.writer.now in
    let none : asks ≡ [] = nil_from_length asks (grind (arith, common_steps, c.is_empty.ensures, c.if-is_empty.true)) in (
      [],
      sym (ap length none),
      subst (λ (a : List ClerkRequest). old ≡ old ++ entries_of a []) (sym none) (sym (append-nil old)),
      subst (λ (a : List ClerkRequest). Appends w w (text_of_rows (rows_from (length old + 1) (entries_of a [])))) (sym none) (nothing_said w (length old + 1)),
    )

pub returns-in-Err-clause-other : goal.returns-in-Err-clause-other
returns-in-Err-clause-other g c =
    let why = c.in-Err.fault in
    subst (λ (fault : AppFault). (answered served unserved : ℕ) → served + unserved ≤ 4097 → (fault ≡ Serving Output → unserved ≡ 0) → IsBehind fault answered served unserved)
    (sym c.unanswered.ensures) (λ answered served unserved few none. behind_durable why answered served unserved few)

pub returns-in_err-write_out-clause-other : goal.returns-in_err-write_out-clause-other
returns-in_err-write_out-clause-other g c =
    let why = c.in_err-write_out.field-0.0 in
    let is : why ≡ Serving Output = c.in_err-write_out.ensures.fault in
    if_err c.from_residual.result why (λ (fault : AppFault). (answered served unserved : ℕ) → served + unserved ≤ 4097 → (fault ≡ Serving Output → unserved ≡ 0) → IsBehind fault answered served unserved)
    c.from_residual.ensures.1 (subst (λ (fault : AppFault). (answered served unserved : ℕ) → served + unserved ≤ 4097 → (fault ≡ Serving Output → unserved ≡ 0) → IsBehind fault answered served unserved) (sym is)
    (λ answered served unserved few none. (omega (arith, few), none refl)))

pub returns-in-Err-clause-asked : goal.returns-in-Err-clause-asked
returns-in-Err-clause-asked g c =
    let why = c.in-Err.fault in
    let asked = c.serve_all.ensures.asked in
    (asked.0, asked.1, λ said. absurd (not_output why (sym (same_err refl said) ∙ c.unanswered.ensures)))

pub returns-in_err-write_out-clause-asked : goal.returns-in_err-write_out-clause-asked
returns-in_err-write_out-clause-asked g c =
    let answered = c.in-Ok.ensures.answered in
    let recorded = c.in-Ok.recorded in
    let rows = said_rows c.args.desk.now.desk.journal c.serve_all.new.self.desk.journal (entries_of c.args.asks.items recorded.answers.items) recorded.rows.items answered.1 (c.in-Ok.ensures.rows One) in
    let begun = subst (Begun (g.W.Write.contents c.args.writer.now) (g.W.Write.contents c.write_out.new.writer)) (c.as_slice.ensures.value ∙ rows) c.in_err-write_out.ensures.front in
    (recorded.answers.items, answered.1, λ said. (answered.0, begun.0, begun.1))

pub returns-in-Err-clause-not_read : goal.returns-in-Err-clause-not_read
returns-in-Err-clause-not_read g c = λ i said.
    let why = c.in-Err.fault in
    not_durable why i (sym (same_err refl said) ∙ c.unanswered.ensures)

pub returns-in-Err-clause-told : goal.returns-in-Err-clause-told
returns-in-Err-clause-told g c = λ tells failed.
    let why = c.in-Err.fault in
    ap Err (c.unanswered.ensures ∙ failed_is why c.in-Err.is (c.serve_all.ensures.told tells failed))

pub returns-in-Err-clause-write : goal.returns-in-Err-clause-write
returns-in-Err-clause-write g c = λ tells said.
    let why = c.in-Err.fault in
    let is : Write ≡ of_durable why = sym (same_err refl said) ∙ c.unanswered.ensures in
    cause_of why _ _ _ is (λ at. c.serve_all.ensures.failed tells (c.in-Err.is ∙ ap (λ (f : DurableFault). Err f) at)) (λ at. c.serve_all.ensures.journal_full (c.in-Err.is ∙ ap (λ (f : DurableFault). Err f) at))
    (λ at. c.serve_all.ensures.full tells (c.in-Err.is ∙ ap (λ (f : DurableFault). Err f) at))

pub returns-clause-output : goal.returns-clause-output
returns-clause-output g c = λ tells said. absurd (ok_not_err said)

pub returns-clause-write : goal.returns-clause-write
returns-clause-write g c = λ tells said. absurd (ok_not_err said)

pub returns-then-is_empty-clause-output : goal.returns-then-is_empty-clause-output
returns-then-is_empty-clause-output g c = λ tells said. absurd (ok_not_err said)

pub returns-then-is_empty-clause-write : goal.returns-then-is_empty-clause-write
returns-then-is_empty-clause-write g c = λ tells said. absurd (ok_not_err said)

pub returns-clause-not_read : goal.returns-clause-not_read
returns-clause-not_read g c = λ i said. ok_not_err said

pub returns-then-is_empty-clause-not_read : goal.returns-then-is_empty-clause-not_read
returns-then-is_empty-clause-not_read g c = λ i said. ok_not_err said

pub returns-clause-steady : goal.returns-clause-steady
returns-clause-steady g c = λ tells. c.serve_all.ensures.steady tells

pub returns-clause-asked : goal.returns-clause-asked
returns-clause-asked g c =
    let answered = c.in-Ok.ensures.answered in
    (c.in-Ok.recorded.answers.items, answered.1, λ said. absurd (ok_not_err said))

pub returns-clause-told : goal.returns-clause-told
returns-clause-told g c = λ tells failed. absurd (ok_not_err (sym c.in-Ok.is ∙ c.serve_all.ensures.told tells failed))

pub serve_all-requires-clause-clerks : goal.serve_all-requires-clause-clerks
serve_all-requires-clause-clerks g c = c.requires.clerks

pub returns-in_err-write_out-clause-output : goal.returns-in_err-write_out-clause-output
returns-in_err-write_out-clause-output g c = λ tells said. c.in-Ok.ensures.durable tells

pub returns-then-is_empty-clause-any_moment : goal.returns-then-is_empty-clause-any_moment
returns-then-is_empty-clause-any_moment g c = λ tells.
    let d = c.args.desk.now in
    let was = c.requires.durable tells in
    let text = journal_text d.desk.opening.version d.desk.journal in
    started g.D.Device.moment g.D.Device.left_since d.file.device (StandsForEither text text)
    (λ f left. inl (stays g.D.Device.seen g.D.Device.may_leave d.file text was.settled was.written f (g.met.D.Device.only_now d.file.device f left)))

pub returns-then-is_empty-clause-asked : goal.returns-then-is_empty-clause-asked
returns-then-is_empty-clause-asked g c =
    let asks = c.args.asks.items in
    let old = c.args.desk.now.desk.journal in
    let none : asks ≡ [] = nil_from_length asks (grind (arith, common_steps, c.is_empty.ensures, c.if-is_empty.true)) in
    ([], subst (λ (a : List ClerkRequest). old ≡ old ++ entries_of a []) (sym none) (sym (append-nil old)), λ said. absurd (ok_not_err said))

pub returns-clause-opening : goal.returns-clause-opening
returns-clause-opening g c = c.serve_all.ensures.opening

pub returns-clause-room : goal.returns-clause-room
returns-clause-room g c = c.serve_all.ensures.room

pub returns-clause-legal : goal.returns-clause-legal
returns-clause-legal g c = c.serve_all.ensures.legal

pub returns-clause-any_moment : goal.returns-clause-any_moment
returns-clause-any_moment g c = λ tells. c.serve_all.ensures.any_moment tells

pub returns-in_err-write_out-clause-opening : goal.returns-in_err-write_out-clause-opening
returns-in_err-write_out-clause-opening g c = c.serve_all.ensures.opening

pub returns-in_err-write_out-clause-room : goal.returns-in_err-write_out-clause-room
returns-in_err-write_out-clause-room g c = c.serve_all.ensures.room

pub returns-in_err-write_out-clause-legal : goal.returns-in_err-write_out-clause-legal
returns-in_err-write_out-clause-legal g c = c.serve_all.ensures.legal

pub returns-in_err-write_out-clause-any_moment : goal.returns-in_err-write_out-clause-any_moment
returns-in_err-write_out-clause-any_moment g c = λ tells. c.serve_all.ensures.any_moment tells

pub returns-in_err-write_out-clause-steady : goal.returns-in_err-write_out-clause-steady
returns-in_err-write_out-clause-steady g c = λ tells. c.serve_all.ensures.steady tells

pub returns-in-Err-clause-opening : goal.returns-in-Err-clause-opening
returns-in-Err-clause-opening g c = c.serve_all.ensures.opening

pub returns-in-Err-clause-room : goal.returns-in-Err-clause-room
returns-in-Err-clause-room g c = c.serve_all.ensures.room

pub returns-in-Err-clause-legal : goal.returns-in-Err-clause-legal
returns-in-Err-clause-legal g c = c.serve_all.ensures.legal

pub returns-in-Err-clause-any_moment : goal.returns-in-Err-clause-any_moment
returns-in-Err-clause-any_moment g c = λ tells. c.serve_all.ensures.any_moment tells

pub returns-in-Err-clause-steady : goal.returns-in-Err-clause-steady
returns-in-Err-clause-steady g c = λ tells. c.serve_all.ensures.steady tells

pub returns-clause-durable : goal.returns-clause-durable
returns-clause-durable g c = λ tells. c.in-Ok.ensures.durable tells

pub returns-in_err-write_out-clause-not_read : goal.returns-in_err-write_out-clause-not_read
returns-in_err-write_out-clause-not_read g c = λ i said. output_not_read c.in_err-write_out.ensures.fault (told_is c.from_residual.ensures.1 said)

pub returns-in_err-write_out-clause-told : goal.returns-in_err-write_out-clause-told
returns-in_err-write_out-clause-told g c = λ tells failed. absurd (ok_not_err (sym c.in-Ok.is ∙ c.serve_all.ensures.told tells failed))

pub returns-in-Err-clause-output : goal.returns-in-Err-clause-output
returns-in-Err-clause-output g c = λ tells said. absurd (not_output c.in-Err.fault (sym (same_err refl said) ∙ c.unanswered.ensures))
