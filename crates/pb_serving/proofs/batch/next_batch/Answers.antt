use Rattle.std.proofs.Common.{◌∙◌, ◌∷◌, ◌++◌, [], length, List, ap, sym, subst, arith, length-append}
use Rattle.pb_script.specs.RowsView.{HasGiven}
use Rattle.pb_durable.specs.declared.clerk_request.ClerkRequest.{ClerkRequest}
use Rattle.pb_serving.specs.declared.batch.BatchEnd.TheVariants as ends
use Rattle.pb_serving.proofs.Answering.{gives, not_stopped}
use Rattle.pb_serving.proofs.Apart.{memory_not_more}
use Rattle.pb_serving.proofs.Batches.{no_rows, ask_more, ends_batch, ends_by, ends_failed, ends_given, HasRows}
use Rattle.pb_serving.proofs.batch.next_batch.Goals as goal

pub loop-preserved : goal.loop-preserved
loop-preserved g c =
    let inv = c.loop.invariant in
    let ad = c.args.session.now.admission.now in
    let start = c.args.rows.now in
    let after = c.next_ask.new.rows in
    let asks = c.loop.asks.items in
    let ask = c.in-Ok.ask in
    let next = c.in-Ok.ensures in
    let grown = c.push_reserved.ensures.items ∙ ap (λ (l : List ClerkRequest). l ++ ask ∷ []) c.reserve.ensures.items in
    let size = ap length grown ∙ length-append asks (ask ∷ []) in
    record {
      count = omega (arith, size, inv.count);
      read = subst (HasRows ad start.left after.left) (sym grown) (ask_more ad start.left c.loop.rows after asks ask inv.read next);
      given = subst (HasGiven start after) (sym size) (gives start c.loop.rows after (length asks) 1 inv.given next.3);
      sound = λ sound. not_stopped after next.4;
    }

pub returns-then-not-has_row-clause-batch : goal.returns-then-not-has_row-clause-batch
returns-then-not-has_row-clause-batch g c =
    let ad = c.args.session.now.admission.now in
    let left = c.args.rows.now.left in
    let after = c.next_ask.new.rows in
    let asks = c.loop.asks.items in
    let ask = c.in-Ok.ask in
    let grown = c.push_reserved.ensures.items ∙ ap (λ (l : List ClerkRequest). l ++ ask ∷ []) c.reserve.ensures.items in
    let h = subst (HasRows ad left after.left) (sym grown) (ask_more ad left c.loop.rows after asks ask c.loop.invariant.read c.in-Ok.ensures) in
    record { rows = h.rows; each = h.each; goes_on = h.gone }

pub returns-in-Err-clause-batch : goal.returns-in-Err-clause-batch
returns-in-Err-clause-batch g c =
    let ad = c.args.session.now.admission.now in
    let left = c.args.rows.now.left in
    let after = c.next_ask.new.rows in
    let h = subst (HasRows ad left c.loop.rows.left) (sym c.reserve.ensures.items) c.loop.invariant.read in
    ends_batch ad left c.loop.rows after c.reserve.new.self.items c.in-Err.end h c.in-Err.ensures

pub returns-in-Err-clause-given : goal.returns-in-Err-clause-given
returns-in-Err-clause-given g c =
    let start = c.args.rows.now in
    let given = subst (λ (asks : List ClerkRequest). HasGiven start c.loop.rows (length asks)) (sym c.reserve.ensures.items) c.loop.invariant.given in
    ends_given c.args.session.now.admission.now start c.loop.rows c.next_ask.new.rows (length c.reserve.new.self.items) c.in-Err.end given c.in-Err.ensures

pub returns-in-Err-clause-told : goal.returns-in-Err-clause-told
returns-in-Err-clause-told g c = λ sound failed. ends_failed c.args.session.now.admission.now c.loop.rows c.next_ask.new.rows c.in-Err.end c.in-Err.ensures failed

pub returns-in-Err-clause-over : goal.returns-in-Err-clause-over
returns-in-Err-clause-over g c = λ is. (ends_by c.args.session.now.admission.now c.loop.rows c.next_ask.new.rows c.in-Err.end ends.Over is c.in-Err.ensures).2

pub returns-in-Err-clause-blame : goal.returns-in-Err-clause-blame
returns-in-Err-clause-blame g c = λ is. (ends_by c.args.session.now.admission.now c.loop.rows c.next_ask.new.rows c.in-Err.end ends.ReadFailed is c.in-Err.ensures).1

pub returns-in-Err-clause-some : goal.returns-in-Err-clause-some
returns-in-Err-clause-some g c = λ is. absurd (ends_by c.args.session.now.admission.now c.loop.rows c.next_ask.new.rows c.in-Err.end ends.More is c.in-Err.ensures)

pub returns-then-is_err-clause-told : goal.returns-then-is_err-clause-told
returns-then-is_err-clause-told g c = λ sound failed. absurd (c.loop.invariant.sound sound failed)

pub returns-after-loop-clause-told : goal.returns-after-loop-clause-told
returns-after-loop-clause-told g c = λ sound failed. absurd (c.loop.invariant.sound sound failed)

pub loop-init : goal.loop-init
loop-init g c =
    let none = c.requires in record {
      count = ap length none;
      read = subst (HasRows c.args.session.now.admission.now c.args.rows.now.left c.args.rows.now.left) (sym none) (no_rows c.args.session.now.admission.now c.args.rows.now.left);
      given = λ fits. omega (arith, ap length none);
      sound = λ sound. sound;
    }

pub returns-then-is_err-clause-some : goal.returns-then-is_err-clause-some
returns-then-is_err-clause-some g c = λ is. absurd (memory_not_more is)

pub returns-then-not-has_row-clause-given : goal.returns-then-not-has_row-clause-given
returns-then-not-has_row-clause-given g c =
    let start = c.args.rows.now in
    let after = c.next_ask.new.rows in
    let asks = c.loop.asks.items in
    let ask = c.in-Ok.ask in
    let grown = c.push_reserved.ensures.items ∙ ap (λ (l : List ClerkRequest). l ++ ask ∷ []) c.reserve.ensures.items in
    let size = ap length grown ∙ length-append asks (ask ∷ []) in
    subst (HasGiven start after) (omega (arith, size)) (gives start c.loop.rows after (length asks) 1 c.loop.invariant.given c.in-Ok.ensures.3)

pub returns-then-is_err-clause-batch : goal.returns-then-is_err-clause-batch
returns-then-is_err-clause-batch g c =
    let h = subst (HasRows c.args.session.now.admission.now c.args.rows.now.left c.loop.rows.left) (sym c.reserve.ensures.items) c.loop.invariant.read in
    record { rows = h.rows; each = h.each; goes_on = (c.loop.rows.left, h.gone) }

pub returns-then-not-has_row-clause-some : goal.returns-then-not-has_row-clause-some
returns-then-not-has_row-clause-some g c = λ is.
    let asks = c.loop.asks.items in
    let ask = c.in-Ok.ask in
    let size = ap length (c.push_reserved.ensures.items ∙ ap (λ (l : List ClerkRequest). l ++ ask ∷ []) c.reserve.ensures.items) ∙ length-append asks (ask ∷ []) in
    omega (arith, size)
