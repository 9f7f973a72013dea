use Rattle.std.proofs.Common.{subst, sym}
use Rattle.pb_shared.specs.Refusal.{Refuses}
use Rattle.pb_shared.specs.declared.busy.Busy.{Busy}
use Rattle.pb_shared.specs.declared.shared_fault.SharedFault.TheVariants as fault
use Rattle.pb_shared.proofs.Calls.{as_taken, if_err_and, sees, sees_desk, turned_away}
use Rattle.pb_shared.proofs.shared_desk.SharedDesk.look.Goals as goal

pub bring_back-requires-clause-desk : goal.bring_back-requires-clause-desk
bring_back-requires-clause-desk g c = as_taken c.clerk.inside.seat.me c.take_desk.new.seat.me c.in_ok-desk.desk c.in_ok-desk.ensures.ok

pub returns-clause-seen : goal.returns-clause-seen
returns-clause-seen g c =
    sees c.clerk.inside.seat.table_id c.clerk.inside.seat.me c.take_desk.new.seat.me c.bring_back.new.seat.me c.args.clerk.now c.args.self.now c.in_ok-desk.desk c.in_ok-desk.ensures.ok
    c.clerk.view_is c.requires.own c.bring_back.ensures.freed

pub returns-clause-answer : goal.returns-clause-answer
returns-clause-answer g c =
    let desk =
    sees_desk c.clerk.inside.seat.table_id c.clerk.inside.seat.me c.take_desk.new.seat.me c.bring_back.new.seat.me c.args.clerk.now c.args.self.now c.in_ok-desk.desk c.in_ok-desk.ensures.ok
    c.clerk.view_is c.requires.own c.bring_back.ensures.freed in
    (_, c.f-answer.ensures, desk)

pub returns-in_err-desk-clause-err : goal.returns-in_err-desk-clause-err
returns-in_err-desk-clause-err g c =
    let after = c.take_desk.new.seat.me.0.sheet in
    let away =
    turned_away c.clerk.inside.seat.table_id c.clerk.inside.seat.me c.take_desk.new.seat.me c.args.clerk.now c.args.self.now _ c.in_err-desk.ensures.err c.clerk.view_is c.requires.own in
    if_err_and _ (λ (busy : Busy). Refuses 1 c.args.self.now c.args.clerk.now.sheet (fault.Busy busy.0) after)
    (λ busy same. subst (λ (b : Busy). Refuses 1 c.args.self.now c.args.clerk.now.sheet (fault.Busy b.0) after) (sym same) away) c.from_residual.result c.from_residual.ensures.1
