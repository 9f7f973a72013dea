use Rattle.std.proofs.Common.{◌≡◌, ◌<◌, length, arith}
use Rattle.std.proofs.lemmas.Result.{IfOk-weaker}
use Rattle.pb_price.proofs.all_prices.work_side_by_side.Goals as goal

pub returns-clause-all : goal.returns-clause-all
returns-clause-all g c =
    IfOk-weaker c.all_done.result (λ done. length done.items ≡ length c.in_ok-ended.ended.items) (λ done. length done.items ≡ length c.args.staff.items)
    (λ done all. omega (arith, all, c.in_ok-ended.ensures.len, c.in_ok-ended.ended.ok.0, c.args.staff.ok.0)) c.all_done.ensures.all

pub returns-clause-done : goal.returns-clause-done
returns-clause-done g c =
    let p = c.args.pieces.now in
    c.all_done.ensures.done c.args.claims.now.table.shared.table_id p.supporters.now p.rests.now p.projects.now (λ k d l.
    let within : k < length c.args.staff.items = omega (arith, l, c.in_ok-ended.ensures.len, c.in_ok-ended.ended.ok.0, c.args.staff.ok.0) in
    let said = (c.in_ok-ended.ensures.each k d within).1.call.met in search said)
