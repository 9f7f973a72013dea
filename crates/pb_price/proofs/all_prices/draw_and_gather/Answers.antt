use Rattle.std.proofs.Common.{◌∙◌, ap, arith}
use Rattle.std.proofs.lemmas.Result.{on_ok_weaker}
use Rattle.pb_price.specs.Inner.Claims.{all_joined}
use Rattle.pb_price.proofs.Workers.{gathers_result, gathers_these}
use Rattle.pb_price.proofs.all_prices.draw_and_gather.Goals as goal

pub work_side_by_side-requires-clause-batch : goal.work_side_by_side-requires-clause-batch
work_side_by_side-requires-clause-batch g c κs within = c.requires.batch

pub gather-requires-clause-same : goal.gather-requires-clause-same
gather-requires-clause-same g c k d l = (c.in_ok-done.ensures.done k d l).0

pub gather-requires-clause-known : goal.gather-requires-clause-known
gather-requires-clause-known g c k d l i answer here = ((c.in_ok-done.ensures.done k d l).1.right i answer here).is_piece

pub gather-requires-clause-few : goal.gather-requires-clause-few
gather-requires-clause-few g c k d l = omega (arith, (c.in_ok-done.ensures.done k d l).1.few, c.requires.batch.few)

pub returns-clause-all : goal.returns-clause-all
returns-clause-all g c =
    let p = c.args.pieces.now in
    let all = gathers_these p.supporters.now p.rests.now p.projects.now (λ w. w.claim.seat.me.0) (λ w. w.answers.items) c.in_ok-done.done.items
    c.requires.batch.few (λ k d l. (c.in_ok-done.ensures.done k d l).1) in
    on_ok_weaker c.gather.result
    (λ joined. ap (λ v. v.seats) joined ∙ ap (λ stock. (all_joined (λ w. w.claim.seat.me.0) stock c.in_ok-done.done.items).seats) c.in_ok-staff.ensures.seats
    ∙ all.1 ∙ c.in_ok-done.ensures.all ∙ c.in_ok-staff.ensures.all)
    c.gather.ensures.joined

pub returns-clause-gathered : goal.returns-clause-gathered
returns-clause-gathered g c =
    let p = c.args.pieces.now in
    let all = gathers_these p.supporters.now p.rests.now p.projects.now (λ w. w.claim.seat.me.0) (λ w. w.answers.items) c.in_ok-done.done.items
    c.requires.batch.few (λ k d l. (c.in_ok-done.ensures.done k d l).1) in
    gathers_result p.supporters.now p.rests.now p.projects.now c.gather.result (λ r. r.prices.items) (λ r. r.priced) _ _ _ _
    (on_ok_weaker c.gather.result
    (λ joined. joined ∙ ap (λ stock. all_joined (λ w. w.claim.seat.me.0) stock c.in_ok-done.done.items) c.in_ok-staff.ensures.seats)
    c.gather.ensures.joined)
    c.gather.ensures.prices c.gather.ensures.priced all.0
