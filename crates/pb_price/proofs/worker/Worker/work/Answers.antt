use Rattle.std.proofs.Common.{◌≡◌, ◌<◌, length, refl, rules, arith}
use Rattle.std.specs.Prelude.{slice_index}
use Rattle.std.proofs.lemmas.Result.{IfOk-from_err}
use Rattle.pb_price.proofs.Workers.{may_draw, works_on, works_towards}
use Rattle.pb_price.proofs.worker.Worker.work.Goals as goal

pub draw-number-requires-clause-may_draw : goal.draw-number-requires-clause-may_draw
draw-number-requires-clause-may_draw g c =
    may_draw c.args.pieces.now.supporters.now c.args.pieces.now.rests.now c.args.pieces.now.projects.now c.loop-place.self.claim.seat.me.0 c.loop-place.self.answers.items
    c.args.claims.now.batch.pieces c.loop-place.invariant.working c.requires.batch.are_pieces

pub loop-place-preserved : goal.loop-place-preserved
loop-place-preserved g c =
    let number = c.draw-number.result in
    let projects = c.args.pieces.now.projects.now in
    let less : number < length projects = search rules in
    let read : c.in-Some.place.now ≡ slice_index projects number = search rules in
    let price = rw read at c.price_by-price.ensures in record {
      same = c.draw-number.ensures.same;
      working = works_on c.args.pieces.now.supporters.now c.args.pieces.now.rests.now projects c.loop-place.self.claim.seat.me.0 c.draw-number.new.claim.seat.me.0
          c.loop-place.self.answers.items c.push.new.self.items _ number c.loop-place.invariant.working c.draw-number.ensures.drawn
          refl less c.draw-number.ensures.once price c.in_ok-push.ensures.items;
    }

pub loop-place-smaller : goal.loop-place-smaller
loop-place-smaller g c =
    let less : c.draw-number.result < length c.args.pieces.now.projects.now = search rules in
    let after = works_towards c.args.pieces.now.supporters.now c.args.pieces.now.rests.now c.args.pieces.now.projects.now c.loop-place.self.claim.seat.me.0 c.draw-number.new.claim.seat.me.0
    c.loop-place.self.answers.items c.draw-number.result c.loop-place.invariant.working c.draw-number.ensures.drawn c.draw-number.ensures.once in
    omega (arith, less, after, c.in_ok-push.ensures.len)

pub returns-in_err-push : goal.returns-in_err-push
returns-in_err-push g c = IfOk-from_err _ _ c.from_residual.ensures.0
