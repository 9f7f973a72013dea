use Rattle.std.proofs.Common.{◌≡◌, [], ◌∷◌, length, ap, arith}
use Rattle.std.proofs.lemmas.List.{length-append}
use Rattle.std.proofs.lemmas.List.Elements.{All-push}
use Rattle.pb_price.specs.Inner.Working.{IsDone}
use Rattle.pb_price.proofs.Workers.{popped_done}
use Rattle.pb_price.proofs.all_prices.all_done.Goals as goal

pub loop-worker-init : goal.loop-worker-init
loop-worker-init g c = record {
  kept = λ id s rests projects ended. (ended, λ k d l. absurd (omega (arith, l, ap length c.in_ok-done.ensures.items)));
  all = omega (arith, ap length c.in_ok-done.ensures.items);
}

pub loop-worker-smaller : goal.loop-worker-smaller
loop-worker-smaller g c = omega (arith, ap length c.in-Some.ensures.items, length-append c.pop.new.self.items (c.in-Some.worker ∷ []))

pub loop-worker-preserved : goal.loop-worker-preserved
loop-worker-preserved g c = record {
  kept = λ id s rests projects ended.
      let before = c.loop-worker.invariant.kept id s rests projects ended in
      let both = popped_done (λ w. (w.claim.seat.table_id ≡ id) × IsDone s rests projects w.claim.seat.me.0 w.answers.items)
      c.loop-worker.ended.items c.pop.new.self.items c.in-Some.worker c.in_ok-worker.field-0 c.in-Some.ensures.items c.in_ok-worker.was before.0 in (
        both.0,
        rw c.in_ok-push.ensures.items (All-push (λ w. (w.claim.seat.table_id ≡ id) × IsDone s rests projects w.claim.seat.me.0 w.answers.items) _ _ before.1 both.1),
      );
  all = omega (
    arith,
    c.loop-worker.invariant.all,
    ap length c.in-Some.ensures.items,
    length-append c.pop.new.self.items (c.in-Some.worker ∷ []),
    ap length c.in_ok-push.ensures.items,
    length-append c.loop-worker.done.items (c.in_ok-worker.field-0 ∷ []),
  );
}

pub returns-clause-done : goal.returns-clause-done
returns-clause-done g c id s rests projects ended = (c.loop-worker.invariant.kept id s rests projects ended).1
