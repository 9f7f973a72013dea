use Rattle.std.proofs.Common.{◌≡◌, ◌+◌, ◌-◌, ◌≤◌, ◌∙◌, Some, false, get_or, length, refl, ap, arith, rules}
use Rattle.std.proofs.lemmas.Bool.{and_parts, leb-true}
use Rattle.std.proofs.lemmas.List.{length-set}
use Rattle.std.proofs.Math.Nat.{mul-le-mul_right}
use Rattle.pb_rounds.specs.Count.{add1_of, elected_after, is_decisive}
use Rattle.pb_rounds.proofs.Completing.{raises_spent}
use Rattle.pb_rounds.proofs.Trials.{all_tried}
use Rattle.pb_rounds.proofs.side_by_side.Raising.decide.Goals as goal

pub loop-next-init : goal.loop-next-init
loop-next-init g c = record {
  within = omega (arith, c.requires.first);
  few = omega (arith, ap length c.new-trials.ensures.items);
  tried = c.requires.tried;
  front = c.in_ok-front.ensures.front;
  of = record {
    of_measure = c.in_ok-front.ensures.of.of_measure;
    of_support = c.in_ok-front.ensures.of.of_support;
    at_share = refl;
  };
  from = omega (arith, c.in_ok-front.ensures.of.at_share, c.opening_of-opening.ensures.share);
}

pub prepare_group-requires-clause-workers : goal.prepare_group-requires-clause-workers
prepare_group-requires-clause-workers g c κs within =
    let most = leb-true c.args.self.now.pricing.now.workers 64 (and_parts _ _ c.args.self.now.pricing.now.few_workers).1 in
    (c.workers_for_trials-workers.ensures.0, omega (arith, c.workers_for_trials-workers.ensures.1, most), c.processors-processors.ensures)

pub try_raises-requires-clause-tried : goal.try_raises-requires-clause-tried
try_raises-requires-clause-tried g c κs within = c.loop-next.invariant.tried

pub index_mut-requires : goal.index_mut-requires
index_mut-requires g c = omega (arith, c.len-count.ensures, c.in_ok-raises.ensures.len, c.in_ok-prepare_group.ensures.some)

pub overflow_cast-count : goal.overflow_cast-count
overflow_cast-count g c = omega (arith, c.len-count.ensures, c.in_ok-raises.ensures.len, c.in_ok-prepare_group.ensures.few)

pub overflow_add-next : goal.overflow_add-next
overflow_add-next g c = omega (arith, c.len-count.ensures, c.in_ok-raises.ensures.len, c.in_ok-prepare_group.ensures.within, c.args.self.now.given.few_raises)

pub jump_ahead-requires-clause-from : goal.jump_ahead-requires-clause-from
jump_ahead-requires-clause-from g c κs within = (
  omega (arith, c.len-count.ensures, c.in_ok-raises.ensures.len, c.in_ok-prepare_group.ensures.some),
  omega (arith, c.len-count.ensures, c.in_ok-raises.ensures.len, c.in_ok-prepare_group.ensures.within),
)

pub jump_ahead-requires-clause-tried : goal.jump_ahead-requires-clause-tried
jump_ahead-requires-clause-tried g c κs within =
    let count : c.len-count.result ≡ length c.try_raises.new.trials.items = search rules in
    all_tried c.in_ok-raises.field-0 (λ raises. is_decisive c.args.self.now.pricing.now.measure c.args.self.now.pricing.now.supporters.now.grain c.args.self.now.election.now c.args.self.now.step raises ≡ false)
    (λ raises. (raises ≤ c.args.self.now.max_raises) × (add1_of c.args.self.now.pricing.now.measure c.args.self.now.pricing.now.supporters.now.grain c.args.self.now.election.now c.args.self.now.step c.args.self.now.max_raises ≡ Some raises))
    (c.loop-next.next + length c.prepare_group.new.trials.items) (c.loop-next.next + c.len-count.result) c.in_default.is c.in_ok-raises.ensures.decided
    (omega (arith, count, c.in_ok-raises.ensures.len))

pub jump_ahead-requires-clause-last : goal.jump_ahead-requires-clause-last
jump_ahead-requires-clause-last g c κs within =
    let count : c.len-count.result ≡ length c.try_raises.new.trials.items = search rules in
    let last : c.len-count.result - 1 ≡ length c.prepare_group.new.trials.items - 1 = omega (arith, count, c.in_ok-raises.ensures.len) in
    let raised : c.loop-next.next + length c.prepare_group.new.trials.items - 1 ≡ c.loop-next.next + c.len-count.result - 1 = omega (arith, count, c.in_ok-raises.ensures.len) in
    ap (λ t. t.outcome.elected) (c.index_mut.ensures.value ∙ ap (λ k. get_or c.try_raises.new.trials.items k c.index_mut.result.now) last)
    ∙ c.in_ok-raises.ensures.last c.index_mut.result.now c.in_default.is
    ∙ ap (elected_after c.args.self.now.pricing.now.measure c.args.self.now.pricing.now.supporters.now.grain c.args.self.now.election.now c.args.self.now.step) raised

pub loop-next-smaller : goal.loop-next-smaller
loop-next-smaller g c = omega (arith, c.in_ok-next.ensures.range, c.len-count.ensures, c.in_ok-raises.ensures.len, c.in_ok-prepare_group.ensures.some)

pub loop-next-preserved : goal.loop-next-preserved
loop-next-preserved g c =
    let long = length-set c.try_raises.new.trials.items (c.len-count.result - 1) c.jump_ahead.new.last in
    let further : c.loop-next.next ≤ c.in_ok-next.next = omega (arith, c.in_ok-next.ensures.range) in
    let more = mul-le-mul_right c.args.self.now.step further in
    record {
      within = omega (arith, c.in_ok-next.ensures.range.1);
      few = omega (arith, long, c.try_raises.ensures.len, c.in_ok-prepare_group.ensures.few);
      tried = c.in_ok-next.ensures.tried;
      front = c.in_ok-prepare_group.ensures.front;
      of = record {
        of_measure = c.in_ok-prepare_group.ensures.of.of_measure;
        of_support = c.in_ok-prepare_group.ensures.of.of_support;
        at_share = refl;
      };
      from = omega (arith, c.in_ok-prepare_group.ensures.of.at_share, more);
    }

pub returns : goal.returns
returns g c = (
  raises_spent c.args.self.now.pricing.now.measure c.args.self.now.pricing.now.supporters.now.grain c.args.self.now.election.now c.args.self.now.step c.args.self.now.max_raises c.loop-next.next (omega (arith, c.loop-next-test.false)) c.loop-next.invariant.tried,
  tt,
)
