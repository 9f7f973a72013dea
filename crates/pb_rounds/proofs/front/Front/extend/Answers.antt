use Rattle.std.proofs.Common.{◌≡◌, ◌+◌, ◌-◌, ◌<◌, ◌≤◌, ◌∙◌, length, subst, sym, ap, arith}
use Rattle.pb_price.specs.Price.{largest_share}
use Rattle.pb_rounds.specs.Inner.Front.{FrontView, IsFront}
use Rattle.pb_rounds.specs.Inner.Queue.{IsIn}
use Rattle.pb_rounds.specs.Key.{KeyView}
use Rattle.pb_rounds.specs.Outcome.{OutcomeView}
use Rattle.pb_rounds.proofs.Fronts.{queue_known, raised_front, raised_small, rests_here}
use Rattle.pb_rounds.proofs.front.Front.extend.Goals as goal

pub raise-requires-clause-small : goal.raise-requires-clause-small
raise-requires-clause-small g c =
    let f : FrontView = record { measure = c.self.inside.measure; support = c.self.inside.supporters.now; queue = c.self.inside.queue.keys; marks = c.self.inside.marks.items; spent = c.self.inside.spent; outcome = c.self.inside.outcome } in
    let front : IsFront f = subst IsFront (sym c.self.view_is) c.requires.front in
    let old : f.outcome.share ≡ c.args.self.now.outcome.share = ap (λ (v : FrontView). v.outcome.share) c.self.view_is in
    let sum : f.outcome.share + (c.args.share - f.outcome.share) ≡ c.args.share = omega (arith, old, c.requires.from) in
    let fits : f.outcome.share + (c.args.share - f.outcome.share) ≤ largest_share = omega (arith, sum, c.requires.small) in
    raised_small f front (c.args.share - f.outcome.share) fits

pub loop-head-init : goal.loop-head-init
loop-head-init g c =
    let f : FrontView = record { measure = c.self.inside.measure; support = c.self.inside.supporters.now; queue = c.self.inside.queue.keys; marks = c.self.inside.marks.items; spent = c.self.inside.spent; outcome = c.self.inside.outcome } in
    let front : IsFront f = subst IsFront (sym c.self.view_is) c.requires.front in
    let old : f.outcome.share ≡ c.args.self.now.outcome.share = ap (λ (v : FrontView). v.outcome.share) c.self.view_is in
    let sum : f.outcome.share + (c.args.share - f.outcome.share) ≡ c.args.share = omega (arith, old, c.requires.from) in
    let fits : f.outcome.share + (c.args.share - f.outcome.share) ≤ largest_share = omega (arith, sum, c.requires.small) in
    record {
      front = subst (λ (o : OutcomeView). IsFront (record { measure = f.measure; support = f.support; queue = f.queue; marks = f.marks; spent = f.spent; outcome = o })) (sym c.raise.ensures)
          (raised_front f front (c.args.share - f.outcome.share) fits);
      at = record {
        of_measure = ap (λ (v : FrontView). v.measure) c.self.view_is;
        of_support = ap (λ (v : FrontView). v.support) c.self.view_is;
        at_share = ap (λ (o : OutcomeView). o.share) c.raise.ensures ∙ sum;
      };
    }

pub take_next-requires-clause-known : goal.take_next-requires-clause-known
take_next-requires-clause-known g c =
    subst (λ (f : FrontView). (b : KeyView) → IsIn b f.queue → b.place < length f.support.costs) (sym c.self-in-loop-head.view_is)
    (queue_known c.loop-head.self c.loop-head.invariant.front)

pub take_next-requires-clause-rests : goal.take_next-requires-clause-rests
take_next-requires-clause-rests g c =
    subst (λ (f : FrontView). length f.outcome.rests ≡ f.support.voters) (sym c.self-in-loop-head.view_is)
    (rests_here c.loop-head.self c.loop-head.invariant.front).one_each

pub loop-head-preserved : goal.loop-head-preserved
loop-head-preserved g c =
    let at = c.loop-head.invariant.at in
    let after = c.in_ok-elect.ensures.of in
    let same = c.self-in-loop-head.view_is in
    record {
      front = c.in_ok-elect.ensures.front;
      at = record {
        of_measure = after.of_measure ∙ ap (λ (f : FrontView). f.measure) same ∙ at.of_measure;
        of_support = after.of_support ∙ ap (λ (f : FrontView). f.support) same ∙ at.of_support;
        at_share = after.at_share ∙ ap (λ (f : FrontView). f.outcome.share) same ∙ at.at_share;
      };
    }
