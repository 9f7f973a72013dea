use Rattle.std.proofs.Common.{◌≡◌, ℕ, List, None, subst, sym, ◌∙◌, rules}
use Rattle.std.proofs.lemmas.Bool.{true≢false}
use Rattle.pb_price.specs.Price.{AreRests, HasPayers}
use Rattle.pb_rounds.specs.Inner.Bounds.{HasBounds}
use Rattle.pb_rounds.specs.Run.{ElectedView}
use Rattle.pb_rounds.proofs.BoundQueue.{found_at}
use Rattle.pb_rounds.proofs.TrialRounds.{following_more, following_open, keeps_all, keeps_ends}
use Rattle.pb_rounds.proofs.trial.Trial.keeps.Goals as goal

pub loop-elected-init : goal.loop-elected-init
loop-elected-init g c = record {
  is_support = c.in_ok-start.ensures.support;
  following = following_open c.args.measure c.args.supporters.now c.args.share c.requires.share c.args.last.now c.start.new.self.queue.keys c.in_ok-start.ensures.queue
      c.start.new.self.outcome c.in_ok-start.ensures.outcome;
}

pub loop-elected-preserved : goal.loop-elected-preserved
loop-elected-preserved g c =
    let f = c.loop-elected.invariant.following in
    record {
      is_support = c.loop-elected.invariant.is_support;
      following = following_more c.args.measure c.args.supporters.now c.args.share c.args.last.now c.loop-elected.elected-index c.loop-elected-test.true
          c.loop-elected.self.queue.keys c.loop-elected.self.outcome f c.elected-item.result c.elected-item.is c.follows.new.self.outcome c.follows.new.self.queue.keys
          (c.in_ok-follows.ensures c.args.measure f.bounded.left f.bounded.bounds (search rules));
    }

pub returns-clause-keeps : goal.returns-clause-keeps
returns-clause-keeps g c it_is =
    let f = c.loop-elected.invariant.following in
    let same : c.as_slice-rests.result.now ≡ c.loop-elected.self.outcome.rests = search rules in
    let kept : c.self.inside.0.0.keys ≡ c.loop-elected.self.queue.keys = search rules in
    let nobody : c.in_ok-more.more ≡ None = search rules in
    keeps_all c.args.measure c.args.supporters.now c.args.share c.args.last.now c.loop-elected.elected-index c.loop-elected-test.false
    c.loop-elected.self.queue.keys c.next_best.new.queue.keys c.loop-elected.self.outcome f
    (found_at c.args.measure c.args.supporters.now c.loop-elected.self.outcome.rests c.as_slice-rests.result.now f.bounded.left same None c.loop-elected.self.queue.keys c.next_best.new.queue.keys
    c.in_ok-more.more None (λ h. c.in_ok-more.ensures c.args.measure f.bounded.left
    (subst (HasBounds c.args.measure c.args.supporters.now c.as_slice-rests.result.now f.bounded.left) (sym kept) h)) nobody f.bounded.bounds)

pub returns-clause-elected : goal.returns-clause-elected
returns-clause-elected g c it_is =
    let f = c.loop-elected.invariant.following in
    let same : c.as_slice-rests.result.now ≡ c.loop-elected.self.outcome.rests = search rules in
    let kept : c.self.inside.0.0.keys ≡ c.loop-elected.self.queue.keys = search rules in
    let nobody : c.in_ok-more.more ≡ None = search rules in
    let elects : c.self.inside.0.1.1.1.0.elected.items ≡ c.loop-elected.self.outcome.elected = search rules in
    elects
    ∙ keeps_ends c.args.measure c.args.supporters.now c.args.share c.args.last.now c.loop-elected.elected-index c.loop-elected-test.false
    c.loop-elected.self.queue.keys c.next_best.new.queue.keys c.loop-elected.self.outcome f
    (found_at c.args.measure c.args.supporters.now c.loop-elected.self.outcome.rests c.as_slice-rests.result.now f.bounded.left same None c.loop-elected.self.queue.keys c.next_best.new.queue.keys
    c.in_ok-more.more None (λ h. c.in_ok-more.ensures c.args.measure f.bounded.left
    (subst (HasBounds c.args.measure c.args.supporters.now c.as_slice-rests.result.now f.bounded.left) (sym kept) h)) nobody f.bounded.bounds)

pub follows-requires-clause-rests : goal.follows-requires-clause-rests
follows-requires-clause-rests g c = c.loop-elected.invariant.following.bounded.progress.rests_are

pub follows-requires-clause-last : goal.follows-requires-clause-last
follows-requires-clause-last g c =
    subst (λ (w : ElectedView). HasPayers c.args.supporters.now w.exact) (sym c.elected-item.is)
    (c.requires.last c.loop-elected.elected-index c.elected-item.result c.loop-elected-test.true)

pub follows-requires-clause-bounds : goal.follows-requires-clause-bounds
follows-requires-clause-bounds g c =
    let f = c.loop-elected.invariant.following in
    (c.args.measure, f.bounded.left, f.bounded.bounds)

pub returns-then-not-branch-clause-keeps : goal.returns-then-not-branch-clause-keeps
returns-then-not-branch-clause-keeps g c it_keeps = absurd (true≢false (sym it_keeps))

pub returns-then-not-branch-clause-elected : goal.returns-then-not-branch-clause-elected
returns-then-not-branch-clause-elected g c it_keeps = absurd (true≢false (sym it_keeps))

pub next_best-requires-clause-rests : goal.next_best-requires-clause-rests
next_best-requires-clause-rests g c =
    let same : c.as_slice-rests.result.now ≡ c.loop-elected.self.outcome.rests = search rules in
    subst (AreRests c.args.supporters.now.voters) (sym same) c.loop-elected.invariant.following.bounded.progress.rests_are

pub next_best-requires-clause-bounds : goal.next_best-requires-clause-bounds
next_best-requires-clause-bounds g c =
    let f = c.loop-elected.invariant.following in
    let same : c.as_slice-rests.result.now ≡ c.loop-elected.self.outcome.rests = search rules in
    let kept : c.self.inside.0.0.keys ≡ c.loop-elected.self.queue.keys = search rules in (
      c.args.measure,
      f.bounded.left,
      subst (λ (rs : List ℕ). HasBounds c.args.measure c.args.supporters.now rs f.bounded.left c.self.inside.0.0.keys) (sym same)
          (subst (HasBounds c.args.measure c.args.supporters.now c.loop-elected.self.outcome.rests f.bounded.left) (sym kept) f.bounded.bounds),
    )
