use Rattle.std.proofs.Common.{◌≡◌, ◌<◌, ◌∙◌, ◌++◌, ◌∷◌, [], ◌+◌, List, ℕ, ap, drop, length, slice_index_or, subst, sym, take}
use Rattle.std.specs.Prelude.{All, filter}
use Rattle.std.proofs.lemmas.List.{drop_more, take_all, take_more}
use Rattle.pb_rounds.specs.Key.{KeyView}
use Rattle.pb_reasons.specs.Inner.TieQueue.{AreQueued, TakesDue}
use Rattle.pb_reasons.specs.Ties.{is_tied}
use Rattle.pb_reasons.proofs.Far.{none_kept, one_kept}
use Rattle.pb_reasons.proofs.TieQueue.{due_known, one_put, rest_queued, those_are_due}
use Rattle.pb_reasons.proofs.TiedRounds.{bound_has_payers, one_bound}
use Rattle.pb_reasons.proofs.tied_round.TiedRound.others.Goals as goal
use Rattle.pb_reasons.proofs.tied_round.TiedRound.others.Goals.{then-look+in_ok-push, else-look}

pub loop-place-init : goal.loop-place-init
loop-place-init c =
    let r = c.args.self.now in
    let takes = subst (λ (k : KeyView). TakesDue k c.args.queue.now.keys c.take_due.new.queue.keys c.in_ok-due.due.items) c.limit.ensures.limit c.in_ok-due.ensures in
    record {
      known = subst (All (λ (place : ℕ). place < length r.supporters.now.costs)) (sym c.as_slice-places.ensures.value)
          (due_known r.measure r.supporters.now r.elected.now r.rests.now r.winner (c.limit.ensures.positive, c.limit.ensures.is_support, r.payers) c.args.bounds.now.items c.requires.bounds
          c.args.queue.now.keys c.take_due.new.queue.keys c.in_ok-due.due.items c.requires.queued takes);
      bounds = c.requires.bounds;
      queued = subst (λ (due : List ℕ). AreQueued r.measure r.supporters.now due c.args.bounds.now.items c.take_due.new.queue.keys) (sym c.as_slice-places.ensures.value)
          (rest_queued r.measure r.supporters.now r.elected.now r.rests.now r.winner (c.limit.ensures.positive, c.limit.ensures.is_support, r.payers) c.args.bounds.now.items c.requires.bounds
          c.args.queue.now.keys c.take_due.new.queue.keys c.in_ok-due.due.items c.requires.queued takes);
      others = c.new-others.ensures.items;
    }

pub put_bound-requires-clause-payers : goal.put_bound-requires-clause-payers
put_bound-requires-clause-payers c =
    let r = c.args.self.now in
    bound_has_payers r.supporters.now r.elected.now r.rests.now _ _ c.look-look.ensures.bound

pub loop-place-preserved : goal.loop-place-preserved
loop-place-preserved c =
    let r = c.args.self.now in
    let s = r.supporters.now in
    let due = c.as_slice-places.result.now in
    let i = c.loop-place.place-index in
    let place = slice_index_or due i 0 in
    let known : place < length s.costs = c.loop-place.invariant.known i 0 c.loop-place-test.true in
    let test = is_tied r.measure s r.elected.now r.rests.now r.winner in
    record {
      known = c.loop-place.invariant.known;
      bounds = one_bound s r.elected.now r.rests.now c.loop-place.bounds.items c.loop-place.invariant.bounds place known _ c.look-look.ensures.bound;
      queued = one_put r.measure s (drop (i + 1) due) c.loop-place.bounds.items c.loop-place.queue.keys c.put_bound.new.queue.keys place _
          (subst (λ (xs : List ℕ). AreQueued r.measure s xs c.loop-place.bounds.items c.loop-place.queue.keys) (drop_more due i 0 c.loop-place-test.true) c.loop-place.invariant.queued)
          known c.loop-place.invariant.bounds.one_each c.in_ok-put_bound.ensures;
      others = subst (λ (xs : List ℕ). c.if-look.others.items ≡ filter test xs) (sym (take_more due i 0 c.loop-place-test.true)) (elim c.if-look.branch [
        | then-look+in_ok-push w ↦
            rw (w.others-is, w.in_ok-push.ensures.items)
            (ap (λ (xs : List ℕ). xs ++ place ∷ []) c.loop-place.invariant.others ∙ sym (one_kept test (take i due) place (sym c.look-look.ensures.tied ∙ w.if-look.true)))
        | else-look w ↦
            rw w.others-is (c.loop-place.invariant.others ∙ sym (none_kept test (take i due) place (sym c.look-look.ensures.tied ∙ w.if-look.false)))
      ]);
    }

pub returns-clause-others : goal.returns-clause-others
returns-clause-others c =
    let r = c.args.self.now in
    let due = c.as_slice-places.result.now in
    let takes = subst (λ (k : KeyView). TakesDue k c.args.queue.now.keys c.take_due.new.queue.keys c.in_ok-due.due.items) c.limit.ensures.limit c.in_ok-due.ensures in
    let whole : take c.loop-place.place-index due ≡ due = take_all c.loop-place.place-index due c.loop-place-test.false in
    c.loop-place.invariant.others
    ∙ ap (filter (is_tied r.measure r.supporters.now r.elected.now r.rests.now r.winner)) (whole ∙ c.as_slice-places.ensures.value)
    ∙ those_are_due r.measure r.supporters.now r.elected.now r.rests.now r.winner (c.limit.ensures.positive, c.limit.ensures.is_support, r.payers) c.args.bounds.now.items c.requires.bounds
    c.args.queue.now.keys c.take_due.new.queue.keys c.in_ok-due.due.items c.requires.queued takes
