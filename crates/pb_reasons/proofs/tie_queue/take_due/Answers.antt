use Rattle.std.proofs.Common.{◌++◌, ◌∷◌, [], List, ℕ, ap, subst, sym, ◌∙◌}
use Rattle.std.proofs.lemmas.List.Filters.{dedup_is}
use Rattle.std.proofs.lemmas.Map.Keys.{IsStrictlyIncreasing-dedup}
use lib.Dec.{eqb}
use Rattle.pb_core.specs.Ballot.{HasSameMembers}
use Rattle.pb_core.proofs.Rising.{HasSameMembers-sorted}
use Rattle.pb_rounds.specs.Key.{KeyView}
use Rattle.pb_reasons.proofs.TieQueue.{Takes, takes_more}
use Rattle.pb_reasons.proofs.tie_queue.take_due.Goals as goal

pub loop-head-preserved : goal.loop-head-preserved
loop-head-preserved c =
    let more = takes_more c.args.queue.now.keys c.loop-head.queue.keys c.take_head.new.queue.keys c.in-Some.head c.loop-head.due.items c.loop-head.invariant c.in-Some.ensures in
    subst (Takes c.args.queue.now.keys c.take_head.new.queue.keys)
    (sym (c.in_ok-push.ensures.items ∙ ap (λ n. c.loop-head.due.items ++ n ∷ []) c.place.ensures)) more

pub returns : goal.returns
returns c =
    let h = c.loop-head.invariant in record {
      heads = h.heads;
      cut = h.cut ∙ ap (λ (keys : List KeyView). h.heads ++ keys) (sym c.in_default.ensures.1);
      members = subst (λ (xs : List ℕ). HasSameMembers xs c.dedup.new.self.items) h.placed
          (rw (dedup_is eqb _ _ c.dedup.ensures.filtered) (HasSameMembers-sorted _ _ c.sort_unstable.ensures.permutation));
      rise = rw (dedup_is eqb _ _ c.dedup.ensures.filtered) (IsStrictlyIncreasing-dedup _ c.sort_unstable.ensures.sorted);
      done = rw (sym c.in_default.ensures.1) at c.in_default.ensures.0;
    }
