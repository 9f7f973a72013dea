use Rattle.std.proofs.Common.{◌<◌, ◌≤◌, ◌∙◌, ◌++◌, sym, ap, subst, ℕ, List, length, arith}
use Rattle.std.specs.Prelude.{All}
use Rattle.std.proofs.lemmas.List.{length-append}
use Rattle.pb_core.specs.Election.{most_projects}
use Rattle.pb_price.specs.Price.{AreRests, TallyView}
use Rattle.pb_rounds.specs.Inner.Queue.{places_of, PricesHeads}
use Rattle.pb_rounds.specs.Run.{keys_at}
use Rattle.pb_rounds.proofs.QueueSteps.{counted_more, cut_off, fewer_left, heads_more, heads_none, none_taken, taken_few, taken_known}
use Rattle.pb_rounds.proofs.run.Run.price_round.Goals as goal

pub price_heads-requires-clause-known : goal.price_heads-requires-clause-known
price_heads-requires-clause-known g c = λ κs _.
    subst (All (λ place. place < length c.args.pricing.now.supporters.now.costs))
    (sym (cut_off c.loop-self.self.places.items c.take_heads.new.places.items c.deref.result.now c.len-before.result c.deref.ensures.value (omega (arith, c.len-before.ensures, c.loop-self.self.places.ok.0))))
    (taken_known c.args.pricing.now.measure c.args.pricing.now.supporters.now c.as_slice-rests.result.now c.args.most c.args.self.now.queue.keys c.loop-self.self.queue.keys
    c.loop-self.self.places.items c.loop-self.self.fresh.keys.items c.loop-self.self.fresh.best c.loop-self.invariant.heads c.take_heads.new.queue.keys c.take_heads.new.places.items
    c.in_ok-take_heads.ensures (length c.args.pricing.now.supporters.now.costs) c.requires.known)

pub price_heads-requires-clause-few : goal.price_heads-requires-clause-few
price_heads-requires-clause-few g c = λ κs _.
    subst (λ (xs : List ℕ). length xs ≤ most_projects)
    (sym (cut_off c.loop-self.self.places.items c.take_heads.new.places.items c.deref.result.now c.len-before.result c.deref.ensures.value (omega (arith, c.len-before.ensures, c.loop-self.self.places.ok.0))))
    (taken_few c.args.pricing.now.measure c.args.pricing.now.supporters.now c.as_slice-rests.result.now c.args.most c.args.self.now.queue.keys c.loop-self.self.queue.keys
    c.loop-self.self.places.items c.loop-self.self.fresh.keys.items c.loop-self.self.fresh.best c.loop-self.invariant.heads c.take_heads.new.queue.keys c.take_heads.new.places.items
    c.in_ok-take_heads.ensures most_projects c.requires.few)

pub loop-self-init : goal.loop-self-init
loop-self-init g c = record {
  heads = rw (c.clear.ensures.items, c.clear-2.ensures.keys, c.clear-2.ensures.best) (heads_none _ _ _ _ _);
  counted = omega (arith, ap (λ (t : TallyView). t.prices) c.new-tally.ensures, ap length c.clear.ensures.items);
}

pub loop-self-smaller : goal.loop-self-smaller
loop-self-smaller g c =
    fewer_left c.args.pricing.now.measure c.args.pricing.now.supporters.now c.as_slice-rests.result.now c.args.most c.args.self.now.queue.keys c.loop-self.self.queue.keys
    c.loop-self.self.places.items c.loop-self.self.fresh.keys.items c.loop-self.self.fresh.best c.loop-self.invariant.heads c.take_heads.new.queue.keys c.take_heads.new.places.items
    c.in_ok-take_heads.ensures (λ e. c.if-len-before.false (omega (arith, e, c.len.ensures, c.len-before.ensures, c.loop-self.self.places.ok.0, c.take_heads.new.places.ok.0)))

pub loop-self-preserved : goal.loop-self-preserved
loop-self-preserved g c =
    let cut = cut_off c.loop-self.self.places.items c.take_heads.new.places.items c.deref.result.now c.len-before.result c.deref.ensures.value
    (omega (arith, c.len-before.ensures, c.loop-self.self.places.ok.0)) in
    record {
      heads = heads_more c.args.pricing.now.measure c.args.pricing.now.supporters.now c.as_slice-rests.result.now c.args.most c.args.self.now.queue.keys c.loop-self.self.queue.keys
          c.loop-self.self.places.items c.loop-self.self.fresh.keys.items c.loop-self.self.fresh.best c.loop-self.invariant.heads c.take_heads.new.queue.keys c.take_heads.new.places.items
          c.in_ok-take_heads.ensures (λ e. c.if-len-before.false (omega (arith, e, c.len.ensures, c.len-before.ensures, c.loop-self.self.places.ok.0, c.take_heads.new.places.ok.0))) c.price_heads.new.fresh.keys.items
          (c.in_ok-price_heads.ensures.fresh
          ∙ ap (λ xs. c.loop-self.self.fresh.keys.items ++ keys_at c.args.pricing.now.measure c.args.pricing.now.supporters.now c.as_slice-rests.result.now xs) cut)
          c.price_heads.new.fresh.best c.in_ok-price_heads.ensures.best;
      counted = counted_more c.args.pricing.now.measure c.args.pricing.now.supporters.now c.as_slice-rests.result.now c.args.most c.args.self.now.queue.keys c.loop-self.self.queue.keys
          c.loop-self.self.places.items c.loop-self.self.fresh.keys.items c.loop-self.self.fresh.best c.loop-self.invariant.heads c.take_heads.new.queue.keys c.take_heads.new.places.items
          c.in_ok-take_heads.ensures c.loop-self.tally.prices c.price_heads.new.tally.prices _ c.loop-self.invariant.counted cut c.in_ok-price_heads.ensures.counted c.requires.few;
    }

pub returns-clause-priced : goal.returns-clause-priced
returns-clause-priced g c = rw (← c.outcome.view_is)
    (subst (λ (rests : List ℕ). PricesHeads c.args.pricing.now.measure c.args.pricing.now.supporters.now rests c.args.most c.args.self.now.queue.keys
    c.take_heads.new.queue.keys c.take_heads.new.places.items c.loop-self.self.fresh.keys.items c.loop-self.self.fresh.best)
    c.as_slice-rests.ensures.value
    (none_taken c.args.pricing.now.measure c.args.pricing.now.supporters.now c.as_slice-rests.result.now c.args.most c.args.self.now.queue.keys c.loop-self.self.queue.keys
    c.loop-self.self.places.items c.loop-self.self.fresh.keys.items c.loop-self.self.fresh.best c.loop-self.invariant.heads c.take_heads.new.queue.keys c.take_heads.new.places.items
    c.in_ok-take_heads.ensures (omega (arith, c.if-len-before.true, c.len.ensures, c.len-before.ensures, c.loop-self.self.places.ok.0, c.take_heads.new.places.ok.0))).0)

pub returns-clause-done : goal.returns-clause-done
returns-clause-done g c =
    (none_taken c.args.pricing.now.measure c.args.pricing.now.supporters.now c.as_slice-rests.result.now c.args.most c.args.self.now.queue.keys c.loop-self.self.queue.keys
    c.loop-self.self.places.items c.loop-self.self.fresh.keys.items c.loop-self.self.fresh.best c.loop-self.invariant.heads c.take_heads.new.queue.keys c.take_heads.new.places.items
    c.in_ok-take_heads.ensures (omega (arith, c.if-len-before.true, c.len.ensures, c.len-before.ensures, c.loop-self.self.places.ok.0, c.take_heads.new.places.ok.0))).1

pub slice_bounds-heads-count : goal.slice_bounds-heads-count
slice_bounds-heads-count g c =
    let taken = c.in_ok-take_heads.ensures in
    omega (arith, c.len-before.ensures, c.loop-self.self.places.ok.0, ap length (c.deref.ensures.value ∙ taken.placed), length-append c.loop-self.self.places.items (places_of taken.heads))

pub price_heads-requires-clause-rests : goal.price_heads-requires-clause-rests
price_heads-requires-clause-rests g c = λ κs _.
    subst (AreRests c.args.pricing.now.supporters.now.voters) (sym c.as_slice-rests.ensures.value) (rw (← c.outcome.view_is) at c.requires.rests)
