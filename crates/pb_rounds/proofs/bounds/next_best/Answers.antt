use Rattle.std.proofs.Common.{◌≡◌, ◌≢◌, ◌*◌, ◌<◌, ◌≤◌, ◌^◌, List, ◌∷◌, Some, subst, sym, ◌∙◌, ap, arith}
use Rattle.pb_price.proofs.Heights.{apart_by_test, height, height_small, highest, price_higher, same_by_test}
use Rattle.pb_price.proofs.Prices.{is_price_from_at, no_price_at_from_short, price_from_is_price}
use Rattle.pb_price.proofs.SupporterLists.{cost_fits, cost_positive, support_form}
use Rattle.pb_price.specs.Price.{AtMost, HasPayers, PriceView, price_at}
use Rattle.pb_rounds.specs.Inner.Bounds.{HasBounds}
use Rattle.pb_rounds.specs.Inner.Queue.{IsDone}
use Rattle.pb_rounds.specs.Key.{KeyView}
use Rattle.pb_rounds.specs.Run.{weight_of}
use Rattle.pb_rounds.proofs.BoundQueue.{fewer_with_higher, head_goes_back, head_is_best, head_known, head_lower, head_payers, head_taken, head_weight, head_without_price, looks_left, none_within}
use Rattle.pb_rounds.proofs.Payers.{key_fits}
use Rattle.pb_rounds.proofs.bounds.next_best.Goals as goal

pub next_bound-requires-clause-known : goal.next_bound-requires-clause-known
next_bound-requires-clause-known g c =
    let b = c.requires.bounds in
    let h = subst (HasBounds b.0 c.args.supporters.now c.args.rests.now b.1) c.in-Some.ensures.0 (c.loop-head.invariant b.0 b.1 b.2) in
    omega (arith, head_known b.0 c.args.supporters.now c.args.rests.now b.1 c.in-Some.head c.take_head.new.queue.keys h, c.place.ensures)

pub next_bound-requires-clause-payers : goal.next_bound-requires-clause-payers
next_bound-requires-clause-payers g c =
    let b = c.requires.bounds in
    let h = subst (HasBounds b.0 c.args.supporters.now c.args.rests.now b.1) c.in-Some.ensures.0 (c.loop-head.invariant b.0 b.1 b.2) in
    subst (HasPayers c.args.supporters.now) (sym c.price-bound.ensures.price) (head_payers b.0 c.args.supporters.now c.args.rests.now b.1 c.in-Some.head c.take_head.new.queue.keys h)

pub next_bound-requires-clause-bound : goal.next_bound-requires-clause-bound
next_bound-requires-clause-bound g c price e =
    let b = c.requires.bounds in
    let h = subst (HasBounds b.0 c.args.supporters.now c.args.rests.now b.1) c.in-Some.ensures.0 (c.loop-head.invariant b.0 b.1 b.2) in
    let known = head_known b.0 c.args.supporters.now c.args.rests.now b.1 c.in-Some.head c.take_head.new.queue.keys h in
    let low = head_lower b.0 c.args.supporters.now c.args.rests.now b.1 c.in-Some.head c.take_head.new.queue.keys h price
    (ap (price_at c.args.supporters.now c.args.rests.now) (sym c.place.ensures)
    ∙ sym (price_from_is_price c.args.supporters.now c.args.rests.now c.place.result
    (cost_positive c.args.supporters.now c.requires.support c.place.result (omega (arith, known, c.place.ensures))) (Some price) e)) in
    subst (λ (p : PriceView). AtMost p price) (sym c.price-bound.ensures.price) low

pub loop-head-preserved-in-None : goal.loop-head-preserved-in-None
loop-head-preserved-in-None g c m left b =
    head_without_price m c.args.supporters.now c.args.rests.now left c.in-Some.head c.take_head.new.queue.keys
    (subst (HasBounds m c.args.supporters.now c.args.rests.now left) c.in-Some.ensures.0 (c.loop-head.invariant m left b))
    (ap (price_at c.args.supporters.now c.args.rests.now) (sym c.place.ensures)
    ∙ no_price_at_from_short c.args.supporters.now c.args.rests.now c.place.result (c.next_bound.ensures.none c.in-None.is))

pub returns-in-Some-next_bound : goal.returns-in-Some-next_bound
returns-in-Some-next_bound g c m left b =
    let h = subst (HasBounds m c.args.supporters.now c.args.rests.now left) c.in-Some.ensures.0 (c.loop-head.invariant m left b) in
    let known = head_known m c.args.supporters.now c.args.rests.now left c.in-Some.head c.take_head.new.queue.keys h in
    let same : c.in-Some-next_bound.next ≡ c.price-bound.result = same_by_test c.in-Some-next_bound.next c.price-bound.result (sym c.eq.ensures ∙ c.if-eq.true) in
    let priced = ap (price_at c.args.supporters.now c.args.rests.now) (sym c.place.ensures)
    ∙ sym (price_from_is_price c.args.supporters.now c.args.rests.now c.place.result
    (cost_positive c.args.supporters.now c.requires.support c.place.result (omega (arith, known, c.place.ensures))) (Some c.price-bound.result) (c.in-Some-next_bound.ensures.price same))
    ∙ ap (λ (p : PriceView). Some p) c.price-bound.ensures.price in (
      head_is_best m c.args.supporters.now c.args.rests.now left c.in-Some.head c.take_head.new.queue.keys h priced,
      head_taken m c.args.supporters.now c.args.rests.now left c.in-Some.head c.take_head.new.queue.keys h,
    )

pub new-requires-clause-fits : goal.new-requires-clause-fits
new-requires-clause-fits g c =
    let b = c.requires.bounds in
    let h = subst (HasBounds b.0 c.args.supporters.now c.args.rests.now b.1) c.in-Some.ensures.0 (c.loop-head.invariant b.0 b.1 b.2) in
    let known = head_known b.0 c.args.supporters.now c.args.rests.now b.1 c.in-Some.head c.take_head.new.queue.keys h in
    let weight = c.weight.ensures.weight ∙ head_weight b.0 c.args.supporters.now c.args.rests.now b.1 c.in-Some.head c.take_head.new.queue.keys h in
    subst (λ n. c.in-Some-next_bound.next.payers * n < 2 ^ 64) (sym weight)
    (key_fits b.0 c.args.supporters.now c.requires.support c.in-Some.head.place known c.in-Some-next_bound.next c.in-Some-next_bound.ensures.payers)

pub loop-head-smaller : goal.loop-head-smaller
loop-head-smaller g c =
    let b = c.requires.bounds in
    let h = subst (HasBounds b.0 c.args.supporters.now c.args.rests.now b.1) c.in-Some.ensures.0 (c.loop-head.invariant b.0 b.1 b.2) in
    let known = head_known b.0 c.args.supporters.now c.args.rests.now b.1 c.in-Some.head c.take_head.new.queue.keys h in
    let apart : c.in-Some-next_bound.next ≢ c.price-bound.result = apart_by_test c.in-Some-next_bound.next c.price-bound.result (sym c.eq.ensures ∙ c.if-eq.false) in
    let has = subst (HasPayers c.args.supporters.now) (sym c.price-bound.ensures.price) (head_payers b.0 c.args.supporters.now c.args.rests.now b.1 c.in-Some.head c.take_head.new.queue.keys h) in
    let more = price_higher c.args.supporters.now (support_form _ c.requires.support).few_voters c.price-bound.result c.in-Some-next_bound.next has c.in-Some-next_bound.ensures.payers
    c.in-Some-next_bound.ensures.rises apart in
    let small = height_small c.in-Some-next_bound.next (2 ^ 64) c.in-Some-next_bound.ensures.payers.some
    (let most = c.in-Some-next_bound.ensures.small apart in
    let fits = cost_fits c.args.supporters.now c.requires.support c.place.result (omega (arith, known, c.place.ensures)) in omega (arith, most, fits)) in
    let price : c.new.result.price ≡ c.in-Some-next_bound.next = ap (λ (k : KeyView). k.price) c.new.ensures in
    subst (λ (queue : List KeyView). looks_left c.insert.new.self.keys < looks_left queue) (sym c.in-Some.ensures.0)
    (subst (λ (queue : List KeyView). looks_left queue < looks_left (c.in-Some.head ∷ c.take_head.new.queue.keys)) (sym c.in_ok-insert-in-Some-2.ensures.keys)
    (fewer_with_higher c.in-Some.head c.new.result c.take_head.new.queue.keys
    (subst (λ (p : PriceView). height c.in-Some.head.price < height p) (sym price) (subst (λ (p : PriceView). height p < height c.in-Some-next_bound.next) c.price-bound.ensures.price more))
    (subst (λ (p : PriceView). height p ≤ highest (2 ^ 64)) (sym price) small)))

pub loop-head-preserved : goal.loop-head-preserved
loop-head-preserved g c m left b =
    let h = subst (HasBounds m c.args.supporters.now c.args.rests.now left) c.in-Some.ensures.0 (c.loop-head.invariant m left b) in
    let known = head_known m c.args.supporters.now c.args.rests.now left c.in-Some.head c.take_head.new.queue.keys h in
    head_goes_back m c.args.supporters.now c.args.rests.now left c.in-Some.head c.take_head.new.queue.keys h c.in-Some-next_bound.next c.in-Some-next_bound.ensures.payers
    (λ p e. c.in-Some-next_bound.ensures.bound p (is_price_from_at c.args.supporters.now c.args.rests.now c.place.result
    (cost_positive c.args.supporters.now c.requires.support c.place.result (omega (arith, known, c.place.ensures))) (Some p)
    (sym (ap (price_at c.args.supporters.now c.args.rests.now) c.place.ensures ∙ e))))
    c.new.result
    (c.new.ensures
    ∙ ap (λ w. record { price = c.in-Some-next_bound.next; weight = w; place = c.place-in-Some-2.result })
    (c.weight.ensures.weight ∙ head_weight m c.args.supporters.now c.args.rests.now left c.in-Some.head c.take_head.new.queue.keys h)
    ∙ ap (λ n. record { price = c.in-Some-next_bound.next; weight = weight_of m c.args.supporters.now c.in-Some.head.place; place = n }) c.place-in-Some-2.ensures)
    c.insert.new.self.keys c.in_ok-insert-in-Some-2.ensures.keys c.insert.ensures.ordered

pub returns : goal.returns
returns g c m left b =
    let queue = c.take_head.new.queue.keys in
    none_within m c.args.supporters.now c.args.rests.now left c.args.limit.now queue
    (subst (HasBounds m c.args.supporters.now c.args.rests.now left) (sym c.in_default.ensures.1) (c.loop-head.invariant m left b))
    (subst (IsDone c.args.limit.now) (sym c.in_default.ensures.1) c.in_default.ensures.0)
