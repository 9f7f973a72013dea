use Rattle.std.proofs.Common.{◌≡◌, ◌<◌, arith, below_more, false, get_or, length, true}
use Rattle.std.specs.Prelude.{slice_index_or}
use Rattle.pb_core.proofs.Orders.{order_known}
use Rattle.pb_reasons.proofs.Exchanged.{all_won, not_as_many, one_other, the_flag}
use Rattle.pb_reasons.proofs.exchange.differ.Goals as goal

pub returns-then-winners-before : goal.returns-then-winners-before
returns-then-winners-before c = λ x rule e before.
    not_as_many c.args.places.now c.args.winners.now c.requires.order c.requires.known c.requires.differ c.args.before.now.has_won.items c.requires.one_each
    c.args.before.now.winners x rule e before c.if-winners-before.true

pub index-requires : goal.index-requires
index-requires c =
    let w = get_or c.args.winners.now c.loop-winner.winner-index 0 in
    omega (arith, order_known c.args.places.now c.requires.order w 0 (c.requires.known c.loop-winner.winner-index 0 c.loop-winner-test.true), c.requires.one_each)

pub returns-then-not-index : goal.returns-then-not-index
returns-then-not-index c = λ x rule e before.
    let i = c.loop-winner.winner-index in
    let w = get_or c.args.winners.now i 0 in
    let place = get_or c.args.places.now w 0 in
    let below : place < length c.args.before.now.has_won.items =
    omega (arith, order_known c.args.places.now c.requires.order w 0 (c.requires.known i 0 c.loop-winner-test.true), c.requires.one_each) in
    one_other c.args.places.now c.args.winners.now c.requires.order c.requires.known c.requires.differ c.args.before.now.has_won.items c.requires.one_each
    c.args.before.now.winners x rule e before i c.loop-winner-test.true
    (the_flag c.args.before.now.has_won.items place c.index.result.now false below c.index.ensures c.if-not-index.true)

pub loop-winner-preserved : goal.loop-winner-preserved
loop-winner-preserved c =
    let i = c.loop-winner.winner-index in
    let w = get_or c.args.winners.now i 0 in
    let place = get_or c.args.places.now w 0 in
    let below : place < length c.args.before.now.has_won.items =
    omega (arith, order_known c.args.places.now c.requires.order w 0 (c.requires.known i 0 c.loop-winner-test.true), c.requires.one_each) in
    below_more (λ k. slice_index_or c.args.before.now.has_won.items (get_or c.args.places.now (get_or c.args.winners.now k 0) 0) false ≡ true) i
    c.loop-winner.invariant
    (the_flag c.args.before.now.has_won.items place c.index.result.now true below c.index.ensures c.if-not-index.false)

pub returns : goal.returns
returns c = λ x rule e before.
    all_won c.args.places.now c.args.winners.now c.requires.order c.requires.known c.requires.differ c.args.before.now.has_won.items c.requires.one_each
    c.args.before.now.winners x rule e before c.if-winners-before.false
    (λ i below. c.loop-winner.invariant i (omega (arith, below, c.loop-winner-test.false)))
