use Rattle.std.proofs.Common.{◌≡◌, ◌∙◌, ◌++◌, ◌∷◌, [], ℕ, List, ap, arith, length, subst, sym}
use Rattle.std.specs.Prelude.{swap}
use Rattle.std.specs.List.{range_with_len}
use Rattle.std.proofs.lemmas.List.FromFn.{length-range_with_len}
use Rattle.pb_core.specs.Order.{IsOrder}
use Rattle.pb_price.proofs.BuiltLists.{range_with_len_more}
use Rattle.pb_reasons.proofs.Exchanges.{as_long, exchanged_is_order}
use Rattle.pb_reasons.proofs.exchange.exchanged.Goals as goal

pub loop-place-preserved : goal.loop-place-preserved
loop-place-preserved c =
    c.in_ok-push.ensures.items ∙ ap (λ (ps : List ℕ). ps ++ c.loop-place.place ∷ []) c.loop-place.invariant ∙ sym (range_with_len_more c.loop-place.place)

pub swap-requires-clause-i_in_bounds : goal.swap-requires-clause-i_in_bounds
swap-requires-clause-i_in_bounds c =
    omega (arith, c.requires.winner, c.loop-place-test.false, ap length c.loop-place.invariant, length-range_with_len 0 c.loop-place.place)

pub swap-requires-clause-j_in_bounds : goal.swap-requires-clause-j_in_bounds
swap-requires-clause-j_in_bounds c =
    omega (arith, c.requires.other, c.loop-place-test.false, ap length c.loop-place.invariant, length-range_with_len 0 c.loop-place.place)

these_are : (c : goal.After-swap) → c.swap.new.self.items ≡ swap (range_with_len 0 c.args.projects) c.args.tie.winner c.args.tie.other
these_are c =
    let all : c.loop-place.place ≡ c.args.projects = omega (arith, c.loop-place-test.false, c.loop-place.auto.place-end) in
    c.swap.ensures.items ∙ ap (λ (ps : List ℕ). swap ps c.args.tie.winner c.args.tie.other) (c.loop-place.invariant ∙ ap (range_with_len 0) all)

pub of-requires-clause-few : goal.of-requires-clause-few
of-requires-clause-few c =
    omega (arith, c.requires.few, ap length (these_are c), as_long c.args.projects c.args.tie.winner c.args.tie.other c.requires.winner c.requires.other)

pub of-requires-clause-each_once : goal.of-requires-clause-each_once
of-requires-clause-each_once c =
    subst IsOrder (sym (these_are c)) (exchanged_is_order c.args.projects c.args.tie.winner c.args.tie.other c.requires.winner c.requires.other)
