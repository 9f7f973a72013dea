use Rattle.std.proofs.Common.{◌≡◌, ◌∙◌, ◌++◌, ◌∷◌, [], ℕ, List, ap, arith, length, subst, sym}
use Rattle.std.proofs.lemmas.List.FromFn.{length-range_with_len}
use Rattle.pb_core.specs.Order.{IsOrder}
use Rattle.pb_rounds.proofs.FileOrder.{file_is_order}
use Rattle.pb_rounds.proofs.Listed.{range-push}
use Rattle.pb_rounds.proofs.tie_order.file_order.Goals as goal

pub loop-place-preserved : goal.loop-place-preserved
loop-place-preserved c =
    c.in_ok-push.ensures.items ∙ ap (λ (places : List ℕ). places ++ c.loop-place.place ∷ []) c.loop-place.invariant ∙ sym (range-push c.loop-place.place)

pub of-requires-clause-few : goal.of-requires-clause-few
of-requires-clause-few c =
    let many : length c.loop-place.places.items ≡ c.loop-place.place = ap length c.loop-place.invariant ∙ length-range_with_len 0 c.loop-place.place in
    omega (arith, many, c.requires)

pub of-requires-clause-each_once : goal.of-requires-clause-each_once
of-requires-clause-each_once c =
    subst (λ (places : List ℕ). IsOrder places) (sym c.loop-place.invariant) (file_is_order c.loop-place.place)
