use Rattle.std.proofs.Common.{[], ◌∷◌, ◌++◌, replicate, ◌∙◌, ap, arith}
use Rattle.std.proofs.lemmas.List.{replicate-append-replicate}
use Rattle.pb_price.proofs.supporters.empty_lists.Goals as goal

pub loop-count-init : goal.loop-count-init
loop-count-init g c = c.in_ok-lists.ensures.items

pub loop-count-preserved : goal.loop-count-preserved
loop-count-preserved g c =
    c.in_ok-push.ensures.items ∙ ap (λ xs. xs ++ c.in_ok-list.list ∷ []) c.loop-count.invariant
    ∙ ap (λ x. replicate c.loop-count.count-index [] ++ x ∷ []) c.in_ok-list.ensures
    ∙ replicate-append-replicate c.loop-count.count-index 1 []

pub returns : goal.returns
returns g c =
    c.loop-count.invariant
    ∙ ap (λ n. replicate n []) (omega (arith, c.loop-count-test.false, c.loop-count.auto.count-index-end))
