use Rattle.std.proofs.Common.{◌≡◌, sym, ◌∙◌, subst, arith}
use Rattle.std.specs.Prelude.{All}
use Rattle.std.proofs.lemmas.Bool.{eqb-true, not-false}
use Rattle.std.proofs.lemmas.List.{take_all}
use Rattle.std.proofs.lemmas.List.Elements.{All-more}
use Rattle.pb_price.proofs.common_rest.common_rest.Goals as goal

pub loop-rest-init : goal.loop-rest-init
loop-rest-init g c k d below = absurd (omega (arith, below))

pub loop-rest-preserved : goal.loop-rest-preserved
loop-rest-preserved g c =
    let same = eqb-true c.rest-item.result c.in_ok-share.field-0.now (not-false _ (sym c.ne.ensures ∙ c.if-ne.false)) in
    All-more (λ rest. rest ≡ c.in_ok-share.field-0.now) c.args.rests.now c.loop-rest.rest-index c.rest-item.result c.loop-rest-test.true
    c.loop-rest.invariant (sym c.rest-item.is ∙ same)

pub returns : goal.returns
returns g c =
    subst (λ rests. All (λ rest. rest ≡ c.in_ok-share.field-0.now) rests)
    (take_all c.loop-rest.rest-index c.args.rests.now c.loop-rest-test.false) c.loop-rest.invariant
