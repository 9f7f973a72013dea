use Rattle.std.proofs.Common.{◌∙◌, ap, arith, length}
use Rattle.std.proofs.lemmas.List.{get_or_default}
use Rattle.pb_reasons.specs.declared.payment.Payment.{Payment}
use Rattle.pb_reasons.proofs.Moneys.{placed_at}
use Rattle.pb_reasons.proofs.money_teller.number_behind.Goals as goal

pub returns-then-other-amount : goal.returns-then-other-amount
returns-then-other-amount c = λ p same some.
    let most = c.args.most.now in
    let at = c.loop-at.at in
    let below = c.loop-at-test.true in
    let read = ap (λ (q : Payment). q.amount) (c.index-most-at.is ∙ get_or_default most at _ p below) in
    let other = ap (λ (q : Payment). q.amount) c.other.view_is in (
      omega (arith, below),
      placed_at most at p p (omega (arith, below)) (λ k before. let all = c.loop-at.invariant k p before in omega (arith, all, same))
          (λ inside. omega (arith, c.if-other-amount.true, read, other, c.amount.view_is, same)) some,
    )

pub returns : goal.returns
returns c = λ p same some.
    let most = c.args.most.now in (
      omega arith,
      placed_at most (length most) p p (omega arith)
          (λ k below. let all = c.loop-at.invariant k p (omega (arith, below, c.loop-at-test.false)) in omega (arith, all, same))
          (λ inside. absurd (omega (arith, inside))) some,
    )
