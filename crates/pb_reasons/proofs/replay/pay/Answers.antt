use Rattle.std.proofs.Common.{◌≡◌, ◌∙◌, ◌+◌, cond, ap, refl, sym, arith}
use Rattle.std.proofs.lemmas.Bool.{eq-eqb, ne_eqb}
use Rattle.pb_rounds.proofs.ChargeStep.{charged-none, charge_step-rests}
use Rattle.pb_reasons.proofs.Paying.{full_more}
use Rattle.pb_reasons.proofs.replay.pay.Goals as goal
use Rattle.pb_reasons.proofs.replay.pay.Goals.{then-payment-price, else-payment-price}

pub loop-voter-init : goal.loop-voter-init
loop-voter-init c = record { in_full = refl; rests = sym (charged-none _ _) }

pub loop-voter-preserved : goal.loop-voter-preserved
loop-voter-preserved c =
    let more = full_more c.args.supporters.now c.args.price c.args.rests.now c.loop-voter.voter-index c.requires.rise c.loop-voter-test.true
    c.requires.known c.loop-voter.rests c.loop-voter.invariant.rests
    c.rest.inside.0 c.index-rests-voter.result c.min-payment.result c.rest.view_is (rw c.price.view_is at c.min-payment.ensures)
    c.loop-voter.in_full c.loop-voter.invariant.in_full in
    record {
      in_full = elim c.if-payment-price.branch [
        | then-payment-price w ↦
            w.in_full-is ∙ sym (more ∙ ap (λ b. c.loop-voter.in_full + cond b 1 0) (eq-eqb c.min-payment.result c.args.price (w.if-payment-price.true ∙ c.price.view_is)))
        | else-payment-price w ↦
            let none : c.loop-voter.in_full + 0 ≡ c.loop-voter.in_full = omega arith in
            w.in_full-is ∙ sym (more ∙ ap (λ b. c.loop-voter.in_full + cond b 1 0) (ne_eqb c.min-payment.result c.args.price (λ same. w.if-payment-price.false (same ∙ sym c.price.view_is))) ∙ none)
      ];
      rests = charge_step-rests c.args.supporters.now c.args.price c.args.rests.now c.loop-voter.voter-index c.requires.rise c.loop-voter-test.true
          c.requires.known c.loop-voter.rests c.loop-voter.invariant.rests _ refl
          c.rest.inside.0 c.index-rests-voter.result c.min-payment.result c.rest.view_is (rw c.price.view_is at c.min-payment.ensures);
    }
