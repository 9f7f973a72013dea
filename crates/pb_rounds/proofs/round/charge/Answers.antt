use Rattle.std.proofs.Common.{rules, sym, arith}
use Rattle.pb_rounds.proofs.ChargeStep.{charged-none, charge_step-collected, charge_step-rests, charge_step-fits}
use Rattle.pb_rounds.proofs.round.charge.Goals as goal

pub loop-voter-init : goal.loop-voter-init
loop-voter-init c = record { collected = search rules; rests = sym (charged-none _ _) }

pub overflow_add-collected : goal.overflow_add-collected
overflow_add-collected c =
    let within = charge_step-fits c.args.supporters.now c.args.price c.args.rests.now c.loop-voter.voter-index c.requires.rise c.loop-voter-test.true
    c.requires.known c.loop-voter.rests c.loop-voter.invariant.rests c.loop-voter.collected c.loop-voter.invariant.collected
    c.rest.inside.0 c.index-rests-voter.result c.min-payment.result c.rest.view_is (rw c.price.view_is at c.min-payment.ensures) in
    omega (arith, within, c.requires.fits)

pub loop-voter-preserved : goal.loop-voter-preserved
loop-voter-preserved c = record {
  collected = charge_step-collected c.args.supporters.now c.args.price c.args.rests.now c.loop-voter.voter-index c.requires.rise c.loop-voter-test.true
      c.requires.known c.loop-voter.rests c.loop-voter.invariant.rests c.loop-voter.collected c.loop-voter.invariant.collected
      c.rest.inside.0 c.index-rests-voter.result c.min-payment.result c.rest.view_is (rw c.price.view_is at c.min-payment.ensures);
  rests = charge_step-rests c.args.supporters.now c.args.price c.args.rests.now c.loop-voter.voter-index c.requires.rise c.loop-voter-test.true
      c.requires.known c.loop-voter.rests c.loop-voter.invariant.rests c.loop-voter.collected c.loop-voter.invariant.collected
      c.rest.inside.0 c.index-rests-voter.result c.min-payment.result c.rest.view_is (rw c.price.view_is at c.min-payment.ensures);
}
