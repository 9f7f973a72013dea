use Rattle.pb_rounds.proofs.FrontSteps.{can_pay_more, pay_all}
use Rattle.pb_rounds.proofs.front.can_pay.Goals as goal

pub loop-voter-preserved : goal.loop-voter-preserved
loop-voter-preserved c =
    can_pay_more c.args.supporters.now c.args.rests.now c.args.least c.loop-voter.voter-index c.index-rests-voter.result c.loop-voter-test.true
    c.requires c.loop-voter.invariant c.index-rests-voter.is c.lt.result c.lt.ensures c.if-lt.false

pub returns : goal.returns
returns c _ =
    pay_all c.args.supporters.now c.args.rests.now c.args.least c.loop-voter.voter-index c.loop-voter-test.false c.loop-voter.invariant
