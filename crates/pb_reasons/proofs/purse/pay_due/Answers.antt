use Rattle.std.proofs.Common.{◌∙◌, ap, refl}
use Rattle.std.proofs.lemmas.List.{length-set}
use Rattle.pb_rounds.specs.Run.{ElectedView}
use Rattle.pb_reasons.proofs.Turns.{paid-all, paid-more}
use Rattle.pb_reasons.proofs.purse.pay_due.Goals as goal

pub loop-round-preserved : goal.loop-round-preserved
loop-round-preserved c = record {
  one_each = length-set c.loop-round.amounts.items _ _ ∙ c.loop-round.invariant.one_each;
  paid = λ ballot due.
      let price = c.price.view_is ∙ ap (λ (w : ElectedView). w.price) c.winner.view_is in
      paid-more ballot c.args.share c.args.elected.now c.args.due.now due c.loop-round.round-index c.loop-round-test.true _ refl
      c.index-elected-round.result c.index-elected-round.is c.loop-round.rest c.min-amount.result (rw price at c.min-amount.ensures)
      c.loop-round.amounts.items c.loop-round.invariant.one_each (c.loop-round.invariant.paid ballot due);
}

pub returns-clause-paid : goal.returns-clause-paid
returns-clause-paid c = λ ballot due.
    paid-all ballot c.args.share c.args.elected.now c.args.due.now c.loop-round.round-index c.loop-round.rest c.loop-round.amounts.items c.loop-round-test.false (c.loop-round.invariant.paid ballot due)
