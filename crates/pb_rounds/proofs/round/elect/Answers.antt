use Rattle.std.proofs.Common.{length, ap, ◌∙◌}
use Rattle.pb_price.proofs.SupporterLists.{known_voters, supporters_increase}
use Rattle.pb_price.specs.Price.{due}
use Rattle.pb_rounds.specs.Outcome.{OutcomeView}
use Rattle.pb_rounds.proofs.Collected.{fits_at}
use Rattle.pb_rounds.proofs.round.elect.Goals as goal

pub charge-collected-requires-clause-known : goal.charge-collected-requires-clause-known
charge-collected-requires-clause-known g c =
    known_voters c.args.supporters.now c.of.ensures.is_support c.args.best.place c.requires.known c.of.result.now c.deref_mut.result.now (rw c.place-place.ensures at c.of.ensures.supporters)
    (ap length c.deref_mut.ensures.value ∙ ap (λ (o : OutcomeView). length o.rests) c.outcome.view_is ∙ c.requires.rests.one_each)

pub charge-collected-requires-clause-rise : goal.charge-collected-requires-clause-rise
charge-collected-requires-clause-rise g c =
    supporters_increase c.args.supporters.now c.of.ensures.is_support c.args.best.place c.requires.known c.of.result.now (rw c.place-place.ensures at c.of.ensures.supporters)

pub charge-collected-requires-clause-fits : goal.charge-collected-requires-clause-fits
charge-collected-requires-clause-fits g c =
    fits_at c.args.supporters.now c.of.ensures.is_support c.outcome.inside.rests.items c.args.best.place c.args.best.price c.requires.known
    (rw (← c.outcome.view_is) at c.requires.price) _ (rw c.place-place.ensures at c.of.ensures.supporters) _ c.deref_mut.ensures.value _ (c.due-price.ensures ∙ ap due c.price-exact.ensures.price)
