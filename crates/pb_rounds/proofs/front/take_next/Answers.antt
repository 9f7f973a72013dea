use Rattle.std.proofs.Common.{◌∙◌, length, ap, arith}
use Rattle.pb_rounds.specs.Outcome.{OutcomeView}
use Rattle.pb_price.proofs.SupporterLists.{known_voters}
use Rattle.pb_rounds.proofs.Fronts.{first_in, pays_by, taken_is}
use Rattle.pb_rounds.proofs.front.take_next.Goals as goal

pub of-list-requires : goal.of-list-requires
of-list-requires g c =
    let known = c.requires.known c.in_ok-head.field-0.now (first_in c.args.queue.now.keys c.in_ok-head.field-0.now c.in_ok-head.ensures.first) in
    omega (arith, known, c.place.ensures)

pub can_pay-requires : goal.can_pay-requires
can_pay-requires g c =
    let known = c.requires.known c.in_ok-head.field-0.now (first_in c.args.queue.now.keys c.in_ok-head.field-0.now c.in_ok-head.ensures.first) in
    known_voters c.args.supporters.now c.of-list.ensures.is_support c.place.result (omega (arith, known, c.place.ensures))
    c.of-list.result.now c.as_slice.result.now c.of-list.ensures.supporters
    (ap length (c.as_slice.ensures.value ∙ ap (λ (o : OutcomeView). o.rests) c.outcome.view_is) ∙ c.requires.rests)

pub returns : goal.returns
returns g c =
    taken_is c.pop_first.result c.args.queue.now.keys c.pop_first.new.self.keys c.in_ok-head.field-0.now c.args.supporters.now c.args.outcome.now.rests
    c.in_ok-head.ensures.first c.pop_first.ensures.removal c.pop_first.ensures.unchanged
    (pays_by c.args.supporters.now c.of-list.result.now c.as_slice.result.now c.args.outcome.now.rests c.least_rest-least.result c.place.result c.price.result c.in_ok-head.field-0.now
    c.of-list.ensures.supporters c.place.ensures (c.as_slice.ensures.value ∙ ap (λ (o : OutcomeView). o.rests) c.outcome.view_is) c.price.ensures.price
    c.price.ensures.positive c.least_rest-least.ensures (c.can_pay.ensures c.if-not-can_pay.false))
