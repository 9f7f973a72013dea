use Rattle.std.proofs.Common.{◌∙◌, subst}
use Rattle.pb_price.specs.Supporters.{SupportView}
use Rattle.pb_rounds.specs.Count.{share_after}
use Rattle.pb_rounds.specs.Inner.RaiseEnds.{IsOutcomeAt}
use Rattle.pb_rounds.proofs.Completing.{completion_at}
use Rattle.pb_rounds.proofs.Room.{room_goes_on}
use Rattle.pb_rounds.proofs.side_by_side.complete.Goals as goal

pub returns-in_ok-outcome_after-in-Some-clause-completed : goal.returns-in_ok-outcome_after-in-Some-clause-completed
returns-in_ok-outcome_after-in-Some-clause-completed g c =
    completion_at c.args.pricing.now.measure c.args.pricing.now.supporters.now.grain c.args.election.now c.args.pricing.now.workers c.args.step c.args.max_raises c.in-Some.raises
    (c.in_ok-raises.ensures.0 ∙ c.in-Some.is) c.in_ok-outcome_after-in-Some.field-0
    (subst (λ (s : SupportView). IsOutcomeAt c.args.pricing.now.measure s c.args.pricing.now.workers
    (share_after c.args.pricing.now.supporters.now.grain c.args.election.now c.args.step c.in-Some.raises) c.in-Some.raises c.in_ok-outcome_after-in-Some.field-0)
    c.requires.given.own_supporters c.in_ok-outcome_after-in-Some.ensures)

pub decide-requires-clause-tried : goal.decide-requires-clause-tried
decide-requires-clause-tried g c κs within raises below =
    room_goes_on c.args.pricing.now.measure c.args.pricing.now.supporters.now.grain c.args.election.now c.args.step raises c.args.pricing.now.supporters.now c.requires.given.own_supporters
    c.budget-budget.result c.budget-budget.ensures.budget c.opening_of-opening.result c.opening_of-opening.ensures.share
    (c.raises_with_room-first.ensures.room raises below)
