use Rattle.std.proofs.Common.{◌*◌, ◌<◌, ◌^◌, subst, sym, ◌∙◌, arith}
use Rattle.pb_price.proofs.SupporterLists.{support_form}
use Rattle.pb_rounds.specs.declared.measure.Measure.TheVariants.{Cost}
use Rattle.pb_rounds.proofs.Payers.{key_fits}
use Rattle.pb_rounds.proofs.measure.Measure.weight.Goals as goal

pub returns-in-Cost-clause-positive : goal.returns-in-Cost-clause-positive
returns-in-Cost-clause-positive g c =
    omega (arith, (support_form _ c.cost.ensures.is_support).costs_positive c.args.place 0 c.requires, c.cost.ensures.cost, c.result.view_is)

pub returns-in-Cost-clause-fits : goal.returns-in-Cost-clause-fits
returns-in-Cost-clause-fits g c price has =
    subst (λ n. price.payers * n < 2 ^ 64) (sym (c.result.view_is ∙ c.cost.ensures.cost))
    (key_fits Cost c.args.supporters.now c.cost.ensures.is_support c.args.place c.requires price has)

pub returns-in-Votes-clause-fits : goal.returns-in-Votes-clause-fits
returns-in-Votes-clause-fits g c price has =
    let few = has.few in
    let voters = (support_form _ c.voters-voters.ensures.is_support).few_voters in omega (arith, few, voters)
