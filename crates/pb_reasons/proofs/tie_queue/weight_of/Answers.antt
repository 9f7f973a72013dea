use Rattle.std.proofs.Common.{arith}
use Rattle.pb_price.proofs.SupporterLists.{support_form}
use Rattle.pb_reasons.proofs.tie_queue.weight_of.Goals as goal

pub returns-in-Cost-clause-positive : goal.returns-in-Cost-clause-positive
returns-in-Cost-clause-positive c =
    omega (arith, (support_form _ c.cost.ensures.is_support).costs_positive c.args.place 0 c.requires, c.cost.ensures.cost, c.result.view_is)
