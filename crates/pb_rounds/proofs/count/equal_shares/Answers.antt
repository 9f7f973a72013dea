use Rattle.std.proofs.Common.{sym, ◌∙◌}
use Rattle.std.proofs.lemmas.Result.{IfOk-from_err}
use Rattle.pb_rounds.proofs.Counted.{costs_fit, shared_from_run}
use Rattle.pb_rounds.proofs.count.equal_shares.Goals as goal

pub build_in-requires : goal.build_in-requires
build_in-requires g c = costs_fit c.args.options.now.grain c.args.election.now (sym c.has_too_fine_cost.ensures ∙ c.if-has_too_fine_cost.false)

pub returns-clause-outcome : goal.returns-clause-outcome
returns-clause-outcome g c =
    (shared_from_run c.args.options.now.measure c.args.options.now.grain c.args.election.now c.in_ok-supporters.supporters c.in_ok-supporters.ensures c.args.options.now.workers c.args.share
    c.in_ok-outcome.outcome c.in_ok-outcome.ensures).outcome

pub returns-clause-priced : goal.returns-clause-priced
returns-clause-priced g c =
    (shared_from_run c.args.options.now.measure c.args.options.now.grain c.args.election.now c.in_ok-supporters.supporters c.in_ok-supporters.ensures c.args.options.now.workers c.args.share
    c.in_ok-outcome.outcome c.in_ok-outcome.ensures).priced

pub returns-clause-one_more : goal.returns-clause-one_more
returns-clause-one_more g c =
    (shared_from_run c.args.options.now.measure c.args.options.now.grain c.args.election.now c.in_ok-supporters.supporters c.in_ok-supporters.ensures c.args.options.now.workers c.args.share
    c.in_ok-outcome.outcome c.in_ok-outcome.ensures).one_more

pub returns-clause-price_system : goal.returns-clause-price_system
returns-clause-price_system g c =
    (shared_from_run c.args.options.now.measure c.args.options.now.grain c.args.election.now c.in_ok-supporters.supporters c.in_ok-supporters.ensures c.args.options.now.workers c.args.share
    c.in_ok-outcome.outcome c.in_ok-outcome.ensures).price_system

pub returns-in_err-supporters-clause-outcome : goal.returns-in_err-supporters-clause-outcome
returns-in_err-supporters-clause-outcome g c = IfOk-from_err _ _ c.from_residual.ensures.0

pub returns-in_err-supporters-clause-priced : goal.returns-in_err-supporters-clause-priced
returns-in_err-supporters-clause-priced g c = IfOk-from_err _ _ c.from_residual.ensures.0

pub returns-in_err-supporters-clause-one_more : goal.returns-in_err-supporters-clause-one_more
returns-in_err-supporters-clause-one_more g c = IfOk-from_err _ _ c.from_residual.ensures.0

pub returns-in_err-supporters-clause-price_system : goal.returns-in_err-supporters-clause-price_system
returns-in_err-supporters-clause-price_system g c = IfOk-from_err _ _ c.from_residual.ensures.0

pub returns-in_err-outcome-clause-outcome : goal.returns-in_err-outcome-clause-outcome
returns-in_err-outcome-clause-outcome g c = IfOk-from_err _ _ c.from_residual-in_err-outcome.ensures.0

pub returns-in_err-outcome-clause-priced : goal.returns-in_err-outcome-clause-priced
returns-in_err-outcome-clause-priced g c = IfOk-from_err _ _ c.from_residual-in_err-outcome.ensures.0

pub returns-in_err-outcome-clause-one_more : goal.returns-in_err-outcome-clause-one_more
returns-in_err-outcome-clause-one_more g c = IfOk-from_err _ _ c.from_residual-in_err-outcome.ensures.0

pub returns-in_err-outcome-clause-price_system : goal.returns-in_err-outcome-clause-price_system
returns-in_err-outcome-clause-price_system g c = IfOk-from_err _ _ c.from_residual-in_err-outcome.ensures.0
