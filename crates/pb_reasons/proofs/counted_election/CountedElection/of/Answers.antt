use Rattle.std.proofs.Common.{subst, sym}
use Rattle.pb_reasons.specs.Counted.{CountedView}
use Rattle.pb_reasons.specs.Inner.Told.{CanBeTold}
use Rattle.pb_reasons.proofs.Tellable.{count_can_be_told}
use Rattle.pb_reasons.proofs.counted_election.CountedElection.of.Goals as goal

pub of-totals-requires-clause-told : goal.of-totals-requires-clause-told
of-totals-requires-clause-told c =
    let told = count_can_be_told c.args.election c.args.rule.options c.args.outcome c.budget-budget.ensures.is_election c.requires.outcome in
    subst (λ (v : CountedView). CanBeTold c.args.rule.options.grain c.args.election v.outcome) (sym c.in_ok-counted.ensures) told

pub of-requires-2-clause-told : goal.of-requires-2-clause-told
of-requires-2-clause-told c =
    let told = count_can_be_told c.args.election c.args.rule.options c.args.outcome c.budget-budget.ensures.is_election c.requires.outcome in
    subst (λ (v : CountedView). CanBeTold c.args.rule.options.grain c.args.election v.outcome) (sym c.in_ok-counted.ensures) told
