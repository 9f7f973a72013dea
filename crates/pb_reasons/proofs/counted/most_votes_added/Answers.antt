use Rattle.std.proofs.Common.{◌∙◌, ap}
use Rattle.pb_rounds.specs.Outcome.{OutcomeView}
use Rattle.pb_reasons.proofs.Tellable.{count_can_be_told}
use Rattle.pb_reasons.proofs.counted.most_votes_added.Goals as goal

pub spent_for-requires-clause-known : goal.spent_for-requires-clause-known
spent_for-requires-clause-known c =
    let told = count_can_be_told c.args.election.now c.requires.0 c.args.outcome.now c.budget-budget.ensures.is_election c.requires.1 in
    let elected = c.as_slice-elected.ensures.value ∙ ap (λ (v : OutcomeView). v.elected) c.outcome.view_is in
    rw elected told.known
