use Rattle.std.proofs.Common.{◌∙◌, ap}
use Rattle.pb_rounds.specs.Outcome.{OutcomeView}
use Rattle.pb_commands.proofs.RowsGrown.{four_grown}
use Rattle.pb_commands.proofs.report.put_opening.Goals as goal

pub returns : goal.returns
returns c =
    let election = c.election-election.ensures.election in
    let outcome = c.outcome.view_is ∙ c.outcome-outcome.ensures.outcome in
    four_grown _ _ _ _ _ _ _ _ _
    (rw (c.amount.ensures, c.budget.ensures.budget, election) at c.in_ok-put_fields.ensures.text)
    (rw (c.voters.ensures.voters, election) at c.in_ok-put_fields-2.ensures.text)
    (rw (c.in_units.ensures, ap (λ (o : OutcomeView). o.share) outcome) at c.in_ok-put_fields-3.ensures.text)
    (rw (c.number.ensures, ap (λ (o : OutcomeView). o.raised) outcome) at c.in_ok-put_fields-4.ensures.text)
