use Rattle.std.proofs.Common.{◌≡◌, ap, arith, length}
use Rattle.pb_rounds.specs.Outcome.{OutcomeView}
use Rattle.pb_reasons.proofs.Tellable.{counted_can_be_told}
use Rattle.pb_reasons.proofs.voter_teller.Turns.of.Goals as goal

pub invariant_of-result : goal.invariant_of-result
invariant_of-result c =
    let count = c.args.count.now in
    let told = counted_can_be_told count c.election.ensures.is_counted in
    let rounds = c.kept.ensures.kept.reasons.rounds in
    let paid : length c.in_ok-purse.purse ≡ length c.outcome-outcome.result.now.elected =
    omega (arith, c.in_ok-purse.ensures, c.len.ensures, c.outcome.inside.elected.ok.0, ap (λ (v : OutcomeView). length v.elected) c.outcome.view_is) in (
      rw (c.election.ensures.election, c.outcome-outcome.ensures.outcome) (count.rule.options.grain, told),
      rw (c.election.ensures.election, c.outcome-outcome.ensures.outcome, c.rounds-rounds.ensures) rounds,
      paid,
    )
