use Rattle.std.proofs.Common.{◌∙◌, ap}
use Rattle.pb_rounds.specs.Outcome.{OutcomeView}
use Rattle.pb_reasons.proofs.totals.Totals.of_elected.Goals as goal

pub spent_for-spent-requires : goal.spent_for-spent-requires
spent_for-spent-requires c =
    let elected = c.as_slice-elected.ensures.value ∙ ap (λ (v : OutcomeView). v.elected) c.outcome.view_is in
    record { known = rw elected c.requires.known; fits = rw elected c.requires.spent }

pub collected_for-requires : goal.collected_for-requires
collected_for-requires c =
    let elected = c.as_slice-elected.ensures.value ∙ ap (λ (v : OutcomeView). v.elected) c.outcome.view_is in
    rw elected c.requires.collected
