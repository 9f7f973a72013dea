use Rattle.std.proofs.Common.{ap, ◌∙◌}
use Rattle.std.proofs.lemmas.Result.{on_ok_weaker}
use Rattle.pb_reasons.proofs.Results.{counted_is_result, result_is_added}
use Rattle.pb_reasons.proofs.Tellable.{counted_can_be_told}
use Rattle.pb_rounds.specs.Outcome.{OutcomeView}
use Rattle.pb_commands.specs.Report.{report_of}
use Rattle.pb_commands.proofs.RowsGrown.{rows_grown}
use Rattle.pb_commands.proofs.UnitTexts.{counted_payers}
use Rattle.pb_commands.proofs.report.put_report.Goals as goal

pub returns : goal.returns
unfolding report_of
returns c =
    let elected = rw (c.as_slice.ensures.value, ap (λ (o : OutcomeView). o.elected) (c.outcome.view_is ∙ c.outcome-outcome.ensures.outcome)) at c.in_ok-put_elected.ensures in
    let added = rw c.added.ensures at c.in_ok-put_added.ensures in
    on_ok_weaker c.put_closing.result (λ closing. rows_grown _ _ _ _ _ c.in_ok-put_opening.ensures (rows_grown _ _ _ _ _ elected (rows_grown _ _ _ _ _ added closing)))
    c.put_closing.ensures

pub put_elected-requires-clause-known : goal.put_elected-requires-clause-known
put_elected-requires-clause-known c =
    let told = counted_can_be_told c.args.count.now c.outcome-outcome.ensures.is_counted in
    rw (c.as_slice.ensures.value, ap (λ (o : OutcomeView). o.elected) (c.outcome.view_is ∙ c.outcome-outcome.ensures.outcome)) told.known

pub put_elected-requires-clause-payers : goal.put_elected-requires-clause-payers
put_elected-requires-clause-payers c =
    let payers = counted_payers c.args.count.now c.outcome-outcome.ensures.is_counted in
    rw (c.as_slice.ensures.value, ap (λ (o : OutcomeView). o.elected) (c.outcome.view_is ∙ c.outcome-outcome.ensures.outcome)) payers

pub put_added-requires : goal.put_added-requires
put_added-requires c =
    let is = c.outcome-outcome.ensures.is_counted in
    let added = result_is_added c.args.count.now.election c.args.count.now.counted is.is_election (counted_is_result c.args.count.now is) in
    rw c.added.ensures added.known
