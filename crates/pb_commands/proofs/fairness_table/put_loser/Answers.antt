use Rattle.std.proofs.Common.{◌++◌, ◌∙◌, ap, length}
use Rattle.pb_price.specs.Supporters.{SupportView}
use Rattle.pb_reasons.specs.Fairness.{needed}
use Rattle.pb_rounds.specs.Outcome.{OutcomeView}
use Rattle.pb_rows.specs.Writing.{text_of_row}
use Rattle.pb_commands.proofs.TableColumns.{loser_row_read}
use Rattle.pb_commands.proofs.UnitTexts.{units_of_one}
use Rattle.pb_commands.specs.Report.{in_units}
use Rattle.pb_commands.proofs.fairness_table.put_loser.Goals as goal

pub returns : goal.returns
returns c =
    let x = c.args.count.now in
    let projects = c.projects.ensures.projects ∙ ap (λ e. e.projects) c.election.ensures.election in
    let supporters = c.supporters-supporters.ensures in
    let votes = ap length (rw supporters at c.of.ensures.supporters) in
    let row = loser_row_read x c.args.place c.index-projects-place.result c.requires.known (rw projects at c.index-projects-place.is) c.id.result.now c.id.ensures.id
    (length c.of.result.now) votes _ _ _
    (c.in_units.ensures ∙ ap (λ (o : OutcomeView). in_units x o.share 1) (c.outcome.view_is ∙ c.outcome-outcome.ensures.outcome))
    (c.in_units-2.ensures ∙ ap (λ n. in_units x n 1) (c.needed.ensures ∙ ap (λ (s : SupportView). needed s c.args.place) supporters))
    (units_of_one x c.args.most c.parts.result c.parts.ensures ∙ ap (λ n. in_units x n 1) c.requires.most) in
    c.in_ok-put_fields.ensures.text ∙ ap (λ fields. c.args.rows.now.text ++ text_of_row fields) row
