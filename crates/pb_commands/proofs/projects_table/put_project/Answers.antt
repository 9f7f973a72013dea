use Rattle.std.proofs.Common.{◌++◌, ◌∙◌, ap, sym}
use Rattle.std.proofs.lemmas.List.{take-map}
use Rattle.pb_rows.specs.Tables.{field_text}
use Rattle.pb_rows.specs.Writing.{text_of_row}
use Rattle.pb_rows.specs.declared.field.Field.TheVariants.{Amount, Number}
use Rattle.pb_reasons.specs.declared.project_reason.ProjectReason.{ProjectReason}
use Rattle.pb_commands.proofs.TableColumns.{project_row_read}
use Rattle.pb_commands.proofs.UnitTexts.{won_payers}
use Rattle.pb_commands.proofs.projects_table.put_project.Goals as goal

pub returns : goal.returns
returns c =
    let k = c.args.count.now in
    let project = c.index-projects-place.result in
    let projects = c.projects.ensures.projects ∙ ap (λ e. e.projects) c.election.ensures.election in
    let votes = c.number-2.ensures ∙ ap (λ (r : ProjectReason). Number r.votes) c.project-reason.ensures in
    let row = project_row_read k c.args.place project c.requires.known (rw projects at c.index-projects-place.is) c.number.result c.amount.result c.number-2.result (c.number.ensures ∙ ap Number c.place.ensures.place)
    (c.amount.ensures ∙ ap Amount c.cost.ensures.cost) votes c.id.result.now c.name.result.now c.id.ensures.id c.name.ensures _
    (c.said_of-said.ensures c.args.place (ap (λ (r : ProjectReason). r.ending) c.project-reason.ensures)) c.args.width c.requires.width in
    c.in_ok-put_fields.ensures.text ∙ ap (λ fields. c.args.rows.now.text ++ text_of_row fields) (sym (take-map field_text c.args.width _) ∙ row)

pub said_of-said-requires : goal.said_of-said-requires
said_of-said-requires c = λ won is.
    let k = c.args.count.now in
    won_payers k c.election.ensures.is_counted c.args.place won (sym (ap (λ (r : ProjectReason). r.ending) c.project-reason.ensures) ∙ is)
