use Rattle.std.proofs.Common.{◌≡◌, ◌++◌, ◌∙◌, ap, arith, length, map, sym}
use Rattle.std.proofs.lemmas.List.{take-map}
use Rattle.std.specs.List.{range_with_len}
use Rattle.pb_core.specs.Order.{position_in}
use Rattle.pb_reasons.specs.Counted.{CountedView}
use Rattle.pb_rounds.specs.declared.rule.Rule.{Rule}
use Rattle.pb_rows.specs.Tables.{table_text}
use Rattle.pb_rows.specs.Writing.{text_of_row}
use Rattle.pb_commands.proofs.TableColumns.{file_place_put, head_put, names_taken}
use Rattle.pb_commands.specs.Inner.Tables.{columns_of, row_of}
use Rattle.pb_commands.specs.Tables.{table_of}
use Rattle.pb_commands.specs.declared.table.Table.TheVariants.{Projects}
use Rattle.pb_commands.proofs.projects_table.put_projects.Goals as goal

pub loop-place-init : goal.loop-place-init
loop-place-init c =
    let k = c.args.count.now in
    let filled = ap (λ (r : Rule). r.fill_up) c.rule.ensures ∙ ap (λ (o : CountedView). o.fill_up) (sym c.election.ensures.is_counted.is_filled_up) in
    let names = sym (take-map (λ field. field.now) c.width-width.result _) ∙ names_taken k c.width-width.result (c.width-width.ensures.width k filled) in
    head_put (columns_of Projects k) c.args.rows.now.text c.put_row.new.self.text
    (c.in_ok-put_row.ensures.text ∙ ap (λ fields. c.args.rows.now.text ++ text_of_row fields) names)

pub put_project-requires-clause-width : goal.put_project-requires-clause-width
put_project-requires-clause-width c =
    let k = c.args.count.now in
    let filled = ap (λ (r : Rule). r.fill_up) c.rule.ensures ∙ ap (λ (o : CountedView). o.fill_up) (sym c.election.ensures.is_counted.is_filled_up) in
    c.width-width.ensures.width k filled

pub loop-place-preserved : goal.loop-place-preserved
loop-place-preserved c =
    let k = c.args.count.now in
    file_place_put (columns_of Projects k) (position_in k.order) c.loop-place.place c.args.rows.now.text c.loop-place.rows.text c.put_project.new.rows.text c.loop-place.invariant
    (c.in_ok-put_project.ensures ∙ ap (λ p. c.loop-place.rows.text ++ text_of_row (row_of (columns_of Projects k) p)) c.position.ensures.position)

pub returns : goal.returns
unfolding table_of
returns c =
    let k = c.args.count.now in
    let projects = ap length (c.projects-projects.ensures.projects ∙ ap (λ e. e.projects) c.election.ensures.election) in
    let all : c.loop-place.place ≡ length k.election.projects = omega (arith, projects, c.loop-place.auto.place-end, c.loop-place-test.false) in
    c.loop-place.invariant ∙ ap (λ n. c.args.rows.now.text ++ table_text (columns_of Projects k) (map (position_in k.order) (range_with_len 0 n))) all
