use Rattle.std.proofs.Common.{◌≡◌, ◌+◌, ◌∷◌, [], suc, List, codes, take, refl, ap, ◌∙◌, subst, sym, arith}
use Rattle.std.specs.Prelude.{false, slice_index, slice_index_or}
use Rattle.csv.specs.Records.{AllText}
use Rattle.pb_rows.specs.Reading.{Fields}
use Rattle.pb_export.specs.FileRows.{projects_rows}
use Rattle.pb_export.specs.Inner.Parts.{project_row}
use Rattle.pb_export.specs.Inner.Behind.{of_project}
use Rattle.pb_export.specs.Inner.Growing.{Grows}
use Rattle.pb_export.proofs.Grown.{none_grown, projects_more, row_grown}
use Rattle.pb_export.proofs.Tidy.{plain_text}
use Rattle.pb_export.proofs.write_pb.put_projects.Goals as goal

heads_text : AllText (codes "PROJECTS" ∷ []) × ((more : Fields) → AllText more → AllText (codes "project_id" ∷ codes "cost" ∷ codes "votes" ∷ codes "name" ∷ codes "selected" ∷ more))
unfolding AllText
heads_text = (
  (plain_text (codes "PROJECTS") refl, tt),
  λ more are. (
    plain_text (codes "project_id") refl,
    (plain_text (codes "cost") refl, (plain_text (codes "votes") refl, (plain_text (codes "name") refl, (plain_text (codes "selected") refl, are)))),
  ),
)

pub loop-place-init : goal.loop-place-init
loop-place-init c =
    let old = c.args.rows.now.text in
    let more = c.args.told.now.further.now.project_names in
    let names = rw c.names_of_projects.ensures at c.in_ok-put_with.ensures.text in
    let are = rw c.names_of_projects.ensures at c.in_ok-put_with.ensures.are_text in
    row_grown _ _ old _ _ (row_grown [] _ old _ _ (none_grown old) c.in_ok-put_row.ensures.text heads_text.0) names (heads_text.1 more are)

pub loop-place-preserved : goal.loop-place-preserved
loop-place-preserved c =
    let place = c.loop-place.place in
    let projects = c.args.projects.now in
    let told = c.args.told.now in
    let votes = told.votes.now in
    let selected = told.selected.now in
    let further = told.further.now in
    let p = c.index-projects-place.result in
    let next : place + 1 ≡ suc place = omega arith in
    let text = rw c.of_project-further.ensures at c.in_ok-put_project.ensures.text in
    let are = rw c.of_project-further.ensures at c.in_ok-put_project.ensures.are_text in
    let more = ap (λ n. projects_rows votes selected further (take n projects)) next
    ∙ ap (λ (rows : List Fields). (codes "PROJECTS" ∷ []) ∷ (codes "project_id" ∷ codes "cost" ∷ codes "votes" ∷ codes "name" ∷ codes "selected" ∷ further.project_names) ∷ rows)
    (projects_more votes selected (of_project further) 0 projects place place p c.loop-place-test.true c.index-projects-place.is (omega arith)) in
    subst (λ (rows : List Fields). Grows rows c.args.rows.now.text c.put_project.new.rows.text) (sym more)
    (row_grown (projects_rows votes selected further (take place projects)) (project_row p (slice_index votes place) (slice_index_or selected place false) (of_project further place)) c.args.rows.now.text c.loop-place.rows.text _
    c.loop-place.invariant text are)
