use Rattle.std.proofs.Common.{◌∙◌, ap}
use Rattle.pb_page.specs.Page.{category_name}
use Rattle.pb_page.proofs.Grown.{alike_put}
use Rattle.pb_page.proofs.Tables.{category_cell, category_cell_is}
use Rattle.pb_page.proofs.project_row.put_category.Goals as goal

pub returns-in-Some : goal.returns-in-Some
returns-in-Some c =
    let facts = c.args.facts.now in let g = c.in-Some.categories in
    alike_put _ _ (category_cell facts c.args.place) _ _ c.put.ensures
    (category_cell_is facts c.args.place g _ c.in-Some.is (c.name-name.ensures ∙ ap (category_name g) c.of.ensures))
