use Rattle.pb_page.proofs.Grown.{alike_put}
use Rattle.pb_page.proofs.Tables.{category_column, head_category_is}
use Rattle.pb_page.proofs.project_tables.put_head_category.Goals as goal

pub returns-in-Some : goal.returns-in-Some
returns-in-Some c =
    let facts = c.args.facts.now in
    alike_put _ _ (category_column facts) _ _ c.put.ensures (head_category_is facts c.in-Some.field-0 c.in-Some.is)
