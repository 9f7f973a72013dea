use Rattle.std.specs.Prelude.{flat_map}
use Rattle.pb_page.specs.Content.{section}
use Rattle.pb_page.specs.Page.{categories}
use Rattle.pb_page.proofs.Grown.{alike_put, then_put}
use Rattle.pb_page.proofs.Tables.{categories_are}
use Rattle.pb_page.proofs.by_category.put_categories.Goals as goal

pub returns-in_ok-put_rows-in-Some : goal.returns-in_ok-put_rows-in-Some
returns-in_ok-put_rows-in-Some c =
    alike_put _ _ (flat_map (section c.args.facts.now.language) (categories c.args.facts.now c.args.count.now)) _ _ (then_put _ _ _ _ _ _ c.in_ok-put-in-Some.ensures
    (then_put _ _ _ _ _ _ c.in_ok-put_rows-in-Some.ensures
    c.put_own.ensures))
    (categories_are c.args.facts.now c.args.count.now _ c.in-Some.is)
