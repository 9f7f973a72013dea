use Rattle.std.proofs.Common.{◌∙◌, List, subst, sym}
use Rattle.pb_page.specs.Content.{Part}
use Rattle.pb_page.specs.Inner.Grown.{Grows}
use Rattle.pb_page.specs.Page.{links}
use Rattle.pb_page.proofs.Grown.{alike_put, none, then_put}
use Rattle.pb_page.proofs.Tables.{links_are, no_links}
use Rattle.pb_page.proofs.elected_only.put_links.Goals as goal

pub returns-then-is_empty : goal.returns-then-is_empty
returns-then-is_empty c =
    let P : List Part → Type 0 = λ parts. Grows c.args.page.now.items c.args.page.now.items parts in
    subst P (no_links c.args.language.now c.args.projects.now.count.now c.args.said c.args.projects.now.places.now (sym c.is_empty.ensures ∙ c.if-is_empty.true))
    (none c.args.page.now.items)

pub returns : goal.returns
returns c =
    alike_put _ _ (links c.args.language.now c.args.projects.now.count.now c.args.said c.args.projects.now.places.now) _ _ (then_put _ _ _ _ _ _ c.in_ok-put.ensures
    (then_put _ _ _ _ _ _ c.in_ok-put_entries.ensures
    c.put_own.ensures))
    (links_are c.args.language.now c.args.projects.now.count.now c.args.said c.args.projects.now.places.now (sym c.is_empty.ensures ∙ c.if-is_empty.false))
