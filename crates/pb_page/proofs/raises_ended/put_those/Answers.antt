use Rattle.std.proofs.Common.{◌∙◌, List, subst, sym}
use Rattle.pb_page.specs.Content.{Part}
use Rattle.pb_page.specs.Inner.Counted.{those_said}
use Rattle.pb_page.specs.Inner.Grown.{Grows}
use Rattle.pb_page.proofs.Grown.{alike_put, none, then_put}
use Rattle.pb_page.proofs.Parts.{none_of_those, those_are}
use Rattle.pb_page.proofs.raises_ended.put_those.Goals as goal

pub returns-then-is_empty : goal.returns-then-is_empty
returns-then-is_empty c =
    let P : List Part → Type 0 = λ parts. Grows c.args.page.now.items c.args.page.now.items parts in
    subst P (none_of_those c.args.language.now c.args.projects.now.count.now c.args.said c.args.projects.now.places.now (sym c.is_empty.ensures ∙ c.if-is_empty.true))
    (none c.args.page.now.items)

pub returns : goal.returns
returns c =
    alike_put _ _ (those_said c.args.language.now c.args.projects.now.count.now c.args.said c.args.projects.now.places.now) _ _ (then_put _ _ _ _ _ _ c.in_ok-put.ensures
    (then_put _ _ _ _ _ _ c.in_ok-put_entries.ensures
    c.put_own.ensures))
    (those_are c.args.language.now c.args.projects.now.count.now c.args.said c.args.projects.now.places.now (sym c.is_empty.ensures ∙ c.if-is_empty.false))
