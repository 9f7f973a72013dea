use Rattle.std.proofs.Common.{◌∙◌, List, subst, sym}
use Rattle.pb_page.specs.Content.{Part}
use Rattle.pb_page.specs.Inner.Grown.{Grows}
use Rattle.pb_page.specs.Inner.Counted.{ties_listed}
use Rattle.pb_page.proofs.Grown.{alike_put, none, then_put}
use Rattle.pb_page.proofs.Parts.{no_ties, ties_are}
use Rattle.pb_page.proofs.ties.put_list.Goals as goal

pub returns-then-is_empty : goal.returns-then-is_empty
returns-then-is_empty c =
    let P : List Part → Type 0 = λ parts. Grows c.args.page.now.items c.args.page.now.items parts in
    subst P (no_ties c.args.language.now c.args.count.now _ c.requires (sym c.is_empty.ensures ∙ c.if-is_empty.true)) (none c.args.page.now.items)

pub returns : goal.returns
returns c =
    alike_put _ _ (ties_listed c.args.language.now c.args.count.now) _ _ (then_put _ _ _ _ _ _ c.in_ok-put.ensures
    (then_put _ _ _ _ _ _ c.in_ok-put_each.ensures
    c.put_own.ensures))
    (ties_are c.args.language.now c.args.count.now _ _ (rw c.rule.ensures at c.by_ties-said.ensures) c.requires (sym c.is_empty.ensures ∙ c.if-is_empty.false))
