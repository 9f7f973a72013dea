use Rattle.std.proofs.Common.{◌≡◌, ◌∙◌, ℕ, List, ap, length, subst, sym}
use Rattle.std.specs.Prelude.{◌==◌}
use Rattle.pb_core.specs.Election.{ElectionView}
use Rattle.pb_page.specs.Content.{Part}
use Rattle.pb_page.specs.Inner.Grown.{Grows}
use Rattle.pb_page.specs.Page.{works}
use Rattle.pb_page.proofs.Grown.{alike_put, none, then_put}
use Rattle.pb_page.proofs.Parts.{works_is, works_of_none}
use Rattle.pb_page.proofs.works.put_works.Goals as goal

pub returns-then-is_empty : goal.returns-then-is_empty
returns-then-is_empty c =
    let P : List Part → Type 0 = λ parts. Grows c.args.page.now.items c.args.page.now.items parts in
    let voters = ap length (c.voters.ensures.voters ∙ ap (λ (e : ElectionView). e.voters) c.election-election.ensures.election) in
    subst P (works_of_none c.args.language.now c.args.count.now _ voters (sym c.is_empty.ensures ∙ c.if-is_empty.true)) (none c.args.page.now.items)

pub returns : goal.returns
returns c =
    let voters = ap length (c.voters.ensures.voters ∙ ap (λ (e : ElectionView). e.voters) c.election-election.ensures.election) in
    alike_put _ _ (works c.args.language.now c.args.count.now) _ _ (then_put _ _ _ _ _ _ c.in_ok-say_works.ensures
    (then_put _ _ _ _ _ _ c.in_ok-put_own.ensures
    (then_put _ _ _ _ _ _ c.in_ok-put_own-2.ensures
    c.put.ensures)))
    (works_is c.args.language.now c.args.count.now _ _ _ _ c.rule-rule.ensures
    (ap (λ (n : ℕ). n == 0) (sym voters) ∙ (sym c.is_empty.ensures ∙ c.if-is_empty.false))
    c.works_key.ensures c.picture_of.ensures c.picture_key.ensures)
