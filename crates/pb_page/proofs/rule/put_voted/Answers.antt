use Rattle.std.proofs.Common.{◌≡◌, ◌∙◌, ℕ, List, ap, length, subst, sym}
use Rattle.pb_core.specs.Election.{ElectionView}
use Rattle.pb_page.specs.Content.{Part}
use Rattle.pb_page.specs.Inner.Counted.{rounds_told}
use Rattle.pb_page.specs.Inner.Grown.{Grows}
use Rattle.pb_page.proofs.Grown.{alike_put, none}
use Rattle.pb_page.proofs.Parts.{rounds_of_none, rounds_of_some}
use Rattle.pb_page.proofs.rule.put_voted.Goals as goal

pub returns-then-is_empty : goal.returns-then-is_empty
returns-then-is_empty c =
    let P : List Part → Type 0 = λ parts. Grows c.args.page.now.items c.args.page.now.items parts in
    let voters = ap length (c.voters.ensures.voters ∙ ap (λ (e : ElectionView). e.voters) c.election.ensures.election) in
    subst P (rounds_of_none c.args.language.now c.args.ended.now.count.now c.args.ended.now.end.now _ voters (sym c.is_empty.ensures ∙ c.if-is_empty.true))
    (none c.args.page.now.items)

pub returns : goal.returns
returns c =
    let voters = ap length (c.voters.ensures.voters ∙ ap (λ (e : ElectionView). e.voters) c.election.ensures.election) in
    alike_put _ _ (rounds_told c.args.language.now c.args.ended.now.count.now c.args.ended.now.end.now) _ _ c.put_rounds.ensures
    (rounds_of_some c.args.language.now c.args.ended.now.count.now c.args.ended.now.end.now _ voters (sym c.is_empty.ensures ∙ c.if-is_empty.false))
