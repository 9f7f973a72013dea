use Rattle.std.proofs.Common.{◌∙◌, ap, length, sym}
use Rattle.pb_core.specs.Election.{ElectionView}
use Rattle.pb_page.proofs.Parts.{short_of_none, short_of_some}
use Rattle.pb_page.proofs.rule.short_key.Goals as goal

pub returns-then-is_empty : goal.returns-then-is_empty
returns-then-is_empty c =
    let voters = ap length (c.voters.ensures.voters ∙ ap (λ (e : ElectionView). e.voters) c.election.ensures.election) in
    short_of_none c.args.count.now _ voters (sym c.is_empty.ensures ∙ c.if-is_empty.true)

pub returns : goal.returns
returns c =
    let voters = ap length (c.voters.ensures.voters ∙ ap (λ (e : ElectionView). e.voters) c.election.ensures.election) in
    c.short_by.ensures
    ∙ short_of_some c.args.count.now _ _ voters (sym c.is_empty.ensures ∙ c.if-is_empty.false) c.rule.ensures
