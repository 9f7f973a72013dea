use Rattle.std.proofs.Common.{◌∙◌, ℕ, List, ap, length, subst, sym}
use Rattle.std.specs.Prelude.{◌==◌, flat_map}
use Rattle.pb_page.specs.Inner.Grown.{Grows}
use Rattle.pb_reasons.proofs.Results.{counted_is_result, result_is_added}
use Rattle.pb_page.specs.Content.{section}
use Rattle.pb_page.specs.Page.{row_at, winners}
use Rattle.pb_page.proofs.Grown.{alike_put, then_put}
use Rattle.pb_page.proofs.Tables.{none_voted, voted_are}
use Rattle.pb_page.proofs.project_tables.put_won_by_votes.Goals as goal

pub put_added_rows-requires : goal.put_added_rows-requires
put_added_rows-requires c =
    let x = c.count-count.result.now in
    rw (sym c.count-count.ensures, c.added-winners.ensures)
    ((result_is_added x.election x.counted c.election-election.ensures.is_counted.is_election (counted_is_result x c.election-election.ensures.is_counted)).known)

pub returns : goal.returns
returns c =
    let x = c.count-count.result.now in
    let places = c.added-winners.ensures in
    let Rows : List ℕ → Type 0 = λ all. Grows c.put_own.new.page.items c.put_added_rows.new.page.items
    (flat_map (row_at c.args.facts.now x) all) in
    rw c.count-count.ensures at (alike_put _ _ (section c.args.facts.now.language (winners c.args.facts.now x)) _ _ (then_put _ _ _ _ _ _ c.in_ok-put.ensures
    (then_put _ _ _ _ _ _ c.in_ok-put_head_category.ensures
    (then_put _ _ _ _ _ _ c.in_ok-put_own.ensures
    (then_put _ _ _ _ _ _ (subst Rows places (rw (sym c.count-count.ensures) at c.in_ok-put_added_rows.ensures))
    c.put_own-2.ensures))))
    (voted_are c.args.facts.now x _ (rw (sym c.count-count.ensures) at c.requires) (ap (λ (all : List ℕ). length all == 0) (sym places) ∙ sym c.is_empty.ensures ∙ c.if-is_empty.false)
    (rw c.rule.ensures at c.by_ties-caption.ensures)))

pub returns-then-is_empty : goal.returns-then-is_empty
returns-then-is_empty c =
    let x = c.count-count.result.now in
    rw c.count-count.ensures at (alike_put _ _ (section c.args.facts.now.language (winners c.args.facts.now x)) _ _ c.put.ensures
    (none_voted c.args.facts.now x (rw (sym c.count-count.ensures) at c.requires)
    (ap (λ (all : List ℕ). length all == 0) (sym c.added-winners.ensures) ∙ sym c.is_empty.ensures ∙ c.if-is_empty.true)))
