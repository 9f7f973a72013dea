use Rattle.std.proofs.Common.{◌∙◌, List, ap, length, subst, sym}
use Rattle.std.specs.Prelude.{◌==◌, flat_map}
use Rattle.pb_rounds.specs.Run.{ElectedView}
use Rattle.pb_page.specs.Inner.Grown.{Grows}
use Rattle.pb_rounds.specs.Outcome.{OutcomeView}
use Rattle.pb_reasons.proofs.Tellable.{counted_can_be_told}
use Rattle.pb_reasons.specs.CountedElection.{CountedElectionView}
use Rattle.pb_page.specs.Content.{section}
use Rattle.pb_page.specs.Page.{row_at, winners}
use Rattle.pb_page.proofs.Grown.{alike_put, then_put}
use Rattle.pb_page.proofs.Tables.{no_winners, winners_are}
use Rattle.pb_page.proofs.project_tables.put_winners.Goals as goal

pub put_won_by_votes-requires : goal.put_won_by_votes-requires
put_won_by_votes-requires c = sym (rw c.count-count.ensures at (rw c.rule-rule.ensures at c.has_no_shares.ensures)) ∙ c.if-has_no_shares.true

pub put_elected_rows-requires : goal.put_elected_rows-requires
put_elected_rows-requires c =
    rw (sym c.count-count.ensures, c.elected_of-elected.ensures, c.outcome.ensures.outcome)
    ((counted_can_be_told c.count-count.result.now c.outcome.ensures.is_counted).known)

pub returns-then-is_empty : goal.returns-then-is_empty
returns-then-is_empty c =
    let x = c.count-count.result.now in
    let elected = c.elected_of-elected.ensures ∙ ap (λ (o : OutcomeView). o.elected) c.outcome.ensures.outcome in
    let shared = sym (rw c.rule-rule.ensures at c.has_no_shares.ensures) ∙ c.if-has_no_shares.false in
    rw c.count-count.ensures at (alike_put _ _ (section c.args.facts.now.language (winners c.args.facts.now x)) _ _ c.put.ensures
    (no_winners c.args.facts.now x _ _ shared elected (sym c.is_empty.ensures ∙ c.if-is_empty.true) (rw c.rule-rule.ensures at c.no_winners.ensures)))

pub returns : goal.returns
returns c =
    let x = c.args.money.now in
    let elected = c.elected_of-elected.ensures ∙ ap (λ (o : OutcomeView). o.elected) c.outcome.ensures.outcome
    ∙ ap (λ (y : CountedElectionView). y.counted.outcome.elected) c.count-count.ensures in
    let shared = sym (rw c.count-count.ensures at (rw c.rule-rule.ensures at c.has_no_shares.ensures)) ∙ c.if-has_no_shares.false in
    let Rows : List ElectedView → Type 0 = λ ws. Grows c.put_own.new.page.items c.put_elected_rows.new.page.items
    (flat_map (λ w. row_at c.args.facts.now x w.place) ws) in
    alike_put _ _ (section c.args.facts.now.language (winners c.args.facts.now x)) _ _ (then_put _ _ _ _ _ _ c.in_ok-put.ensures
    (then_put _ _ _ _ _ _ c.in_ok-put_head_category.ensures
    (then_put _ _ _ _ _ _ c.in_ok-put_own.ensures
    (then_put _ _ _ _ _ _ (subst Rows elected c.in_ok-put_elected_rows.ensures)
    c.put_own-2.ensures))))
    (winners_are c.args.facts.now x shared (ap (λ (ws : List ElectedView). length ws == 0) (sym elected) ∙ sym c.is_empty.ensures ∙ c.if-is_empty.false))
