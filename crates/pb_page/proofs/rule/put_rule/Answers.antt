use Rattle.std.proofs.Common.{◌∙◌, [], ℕ, ap, sym}
use Rattle.pb_page.specs.declared.keys.TheConstants as key
use Rattle.pb_rounds.specs.RuleNames.{by_grain}
use Rattle.pb_rounds.specs.declared.rule.Rule.{Rule}
use Rattle.pb_page.specs.Content.{item, said, section}
use Rattle.pb_page.specs.Inner.Counted.{filled_up}
use Rattle.pb_page.specs.Page.{rule}
use Rattle.pb_page.proofs.Grown.{alike_put, then_put}
use Rattle.pb_page.proofs.Parts.{rule_is}
use Rattle.pb_page.proofs.rule.put_rule.Goals as goal

pub put_by_votes-requires : goal.put_by_votes-requires
put_by_votes-requires c = sym (rw c.rule-rule.ensures at c.has_no_shares.ensures) ∙ c.if-has_no_shares.true

pub returns-then-has_no_shares : goal.returns-then-has_no_shares
returns-then-has_no_shares c = c.put_by_votes.ensures c.args.ended.now.end.now

pub returns : goal.returns
returns c =
    let x = c.args.ended.now.count.now in let l = c.args.language.now in
    let said_at = λ (k : ℕ). item (said l k) in
    alike_put _ _ (section l (rule l x c.args.ended.now.end.now)) _ _ (then_put _ _ _ _ _ _ c.in_ok-put.ensures
    (then_put _ _ _ _ _ _ c.in_ok-put_works.ensures
    (then_put _ _ _ _ _ _ c.in_ok-put_own.ensures
    (then_put _ _ _ _ _ _ c.in_ok-put_voted.ensures
    (then_put _ _ _ _ _ _ c.in_ok-put_item.ensures
    (then_put _ _ _ _ _ _ c.in_ok-put_filled_up.ensures
    (then_put _ _ _ _ _ _ c.in_ok-put_fine.ensures
    (then_put _ _ _ _ _ _ c.in_ok-put_ties.ensures
    c.put_own-2.ensures))))))))
    (rule_is l x c.args.ended.now.end.now _ _ _ (ap said_at (rw c.rule-rule.ensures at c.method_key.ensures)) (ap (filled_up l) c.rule-rule.ensures)
    (ap (λ (r : Rule). by_grain r.options.grain [] (item (said l key.FINE_MONEY))) c.rule-rule.ensures) (sym (rw c.rule-rule.ensures at c.has_no_shares.ensures) ∙ c.if-has_no_shares.false))
