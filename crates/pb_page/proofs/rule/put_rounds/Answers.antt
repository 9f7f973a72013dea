use Rattle.std.proofs.Common.{◌∙◌, ℕ, ap, false}
use Rattle.pb_page.specs.Page.{counted_in}
use Rattle.pb_rounds.specs.Outcome.{OutcomeView}
use Rattle.pb_page.specs.Content.{item, said}
use Rattle.pb_page.specs.Inner.Counted.{rounds_said}
use Rattle.pb_page.proofs.Answered.{share_is}
use Rattle.pb_page.proofs.Grown.{alike_put, then_put}
use Rattle.pb_page.proofs.Parts.{rounds_are}
use Rattle.pb_page.proofs.rule.put_rounds.Goals as goal

pub returns : goal.returns
returns c =
    let x = c.args.ended.now.count.now in let l = c.args.language.now in
    let share = c.counted_in-share.ensures ∙ ap (counted_in x false 1) (c.share_of.ensures ∙ ap (λ (o : OutcomeView). o.share) c.outcome.ensures.outcome) in
    let raised = c.raised_by-raised.ensures ∙ ap (λ (o : OutcomeView). o.raised) c.outcome-2.ensures.outcome in
    let said_at = λ (k : ℕ). item (said l k) in
    alike_put _ _ (rounds_said l x c.args.ended.now.end.now) _ _ (then_put _ _ _ _ _ _ c.in_ok-put_share.ensures
    (then_put _ _ _ _ _ _ c.in_ok-put_item.ensures
    (then_put _ _ _ _ _ _ c.in_ok-put_item-2.ensures
    (then_put _ _ _ _ _ _ c.in_ok-put_item-3.ensures
    c.put_end.ensures))))
    (rounds_are l x c.args.ended.now.end.now _ _ _ (share_is l _ _ _ _ _ _ c.rule-rule.ensures share raised)
    (ap said_at (rw c.rule-rule.ensures at c.order_key.ensures))
    (ap said_at (rw (c.rule-rule.ensures, raised) at c.raises_key.ensures)))
