use Rattle.pb_page.specs.Page.{tie}
use Rattle.pb_page.proofs.Answered.{added_tie_is, tie_is}
use Rattle.pb_page.proofs.Grown.{alike_put}
use Rattle.pb_page.proofs.ties.put_tie.Goals as goal

pub returns-in-Some : goal.returns-in-Some
returns-in-Some c =
    let l = c.args.language.now in let x = c.args.count.now in let t = c.args.told.now in
    alike_put _ _ (tie l x t) _ _ c.say_item.ensures
    (tie_is l x t _ _ _ _ (rw c.rule.ensures at c.key_of-key.ensures) c.in-Some.is
    (c.project_place-winner.ensures l) (c.project_place-other.ensures l))

pub returns-in-None : goal.returns-in-None
returns-in-None c =
    let l = c.args.language.now in let x = c.args.count.now in let t = c.args.told.now in
    alike_put _ _ (tie l x t) _ _ c.say_item-in-None.ensures
    (added_tie_is l x t _ _ _ (rw c.rule-in-None.ensures at c.added_key.ensures) c.in-None.is
    (c.project_place-winner.ensures l) (c.project_place-other.ensures l))
