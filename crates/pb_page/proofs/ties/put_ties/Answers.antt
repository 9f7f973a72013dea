use Rattle.std.proofs.Common.{◌∙◌}
use Rattle.pb_page.specs.Page.{ties}
use Rattle.pb_page.proofs.Grown.{alike_put, then_put}
use Rattle.pb_page.proofs.Parts.{told_ties_are}
use Rattle.pb_page.proofs.ties.put_ties.Goals as goal

pub put_list-put-requires : goal.put_list-put-requires
put_list-put-requires c = c.as_slice.ensures.value ∙ c.in_ok-told.ensures

pub returns : goal.returns
returns c =
    let l = c.args.language.now in let x = c.args.count.now in
    alike_put _ _ (ties l x) _ _ (then_put _ _ _ _ _ _ c.in_ok-put_equals.ensures c.put_list-put.ensures)
    (told_ties_are l x _ c.rule.ensures)
