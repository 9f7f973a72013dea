use Rattle.pb_page.specs.Inner.Counted.{more_told}
use Rattle.pb_page.proofs.Grown.{alike_put}
use Rattle.pb_page.proofs.Tables.{more_is}
use Rattle.pb_page.proofs.went.put_more.Goals as goal

pub returns : goal.returns
returns c =
    let l = c.args.language.now in let x = c.args.count.now in
    alike_put _ _ (more_told l x c.args.others) _ _ c.say_item.ensures (more_is l x c.args.others _ c.parts_in.ensures c.if-others-eq0.false)
