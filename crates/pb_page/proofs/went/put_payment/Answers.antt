use Rattle.pb_page.specs.Inner.Counted.{payment_told}
use Rattle.pb_page.proofs.Grown.{alike_put}
use Rattle.pb_page.proofs.Tables.{payment_is}
use Rattle.pb_page.proofs.went.put_payment.Goals as goal

pub returns : goal.returns
returns c =
    let l = c.args.language.now in let x = c.args.count.now in let p = c.args.payment.now in
    alike_put _ _ (payment_told l x p) _ _ c.say_item.ensures (payment_is l x p _ _ c.counted_in.ensures (c.project_place.ensures l))
