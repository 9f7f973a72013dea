use Rattle.pb_page.specs.Inner.Decided.{decided_said}
use Rattle.pb_page.proofs.Grown.{alike_put, then_put}
use Rattle.pb_page.proofs.Deciding.{decided_is}
use Rattle.pb_page.proofs.decided.put_named.Goals as goal

pub returns : goal.returns
returns c =
    let names = c.args.names.now in
    alike_put _ _ (decided_said c.args.language.now c.args.decided.now names.given.now names.other.now names.applies.now) _ _
    (then_put _ _ _ _ _ _ c.in_ok-put.ensures
    (then_put _ _ _ _ _ _ c.in_ok-say_paragraph.ensures
    c.put_own.ensures))
    (decided_is c.args.language.now c.args.decided.now names.given.now names.other.now names.applies.now _ _ _
    c.decided_key.ensures c.from.ensures c.from-2.ensures)
