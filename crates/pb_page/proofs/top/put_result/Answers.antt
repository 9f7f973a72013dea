use Rattle.pb_page.specs.Inner.Counted.{result_said}
use Rattle.pb_page.proofs.Grown.{alike_put, then_put}
use Rattle.pb_page.proofs.Parts.{none_is}
use Rattle.pb_page.proofs.top.put_result.Goals as goal

pub returns-then-figures-eq0 : goal.returns-then-figures-eq0
returns-then-figures-eq0 c =
    alike_put _ _ (result_said c.args.language.now c.args.figures.now) _ _ (then_put _ _ _ _ _ _ c.in_ok-put.ensures
    c.say.ensures)
    (none_is c.args.language.now c.args.figures.now _ c.surplus_name.ensures c.if-figures-eq0.true)
