use Rattle.std.proofs.Common.{refl}
use Rattle.std.specs.Prelude.{Some, None}
use Rattle.pb_page.specs.Inner.Counted.{link_said}
use Rattle.pb_page.specs.Inner.Filling.{cut}
use Rattle.pb_page.proofs.Grown.{alike_put, then_put}
use Rattle.pb_page.proofs.Parts.{link_is}
use Rattle.pb_page.proofs.check.put_link.Goals as goal

pub returns-in_ok-say_paragraph-in-Some : goal.returns-in_ok-say_paragraph-in-Some
returns-in_ok-say_paragraph-in-Some c =
    rw c.in-Some.is (alike_put _ _ (link_said c.args.language.now (Some c.in-Some.address)) _ _
    (then_put _ _ _ _ _ _ c.in_ok-say_paragraph-in-Some.ensures c.put.ensures)
    (link_is c.args.language.now c.in-Some.address.now))

pub returns-in-None : goal.returns-in-None
unfolding cut
returns-in-None c =
    rw c.in-None.is (alike_put _ _ (link_said c.args.language.now None) _ _ c.put-in-None.ensures (λ rest. refl))
