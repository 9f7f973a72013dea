use Rattle.std.proofs.Common.{map}
use Rattle.pb_page.specs.Content.{item, say}
use Rattle.pb_page.specs.Inner.Value.{at_place}
use Rattle.pb_page.proofs.Grown.{alike_put, before_more, then_put}
use Rattle.pb_page.proofs.sentences.say_item.Goals as goal

pub returns : goal.returns
returns c =
    alike_put _ _ (item (say c.args.language.now c.args.key (map (at_place c.args.language.now) c.args.places.now))) _ _
    (then_put _ _ _ _ _ _ c.in_ok-put_own.ensures
    (then_put _ _ _ _ _ _ c.in_ok-say.ensures
    c.put_own-2.ensures)) (λ rest. simp before_more)
