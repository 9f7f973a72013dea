use Rattle.std.proofs.Common.{refl}
use Rattle.pb_page.specs.Inner.Filling.{cut}
use Rattle.pb_page.specs.Content.{item, said}
use Rattle.pb_page.proofs.Grown.{alike_put}
use Rattle.pb_page.proofs.rule.put_item.Goals as goal

pub returns : goal.returns
unfolding cut
returns c = alike_put _ _ (item (said c.args.language.now c.args.key)) _ _ c.put.ensures (λ rest. refl)
