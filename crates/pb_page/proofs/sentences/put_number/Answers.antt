use Rattle.std.proofs.Common.{refl}
use Rattle.pb_page.specs.Content.{number}
use Rattle.pb_page.specs.Inner.Filling.{cut}
use Rattle.pb_page.proofs.Grown.{alike_put}
use Rattle.pb_page.proofs.sentences.put_number.Goals as goal

pub returns : goal.returns
unfolding cut
returns c = alike_put _ _ (number c.args.language.now c.args.name.now c.args.value) _ _ c.put.ensures (λ rest. refl)
