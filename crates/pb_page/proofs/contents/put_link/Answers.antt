use Rattle.std.proofs.Common.{refl}
use Rattle.std.specs.Prelude.{true}
use Rattle.pb_page.specs.Inner.Filling.{cut}
use Rattle.pb_page.specs.Inner.Contents.{link_to}
use Rattle.pb_page.proofs.Grown.{alike_put}
use Rattle.pb_page.proofs.contents.put_link.Goals as goal

pub returns : goal.returns
unfolding cut
returns c = alike_put _ _ (link_to c.args.language.now true c.args.name.now c.args.heading) _ _ c.put.ensures (λ rest. refl)
