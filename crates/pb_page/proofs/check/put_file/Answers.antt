use Rattle.std.proofs.Common.{refl}
use Rattle.pb_page.specs.Inner.Filling.{cut}
use Rattle.std.specs.Prelude.{codes}
use Rattle.pb_page.specs.Page.{source}
use Rattle.pb_page.proofs.Grown.{alike_put}
use Rattle.pb_page.proofs.check.put_file.Goals as goal

pub returns : goal.returns
unfolding cut
returns c = alike_put _ _ (source (codes "FILE: ") c.args.file) _ _ c.put.ensures (λ rest. refl)
