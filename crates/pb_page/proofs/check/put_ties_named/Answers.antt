use Rattle.std.proofs.Common.{refl}
use Rattle.std.specs.Prelude.{[], ◌∷◌, codes}
use Rattle.pb_page.specs.Content.{fill, text}
use Rattle.pb_page.specs.Inner.Filling.{cut}
use Rattle.pb_page.proofs.Grown.{alike_put}
use Rattle.pb_page.proofs.check.put_ties_named.Goals as goal

pub returns : goal.returns
unfolding cut
returns c = alike_put _ _ (fill (codes " --ties ~") (text c.args.ties.now ∷ [])) _ _ c.put.ensures (λ rest. refl)
