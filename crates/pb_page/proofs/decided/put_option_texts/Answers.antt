use Rattle.std.proofs.Common.{refl}
use Rattle.std.specs.Prelude.{[], ◌∷◌, codes}
use Rattle.pb_page.specs.Content.{fill, text}
use Rattle.pb_page.specs.Inner.Filling.{cut}
use Rattle.pb_page.proofs.Grown.{alike_put}
use Rattle.pb_page.proofs.decided.put_option_texts.Goals as goal

pub returns : goal.returns
unfolding cut
returns c = alike_put _ _ (fill (codes " --decide ~ --beside ~") (text c.args.by.now ∷ text c.args.other.now ∷ [])) _ _ c.put.ensures (λ rest. refl)
