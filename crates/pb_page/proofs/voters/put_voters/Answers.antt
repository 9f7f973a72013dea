use Rattle.std.proofs.Common.{◌∙◌, List, subst}
use Rattle.std.specs.Prelude.{OnOk, ℕ}
use Rattle.pb_page.specs.Inner.Grown.{Grows}
use Rattle.pb_page.specs.Content.{section}
use Rattle.pb_page.specs.Page.{voters}
use Rattle.pb_page.proofs.voters.put_voters.Goals as goal

pub returns : goal.returns
returns c =
    let Puts : List ℕ → Type 0 = λ won. OnOk c.put_won-put.result (Grows c.args.page.now.items c.put_won-put.new.page.items (section c.args.language.now (voters c.args.language.now won))) in
    subst Puts (c.as_slice.ensures.value ∙ c.in_ok-won.ensures) c.put_won-put.ensures
