use Rattle.std.proofs.Common.{refl}
use Rattle.pb_core.specs.MoneyText.{money_text}
use Rattle.pb_page.specs.Amount.{shown}
use Rattle.pb_page.specs.Content.{figure, text}
use Rattle.pb_page.specs.Inner.Filling.{cut}
use Rattle.pb_page.proofs.Grown.{alike_put}
use Rattle.pb_page.proofs.sentences.put_amount.Goals as goal

pub returns : goal.returns
unfolding cut
returns c = alike_put _ _ (figure c.args.name.now (money_text c.args.value) (text (shown c.args.form c.args.value))) _ _ c.put.ensures (λ rest. refl)
