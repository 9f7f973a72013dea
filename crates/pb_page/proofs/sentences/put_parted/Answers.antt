use Rattle.std.proofs.Common.{ℕ, ap}
use Rattle.pb_page.specs.Amount.{shown}
use Rattle.pb_page.specs.Content.{figure, parted, text}
use Rattle.pb_page.specs.Inner.Filling.{cut}
use Rattle.pb_page.proofs.Grown.{alike_put, before}
use Rattle.pb_rows.specs.ExactText.{exact_text}
use Rattle.pb_page.proofs.sentences.put_parted.Goals as goal

pub returns : goal.returns
unfolding cut
returns c =
    let form = c.args.form in let d = c.args.amount in
    alike_put _ _ (parted form c.args.name.now d) _ _ c.put.ensures
    (λ rest. ap (λ (n : ℕ). before (figure c.args.name.now (exact_text d.amount d.divisor) (text (shown form n))) rest) c.rounded.ensures)
