use Rattle.std.proofs.Common.{◌≡◌, ◌∙◌, ◌*◌, ℕ, ap, arith, length}
use Rattle.pb_price.specs.Grain.{in_parts}
use Rattle.pb_price.specs.Price.{PriceView}
use Rattle.pb_rows.specs.ExactText.{exact_text}
use Rattle.pb_commands.proofs.UnitTexts.{divisor_fits}
use Rattle.pb_commands.proofs.in_units.price_in_units.Goals as goal

pub overflow_mul-divisor : goal.overflow_mul-divisor
overflow_mul-divisor c =
    let x = c.args.count.now in
    let price = c.args.price in
    let is = c.election-election.ensures.is_counted in
    let fits = divisor_fits x.rule.options.grain (length x.election.voters) price.payers is.is_election.few_voters c.requires.few c.requires.alone in
    let payers : c.from.result ≡ price.payers = c.from.ensures ∙ ap (λ (p : PriceView). p.payers) c.price.view_is in
    let same : c.from.result * c.parts.result ≡ price.payers * in_parts x.rule.options.grain (length x.election.voters) 1 =
    ap (λ (n : ℕ). n * c.parts.result) payers ∙ ap (λ (n : ℕ). price.payers * n) c.parts.ensures in
    omega (arith, fits, same)

pub returns : goal.returns
returns c =
    let price = c.args.price in
    let payers : c.from.result ≡ price.payers = c.from.ensures ∙ ap (λ (p : PriceView). p.payers) c.price.view_is in
    let amount : c.from-2.result ≡ price.amount = c.from-2.ensures ∙ c.amount.view_is ∙ ap (λ (p : PriceView). p.amount) c.price.view_is in
    ap (λ (n : ℕ). exact_text n (c.from.result * c.parts.result)) amount
    ∙ ap (λ (n : ℕ). exact_text price.amount (n * c.parts.result)) payers
    ∙ ap (λ (n : ℕ). exact_text price.amount (price.payers * n)) c.parts.ensures
