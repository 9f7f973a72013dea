-- What the amount of a price is divided by, where somebody pays it and its project costs something.
use Rattle.std.proofs.Common.{◌≡◌, ℕ, ◌*◌, ◌<◌, ◌≤◌, max, List, Some, ◌∙◌, ap, arith}
use Rattle.pb_price.specs.Price.{PriceView, price_at}
use Rattle.pb_price.specs.Supporters.{SupportView, cost_at}
use Rattle.pb_price.proofs.Prices.{some_payers_at}
use Rattle.pb_price.proofs.SupporterLists.{parts_positive}
use Rattle.pb_rounds.specs.declared.measure.Measure.{Measure}
use Rattle.pb_rounds.specs.declared.measure.Measure.TheVariants.{Votes, Cost}
use Rattle.pb_rounds.specs.Key.{KeyView, divisor}
use Rattle.pb_rounds.specs.Run.{key_of, weight_of}

pub divisor_is : (m : Measure) (s : SupportView) (place : ℕ) (price : PriceView) → 0 < cost_at s place → 0 < price.payers
    → divisor (key_of m s place price) ≡ price.payers * weight_of m s place
divisor_is Votes s place price some payers =
    let one : max 1 price.payers ≡ price.payers = omega (arith, payers) in ap (λ n. n * max 1 1) one ∙ omega arith
divisor_is Cost s place price some payers =
    let one : max 1 price.payers ≡ price.payers = omega (arith, payers) in
    let weight : max 1 (cost_at s place) ≡ cost_at s place = omega (arith, some) in
    ap (λ n. n * max 1 (cost_at s place)) one ∙ ap (λ n. price.payers * n) weight

-- somebody pays a price
pub payers_at : (s : SupportView) (rests : List ℕ) (place : ℕ) (price : PriceView) → 0 < cost_at s place → price_at s rests place ≡ Some price
    → 0 < price.payers
payers_at s rests place price some priced = some_payers_at s rests place (parts_positive s.grain s.voters (cost_at s place) some) price priced

-- the payers and the weight as the code multiplies them
pub divisor_from : (k : KeyView) → 1 ≤ k.price.payers → 1 ≤ k.weight → k.price.payers * k.weight ≡ divisor k
divisor_from k some weight =
    let payers : k.price.payers ≡ max 1 k.price.payers = omega (arith, some) in
    let weighs : k.weight ≡ max 1 k.weight = omega (arith, weight) in
    ap (λ n. n * k.weight) payers ∙ ap (λ n. max 1 k.price.payers * n) weighs
