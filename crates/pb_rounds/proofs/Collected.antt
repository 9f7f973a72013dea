-- What is collected for a project is small.
use Rattle.std.proofs.Common.{◌≡◌, ℕ, ◌+◌, ◌<◌, ◌≤◌, ◌^◌, List, [], ◌∷◌, length, Some, refl, sym, arith}
use Rattle.pb_core.specs.Election.{most_voters}
use Rattle.pb_core.specs.Money.{largest_money}
use Rattle.pb_price.specs.Supporters.{SupportView, IsSupport, supporters_at, cost_in_parts}
use Rattle.pb_price.specs.Price.{PriceView, due, paid_at, price_at}
use Rattle.pb_price.specs.declared.grain.Grain.{Grain}
use Rattle.pb_price.specs.declared.grain.Grain.TheVariants.{Fine, Hundredths}
use Rattle.pb_price.proofs.Prices.{is_price_from_at}
use Rattle.pb_price.proofs.SupporterLists.{cost_fits, cost_positive, few_supporters, support_form, whole_cost_small}
use Rattle.pb_rounds.specs.PriceSystem.{IsCollected}
use Rattle.pb_rounds.proofs.Collecting.{collected_in}
use Rattle.pb_rounds.proofs.Listed.{RisesWithin}

-- rising numbers are no more than their range
pub length-rises : (xs : List ℕ) (low high : ℕ) → RisesWithin low high xs → low ≤ high → length xs + low ≤ high
length-rises [] low high h order = omega arith
length-rises (x ∷ xs) low high (from, to, rest) order = let others = length-rises xs (x + 1) high rest (omega arith) in omega arith

small_collected : (grain : Grain) (cost supporters collected : ℕ) → IsCollected grain cost supporters collected → cost < 2 ^ 64
    → (grain ≡ Hundredths → cost ≤ largest_money) → supporters ≤ most_voters → collected < 2 ^ 64
small_collected Hundredths cost supporters collected is fits whole few = let small = whole refl in omega (arith, is.1, small, few)
small_collected Fine cost supporters collected is fits whole few = omega (arith, is.0, fits)

pub collected_fits : (s : SupportView) → IsSupport s → (rests : List ℕ) (place : ℕ) (price : PriceView) → place < length s.costs → price_at s rests place ≡ Some price
    → paid_at (supporters_at s place) rests (due price) < 2 ^ 64
collected_fits s h rests place price known priced =
    let some = cost_positive s h place known in
    small_collected s.grain (cost_in_parts s place) (length (supporters_at s place)) (paid_at (supporters_at s place) rests (due price))
    (collected_in s.grain (supporters_at s place) rests (cost_in_parts s place) price some (is_price_from_at s rests place some (Some price) (sym priced)))
    (cost_fits s h place known) (λ whole. whole_cost_small s h whole place known)
    (let few = few_supporters s h place known in let voters = (support_form s h).few_voters in omega (arith, few, voters))

-- the same, as a call has it
pub fits_at : (s : SupportView) → IsSupport s → (rests : List ℕ) (place : ℕ) (price : PriceView) → place < length s.costs → price_at s rests place ≡ Some price
    → (supporters : List ℕ) → supporters ≡ supporters_at s place → (seen : List ℕ) → seen ≡ rests → (at : ℕ) → at ≡ due price
    → paid_at supporters seen at < 2 ^ 64
fits_at s h rests place price known priced supporters supporters_are seen seen_is at at_is =
    rw (supporters_are, seen_is, at_is) (collected_fits s h rests place price known priced)
