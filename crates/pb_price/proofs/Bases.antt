-- The cost over the supporters: no price is below it, and it is the price where everybody has one rest that reaches it.
use Rattle.std.proofs.Common.{◌≡◌, ℕ, ◌+◌, ◌*◌, ◌/◌, ◌%◌, ◌<◌, ◌≤◌, min, max, List, length, Some, None, refl, sym, subst, ◌∙◌, ap, inl, inr, arith}
use Rattle.std.specs.Prelude.{All, MatchBool, nat_le}
use Rattle.std.proofs.lemmas.Bool.{cases_lt, le-leb, lt-leb}
use Rattle.pb_price.specs.Price.{AtMost, HasPayers, IsPrice, IsPriceIn, PriceView, total_rest}
use Rattle.pb_price.specs.Supporters.{IsSupport, SupportView, cost_in_parts, supporters_at}
use Rattle.pb_price.specs.declared.grain.Grain.{Grain}
use Rattle.pb_price.specs.declared.grain.Grain.TheVariants.{Hundredths, Fine}
use Rattle.pb_price.proofs.Bounds.{base_is_bound}
use Rattle.pb_price.proofs.CommonRests.{no_price_beyond, price_within}
use Rattle.pb_price.proofs.Prices.{below_is_at_most, whole_at_most, whole_price}
use Rattle.pb_price.proofs.SupporterLists.{few_supporters, known_voters, two_grains}
use Rattle.pb_price.proofs.Unrounded.{same_price}
use Rattle.pb_price.proofs.UnroundedSteps.{base_at_most, base_is_price, few_payers, none_at_share}

abbrev pub base_price : Grain → (cost supporters : ℕ) → PriceView
base_price Hundredths cost supporters = record { amount = cost / supporters + min 1 (cost % supporters); payers = 1 }
base_price Fine cost supporters = record { amount = cost; payers = supporters }

pub base_bound : (grain : Grain) (supporters rests : List ℕ) (cost : ℕ) (p : PriceView) → 0 < length supporters → IsPriceIn grain supporters rests cost p
    → AtMost (base_price grain cost (length supporters)) p
base_bound Hundredths supporters rests cost p some price =
    whole_at_most (base_price Hundredths cost (length supporters)) p refl price.1
    (base_is_bound supporters supporters rests cost cost (length supporters) refl refl refl some p.amount price.0)
base_bound Fine supporters rests cost p some price =
    below_is_at_most (base_price Fine cost (length supporters)) p some price.some (base_at_most supporters rests cost p price)

module _ (rests : List ℕ) (share : ℕ) (alike : All (λ rest. rest ≡ share) rests) (supporters : List ℕ) (known : All (λ v. v < length rests) supporters)
    (cost : ℕ) (some : 0 < length supporters) where
  pub base_within : (grain : Grain) → (base_price grain cost (length supporters)).amount ≤ share * (base_price grain cost (length supporters)).payers
      → IsPriceIn grain supporters rests cost (base_price grain cost (length supporters))
  base_within Hundredths within =
      (price_within rests share alike supporters known cost (length supporters) refl some (cost / length supporters + min 1 (cost % length supporters)) refl (omega (arith, within)), refl)
  base_within Fine within = base_is_price rests share alike supporters cost known some within

  pub base_beyond : (grain : Grain) → share * (base_price grain cost (length supporters)).payers < (base_price grain cost (length supporters)).amount
      → total_rest supporters rests < cost
  base_beyond Hundredths beyond =
      no_price_beyond rests share alike supporters known cost (length supporters) refl some (cost / length supporters + min 1 (cost % length supporters)) refl (omega (arith, beyond))
  base_beyond Fine beyond = none_at_share rests share alike supporters cost known beyond

-- ---- of a project

base_payers : (grain : Grain) (cost supporters voters : ℕ) → 0 < supporters → supporters ≤ voters
    → (1 ≤ (base_price grain cost supporters).payers) × ((base_price grain cost supporters).payers ≤ max 1 voters) × (grain ≡ Hundredths → (base_price grain cost supporters).payers ≡ 1)
base_payers Hundredths cost supporters voters some few = (omega arith, omega arith, λ whole. refl)
base_payers Fine cost supporters voters some few = (omega (arith, some), omega (arith, few), λ whole. absurd (two_grains (sym whole)))

-- it is what the code computes
pub base_in_hundredths : (s : SupportView) (place : ℕ) → s.grain ≡ Hundredths → (n : ℕ) → n ≡ length (supporters_at s place)
    → (named : ℕ) → named ≡ cost_in_parts s place → (amount : ℕ) → amount ≡ named / n + min 1 (named % n) → (b : PriceView) → b ≡ whole_price amount
    → b ≡ base_price s.grain (cost_in_parts s place) (length (supporters_at s place))
base_in_hundredths s place whole n n_is named named_is amount amount_is b b_is =
    subst (λ (g : Grain). b ≡ base_price g (cost_in_parts s place) (length (supporters_at s place))) (sym whole)
    (b_is ∙ ap whole_price (amount_is ∙ ap (λ k. k / n + min 1 (k % n)) named_is ∙ ap (λ k. cost_in_parts s place / k + min 1 (cost_in_parts s place % k)) n_is))

pub base_in_fine : (s : SupportView) (place : ℕ) → s.grain ≡ Fine → (b : PriceView) → b.payers ≡ length (supporters_at s place) → b.amount ≡ cost_in_parts s place
    → b ≡ base_price s.grain (cost_in_parts s place) (length (supporters_at s place))
base_in_fine s place fine b n_is named_is =
    subst (λ (g : Grain). b ≡ base_price g (cost_in_parts s place) (length (supporters_at s place))) (sym fine)
    (same_price b (base_price Fine (cost_in_parts s place) (length (supporters_at s place))) named_is n_is)

module _ (s : SupportView) (h : IsSupport s) (place : ℕ) (known : place < length s.costs) (some : 0 < length (supporters_at s place))
    (b : PriceView) (b_is : b ≡ base_price s.grain (cost_in_parts s place) (length (supporters_at s place))) where
  -- supporters pay it
  pub base_has_payers : HasPayers s b
  base_has_payers =
      let payers = base_payers s.grain (cost_in_parts s place) (length (supporters_at s place)) s.voters some (few_supporters s h place known) in
      subst (HasPayers s) (sym b_is) (record { some = payers.0; few = payers.1; alone = payers.2 })

  -- it is at most each price
  pub base_at_most_price : (rests : List ℕ) (price : PriceView) → IsPrice s rests place (Some price) → AtMost b price
  base_at_most_price rests price is =
      subst (λ (q : PriceView). AtMost q price) (sym b_is) (base_bound s.grain (supporters_at s place) rests (cost_in_parts s place) price some is)

  -- where all have one rest, it is the price or there is none
  module _ (rests : List ℕ) (share : ℕ) (one_each : length rests ≡ s.voters) (alike : All (λ rest. rest ≡ share) rests) where
    known_here : All (λ voter. voter < length rests) (supporters_at s place)
    known_here = known_voters s h place known (supporters_at s place) rests refl one_each

    abbrev base : PriceView
    base = base_price s.grain (cost_in_parts s place) (length (supporters_at s place))

    decided : (n : PriceView) → n ≡ base
        → MatchBool (nat_le n.amount (share * n.payers)) (IsPrice s rests place (Some n)) (IsPrice s rests place None)
    decided n n_is = rw n_is (elim (cases_lt (share * base.payers) base.amount) [
      | inl beyond ↦ rw (lt-leb base.amount (share * base.payers) beyond)
          (base_beyond rests share alike (supporters_at s place) known_here (cost_in_parts s place) some s.grain beyond)
      | inr within ↦ rw (le-leb base.amount (share * base.payers) (omega (arith, within)))
          (base_within rests share alike (supporters_at s place) known_here (cost_in_parts s place) some s.grain (omega (arith, within)))
    ])

    pub base_at_share : MatchBool (nat_le b.amount (share * b.payers)) (IsPrice s rests place (Some b)) (IsPrice s rests place None)
    base_at_share = decided b b_is

-- ---- who pays a price

payers_in : (grain : Grain) (supporters rests : List ℕ) (cost voters : ℕ) (p : PriceView) → length supporters ≤ voters → IsPriceIn grain supporters rests cost p
    → (1 ≤ p.payers) × (p.payers ≤ max 1 voters) × (grain ≡ Hundredths → p.payers ≡ 1)
payers_in Hundredths supporters rests cost voters p few price = (omega (arith, price.1), omega (arith, price.1), λ whole. price.1)
payers_in Fine supporters rests cost voters p few price =
    (price.some, omega (arith, few_payers supporters rests cost p price, few), λ whole. absurd (two_grains (sym whole)))

pub price_payers : (s : SupportView) → IsSupport s → (place : ℕ) → place < length s.costs → (rests : List ℕ) (p : PriceView) → IsPrice s rests place (Some p) → HasPayers s p
price_payers s h place known rests p price =
    let payers = payers_in s.grain (supporters_at s place) rests (cost_in_parts s place) s.voters p (few_supporters s h place known) price in
    record { some = payers.0; few = payers.1; alone = payers.2 }
