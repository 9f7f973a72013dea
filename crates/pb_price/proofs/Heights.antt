-- How high prices are, as whole numbers: a higher price stands higher by one at least.
use Rattle.std.proofs.Common.{◌≡◌, ℕ, suc, ◌+◌, ◌*◌, ◌/◌, ◌<◌, ◌≤◌, ◌^◌, max, Bool, true, false, sym, ◌∙◌, ap, inl, inr, arith}
use Rattle.std.specs.Prelude.{◌==◌, ◌&&◌}
use Rattle.std.proofs.lemmas.Bool.{and_from, and_parts, eq-eqb, eqb-true, true≢false}
use Rattle.std.proofs.Math.Nat.{div-mul-le_self, le-div_iff_mul-le, le_of_mul-le-mul_left, mul-le-mul, mul-le-mul_left, mul-le-mul_right}
use Rattle.pb_core.specs.Election.{most_voters}
use Rattle.pb_price.specs.Price.{AtMost, HasPayers, PriceView}
use Rattle.pb_price.specs.Supporters.{SupportView}
use Rattle.pb_price.proofs.Unrounded.{same_price}

abbrev pub height : PriceView → ℕ
height p = p.amount * (most_voters * most_voters) / p.payers

-- the more payers there are, the less two prices can be apart
pub height_rises : (p q : PriceView) → 0 < p.payers → 0 < q.payers → p.payers ≤ most_voters → q.payers ≤ most_voters
    → p.amount * q.payers < q.amount * p.payers → height p < height q
height_rises p q some other few fewer less =
    (le-div_iff_mul-le other).1
    (let own : height p * p.payers ≤ p.amount * (most_voters * most_voters) = div-mul-le_self (p.amount * (most_voters * most_voters)) p.payers in
    let times : height p * p.payers * q.payers ≤ p.amount * (most_voters * most_voters) * q.payers = mul-le-mul_right q.payers own in
    let pairs : p.payers * q.payers ≤ most_voters * most_voters = mul-le-mul few fewer in
    let apart : suc (p.amount * q.payers) * (most_voters * most_voters) ≤ q.amount * p.payers * (most_voters * most_voters) = mul-le-mul_right (most_voters * most_voters) less in
    let within : p.payers * (suc (height p) * q.payers) ≤ p.payers * (q.amount * (most_voters * most_voters)) = omega (arith, times, pairs, apart) in
    le_of_mul-le-mul_left within some)

-- how much higher a price of at most this amount could be
abbrev pub highest : ℕ → ℕ
highest amount = amount * (most_voters * most_voters)

pub height_small : (p : PriceView) (most : ℕ) → 0 < p.payers → p.amount ≤ most → height p ≤ highest most
height_small p most some small =
    let own : height p * p.payers ≤ p.amount * (most_voters * most_voters) = div-mul-le_self (p.amount * (most_voters * most_voters)) p.payers in
    let more : height p * 1 ≤ height p * p.payers = mul-le-mul_left (height p) some in
    let all : p.amount * (most_voters * most_voters) ≤ most * (most_voters * most_voters) = mul-le-mul_right (most_voters * most_voters) small in
    omega (arith, own, more, all)

-- ---- a bound that is another one, as the code tells them apart

abbrev pub are_equal : PriceView → PriceView → Bool
are_equal p q = (p.amount == q.amount) && (p.payers == q.payers)

pub same_by_test : (p q : PriceView) → are_equal p q ≡ true → p ≡ q
same_by_test p q e = let parts = and_parts _ _ e in same_price p q (eqb-true _ _ parts.0) (eqb-true _ _ parts.1)

pub apart_by_test : (p q : PriceView) → are_equal p q ≡ false → p ≡ q → ⊥
apart_by_test p q e same =
    true≢false (sym (and_from _ _ (eq-eqb _ _ (ap (λ (r : PriceView). r.amount) same)) (eq-eqb _ _ (ap (λ (r : PriceView). r.payers) same))) ∙ e)

-- a bound that is at most another one and is not that one is lower
pub price_higher : (s : SupportView) → s.voters ≤ most_voters → (p q : PriceView) → HasPayers s p → HasPayers s q → AtMost p q → (q ≡ p → ⊥)
    → height p < height q
price_higher s few p q has other (inr same) apart = absurd (apart (sym same))
price_higher s few p q has other (inl less) apart =
    let left : p.amount * max 1 q.payers ≡ p.amount * q.payers = ap (λ n. p.amount * n) (omega (arith, other.some)) in
    let right : q.amount * max 1 p.payers ≡ q.amount * p.payers = ap (λ n. q.amount * n) (omega (arith, has.some)) in
    height_rises p q (omega (arith, has.some)) (omega (arith, other.some)) (omega (arith, has.few, few)) (omega (arith, other.few, few))
    (omega (arith, left, right, less))
