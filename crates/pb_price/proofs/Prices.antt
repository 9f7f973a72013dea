-- The price of a project, in hundredths and in fine money: what is computed is what its rule says, and none falls.
use Rattle.std.proofs.Common.{◌≡◌, ℕ, zero, suc, ◌+◌, ◌*◌, ◌/◌, ◌<◌, ◌≤◌, ◌^◌, max, min, List, [], ◌∷◌, length, Option, Some, None, refl, sym, subst, ◌∙◌, ap, inl, inr, arith}
use Rattle.std.specs.Prelude.{All, MatchOption, count_by, map, nat_le, option_map, slice_index}
use Rattle.std.specs.List.{AllZip}
use Rattle.std.proofs.Math.Nat.{le-div_iff_mul-le, mul-le-mul_left, mul-le-mul_right, lt_of_mul-lt-mul_left, le_of_mul-le-mul_left}
use Rattle.std.proofs.lemmas.Bool.{cases_eq, cases_lt, le-leb}
use Rattle.std.proofs.lemmas.List.Elements.{All-tail}
use Rattle.std.proofs.lemmas.List.Sums.{sum_by-cons}
use Rattle.std.proofs.lemmas.Option.{none-some, same_Some}
use Rattle.pb_price.specs.Inner.Lists.{NoRestRises}
use Rattle.pb_price.specs.Inner.Payment.{IsPriceFor}
use Rattle.pb_price.specs.Price.{AtMost, IsLeastPayment, IsPrice, IsPriceIn, IsUnrounded, PriceView, due, paid_at, price_at, price_from, price_of, total_rest}
use Rattle.pb_price.specs.Supporters.{SupportView, supporters_at, cost_in_parts}
use Rattle.pb_price.specs.declared.grain.Grain.{Grain}
use Rattle.pb_price.specs.declared.grain.Grain.TheVariants.{Hundredths, Fine}
use Rattle.pb_price.proofs.Payments.{least_is_unique, no_price_from_short, paid_at-zero, price_from_least as price_from_least_payment, price_of_is_price, short_from_no_price, total_rest_covers}
use Rattle.pb_price.proofs.PairSums.{sums_at_most}
use Rattle.pb_price.proofs.RestsFall.{least_rises, total_rest_falls}
use Rattle.pb_price.proofs.Unrounded.{IsBelow, one_if, same_price, unrounded_is_unique, unrounded_rises}
use Rattle.pb_price.proofs.UnroundedSteps.{unrounded_covers, unrounded_from_least}

-- ---- the order of prices

-- where both have some payers, at most is not above
pub below_is_at_most : (p q : PriceView) → 0 < p.payers → 0 < q.payers → IsBelow p q → AtMost p q
below_is_at_most p q some other (inr same) = inr same
below_is_at_most p q some other (inl less) =
    let left : p.amount * max 1 q.payers ≡ p.amount * q.payers = ap (λ n. p.amount * n) (omega (arith, other)) in
    let right : q.amount * max 1 p.payers ≡ q.amount * p.payers = ap (λ n. q.amount * n) (omega (arith, some)) in
    inl (omega (arith, left, right, less))

pub at_most_is_below : (p q : PriceView) → 0 < p.payers → 0 < q.payers → AtMost p q → IsBelow p q
at_most_is_below p q some other (inr same) = inr same
at_most_is_below p q some other (inl less) =
    let left : p.amount * max 1 q.payers ≡ p.amount * q.payers = ap (λ n. p.amount * n) (omega (arith, other)) in
    let right : q.amount * max 1 p.payers ≡ q.amount * p.payers = ap (λ n. q.amount * n) (omega (arith, some)) in
    inl (omega (arith, left, right, less))

pub at_most_itself : (p : PriceView) → AtMost p p
at_most_itself p = inr refl

pub at_most_trans : (p q r : PriceView) → AtMost p q → AtMost q r → AtMost p r
at_most_trans p q r (inr same) later = subst (λ (o : PriceView). AtMost o r) (sym same) later
at_most_trans p q r earlier (inr same) = subst (AtMost p) same earlier
at_most_trans p q r (inl first) (inl second) =
    let one : suc (p.amount * max 1 q.payers) * max 1 r.payers ≤ q.amount * max 1 p.payers * max 1 r.payers = mul-le-mul_right (max 1 r.payers) first in
    let two : suc (q.amount * max 1 r.payers) * max 1 p.payers ≤ r.amount * max 1 q.payers * max 1 p.payers = mul-le-mul_right (max 1 p.payers) second in
    let some : 0 < max 1 r.payers = omega arith in
    let all : max 1 q.payers * (p.amount * max 1 r.payers) < max 1 q.payers * (r.amount * max 1 p.payers) = omega (arith, one, two, some) in
    inl (lt_of_mul-lt-mul_left (max 1 q.payers) all)

-- ---- by the money

-- what is computed from a least payment is a price
pub price_from_least : (grain : Grain) (supporters rests : List ℕ) (cost payment : ℕ) → 0 < cost → IsLeastPayment supporters rests cost payment
    → IsPriceIn grain supporters rests cost (price_from grain supporters rests cost payment)
price_from_least Hundredths supporters rests cost payment some least = (least, refl)
price_from_least Fine supporters rests cost payment some least = unrounded_from_least supporters rests cost payment some least

pub price_is_unique : (grain : Grain) (supporters rests : List ℕ) (cost : ℕ) (p q : PriceView) → IsPriceIn grain supporters rests cost p
    → IsPriceIn grain supporters rests cost q → p ≡ q
price_is_unique Hundredths supporters rests cost p q one other =
    same_price p q (least_is_unique supporters rests cost p.amount q.amount one.0 other.0) (one.1 ∙ sym other.1)
price_is_unique Fine supporters rests cost p q one other = unrounded_is_unique supporters rests cost p q one other

pub price_covers : (grain : Grain) (supporters rests : List ℕ) (cost : ℕ) (p : PriceView) → IsPriceIn grain supporters rests cost p
    → cost ≤ total_rest supporters rests
price_covers Hundredths supporters rests cost p price = total_rest_covers supporters rests cost p.amount price.0
price_covers Fine supporters rests cost p price = unrounded_covers supporters rests cost p price

-- a whole price that each pays alone
abbrev pub whole_price : ℕ → PriceView
whole_price amount = record { amount = amount; payers = 1 }

pub whole_at_most : (p q : PriceView) → p.payers ≡ 1 → q.payers ≡ 1 → p.amount ≤ q.amount → AtMost p q
whole_at_most p q one other most = elim (cases_eq p.amount q.amount) [
  | inl same ↦ inr (same_price p q same (one ∙ sym other))
  | inr apart ↦
      below_is_at_most p q (omega (arith, one)) (omega (arith, other))
      (let left : p.amount * q.payers ≡ p.amount * 1 = ap (λ n. p.amount * n) other in
      let right : q.amount * p.payers ≡ q.amount * 1 = ap (λ n. q.amount * n) one in
      inl (omega (arith, left, right, most, apart)))
]

pub price_rises : (grain : Grain) (supporters before after : List ℕ) (cost : ℕ) (p q : PriceView) → NoRestRises before after
    → IsPriceIn grain supporters before cost p → IsPriceIn grain supporters after cost q → AtMost p q
price_rises Hundredths supporters before after cost p q falls earlier later =
    whole_at_most p q earlier.1 later.1 (least_rises supporters before after cost p.amount q.amount falls earlier.0 later.0)
price_rises Fine supporters before after cost p q falls earlier later =
    below_is_at_most p q earlier.some later.some (unrounded_rises supporters before after falls cost p q earlier later)

-- somebody pays it
pub price_has_payers : (grain : Grain) (supporters rests : List ℕ) (cost : ℕ) (p : PriceView) → IsPriceIn grain supporters rests cost p → 0 < p.payers
price_has_payers Hundredths supporters rests cost p price = omega (arith, price.1)
price_has_payers Fine supporters rests cost p price = price.some

-- and something for what costs something
pub price_has_amount : (grain : Grain) (supporters rests : List ℕ) (cost : ℕ) (p : PriceView) → 0 < cost → IsPriceIn grain supporters rests cost p → 0 < p.amount
price_has_amount Hundredths supporters rests cost p some price = elim (cases_lt 0 p.amount) [
  | inl more ↦ more
  | inr none ↦
      let nothing : paid_at supporters rests p.amount ≡ 0 = ap (paid_at supporters rests) (omega (arith, none)) ∙ paid_at-zero supporters rests in
      absurd (omega (arith, nothing, price.0.covers, some))
]
price_has_amount Fine supporters rests cost p some price = elim (cases_lt 0 p.amount) [
  | inl more ↦ more
  | inr none ↦
      let sums = sums_at_most 1 0 0 0 0 (λ v. min (p.payers * slice_index rests v) p.amount) (λ v. zero) (λ v. zero) (λ v. zero) (λ v. zero) (λ v. omega (arith, none)) supporters in
      let all : p.payers * 1 ≤ p.payers * cost = mul-le-mul_left p.payers some in
      absurd (omega (arith, sums, all, price.exactly, price.some))
]

-- ---- of a project

-- everybody has nothing or more
all_from_zero : (supporters rests : List ℕ) → count_by (λ v. nat_le 0 (slice_index rests v)) supporters ≡ length supporters
all_from_zero [] rests = refl
all_from_zero (v ∷ vs) rests =
    let here : one_if (nat_le 0 (slice_index rests v)) ≡ 1 = ap (λ b. one_if b) (le-leb 0 (slice_index rests v) (omega arith)) in
    omega (arith, sum_by-cons (λ v. one_if (nat_le 0 (slice_index rests v))) v vs, here, all_from_zero vs rests)

price_by : (grain : Grain) (supporters rests : List ℕ) (cost : ℕ) → (grain ≡ Fine → 0 < cost) → (o : Option ℕ) → IsPriceFor supporters rests cost o
    → MatchOption (option_map (price_from grain supporters rests cost) o) (total_rest supporters rests < cost) (IsPriceIn grain supporters rests cost)
price_by grain supporters rests cost some None short = short
price_by Hundredths supporters rests cost some (Some payment) least = (least, refl)
price_by Fine supporters rests cost some (Some payment) least = price_from_least Fine supporters rests cost payment (some refl) least

module _ (s : SupportView) (rests : List ℕ) (place : ℕ) where
  -- the price as it is computed is what the rule says
  pub price_at_is_price_if : (s.grain ≡ Fine → 0 < cost_in_parts s place) → IsPrice s rests place (price_at s rests place)
  price_at_is_price_if some = price_by s.grain (supporters_at s place) rests (cost_in_parts s place) some _ (price_of_is_price (supporters_at s place) rests (cost_in_parts s place))

  pub price_at_is_price : 0 < cost_in_parts s place → IsPrice s rests place (price_at s rests place)
  price_at_is_price some = price_at_is_price_if (λ fine. some)

  pub one_price : (a b : Option PriceView) → IsPrice s rests place a → IsPrice s rests place b → a ≡ b
  one_price None None h g = refl
  one_price None (Some q) h g = absurd (omega (arith, h, price_covers s.grain (supporters_at s place) rests (cost_in_parts s place) q g))
  one_price (Some p) None h g = absurd (omega (arith, g, price_covers s.grain (supporters_at s place) rests (cost_in_parts s place) p h))
  one_price (Some p) (Some q) h g = ap (λ r. Some r) (price_is_unique s.grain (supporters_at s place) rests (cost_in_parts s place) p q h g)

  -- and what the rule says is what is computed
  pub price_from_is_price : 0 < cost_in_parts s place → (answer : Option PriceView) → IsPrice s rests place answer → answer ≡ price_at s rests place
  price_from_is_price some answer h = one_price answer (price_at s rests place) h (price_at_is_price some)

  pub is_price_from_at : 0 < cost_in_parts s place → (answer : Option PriceView) → answer ≡ price_at s rests place → IsPrice s rests place answer
  is_price_from_at some answer e = subst (IsPrice s rests place) (sym e) (price_at_is_price some)

  pub some_payers_at : 0 < cost_in_parts s place → (p : PriceView) → price_at s rests place ≡ Some p → 0 < p.payers
  some_payers_at some p e =
      price_has_payers s.grain (supporters_at s place) rests (cost_in_parts s place) p (is_price_from_at some (Some p) (sym e))

  pub some_amount_at : 0 < cost_in_parts s place → (p : PriceView) → price_at s rests place ≡ Some p → 0 < p.amount
  some_amount_at some p e =
      price_has_amount s.grain (supporters_at s place) rests (cost_in_parts s place) p some (is_price_from_at some (Some p) (sym e))

  -- there is none just where all rests together are below the cost
  pub no_price_at : price_at s rests place ≡ None → total_rest (supporters_at s place) rests < cost_in_parts s place
  no_price_at e = none_by (price_of (supporters_at s place) rests (cost_in_parts s place)) refl e
    where
      none_by : (o : Option ℕ) → price_of (supporters_at s place) rests (cost_in_parts s place) ≡ o
          → option_map (price_from s.grain (supporters_at s place) rests (cost_in_parts s place)) o ≡ None
          → total_rest (supporters_at s place) rests < cost_in_parts s place
      none_by None is e = short_from_no_price (supporters_at s place) rests (cost_in_parts s place) is
      none_by (Some p) is e = absurd (none-some _ (sym e))

  pub no_price_at_from_short : total_rest (supporters_at s place) rests < cost_in_parts s place → price_at s rests place ≡ None
  no_price_at_from_short short =
      ap (option_map (price_from s.grain (supporters_at s place) rests (cost_in_parts s place))) (no_price_from_short (supporters_at s place) rests (cost_in_parts s place) short)

-- no price falls where no rest rises, and what had none gets none
module _ (s : SupportView) (before after : List ℕ) (place : ℕ) (falls : NoRestRises before after) where
  -- what costs nothing has one price
  free_price : (rests : List ℕ) → cost_in_parts s place ≡ 0 → price_at s rests place ≡ Some (price_from s.grain (supporters_at s place) rests 0 0)
  free_price rests none =
      ap (λ c. option_map (price_from s.grain (supporters_at s place) rests c) (price_of (supporters_at s place) rests c)) none
      ∙ ap (option_map (price_from s.grain (supporters_at s place) rests 0))
      (price_from_least_payment (supporters_at s place) rests 0 0 (record { covers = omega arith; least = λ q less. absurd (omega (arith, less)) }))

  free_prices : (grain : Grain) (supporters : List ℕ) → price_from grain supporters before 0 0 ≡ price_from grain supporters after 0 0
  free_prices Hundredths supporters = refl
  free_prices Fine supporters = same_price _ _
      (omega (arith, paid_at-zero supporters before, paid_at-zero supporters after))
      (all_from_zero supporters before ∙ sym (all_from_zero supporters after))

  pub prices_rise : (p q : PriceView) → price_at s before place ≡ Some p → price_at s after place ≡ Some q → AtMost p q
  prices_rise p q b a = elim (cases_lt 0 (cost_in_parts s place)) [
    | inl some ↦
        price_rises s.grain (supporters_at s place) before after (cost_in_parts s place) p q falls
        (is_price_from_at s before place some (Some p) (sym b)) (is_price_from_at s after place some (Some q) (sym a))
    | inr none ↦
        let nothing : cost_in_parts s place ≡ 0 = omega (arith, none) in
        inr (same_Some _ _ (sym b ∙ free_price before nothing ∙ ap (λ r. Some r) (free_prices s.grain (supporters_at s place)) ∙ sym (free_price after nothing) ∙ a))
  ]

  pub none_stays : price_at s before place ≡ None → price_at s after place ≡ None
  none_stays b =
      no_price_at_from_short s after place
      (omega (arith, no_price_at s before place b, total_rest_falls (supporters_at s place) before after falls))

-- who is to pay a higher price is due no less
pub due_rises : (p q : PriceView) → AtMost p q → due p ≤ due q
due_rises p q (inr same) = subst (λ (r : PriceView). due p ≤ due r) same (omega arith)
due_rises p q (inl less) =
    let some : 0 < max 1 p.payers = omega arith in
    let other : 0 < max 1 q.payers = omega arith in
    (le-div_iff_mul-le other).1
    (let own = (le-div_iff_mul-le some).0 (omega arith) in
    let scaled : p.amount / max 1 p.payers * max 1 p.payers * max 1 q.payers ≤ p.amount * max 1 q.payers = mul-le-mul_right (max 1 q.payers) own in
    let within : max 1 p.payers * (p.amount / max 1 p.payers * max 1 q.payers) ≤ max 1 p.payers * q.amount = omega (arith, scaled, less) in
    le_of_mul-le-mul_left within some)

-- ---- the prices of a list of projects, in the words of the rule, and back

module _ (s : SupportView) (rests : List ℕ) (cost : (place : ℕ) → place < length s.costs → 0 < cost_in_parts s place) where
  all_are_prices : (projects : List ℕ) → All (λ place. place < length s.costs) projects → AllZip (IsPrice s rests) projects (map (price_at s rests) projects)
  all_are_prices [] known = tt
  all_are_prices (place ∷ projects) known =
      (price_at_is_price s rests place (cost place (known 0 0 (omega arith))), all_are_prices projects (All-tail (λ place. place < length s.costs) place projects known))

  pub are_prices : (projects : List ℕ) → All (λ place. place < length s.costs) projects → (answers : List (Option PriceView)) → answers ≡ map (price_at s rests) projects
      → AllZip (IsPrice s rests) projects answers
  are_prices projects known answers e = subst (AllZip (IsPrice s rests) projects) (sym e) (all_are_prices projects known)

  pub prices_from_are_prices : (projects : List ℕ) → All (λ place. place < length s.costs) projects → (answers : List (Option PriceView))
      → AllZip (IsPrice s rests) projects answers → answers ≡ map (price_at s rests) projects
  prices_from_are_prices [] known [] h = refl
  prices_from_are_prices [] known (answer ∷ answers) h = absurd h
  prices_from_are_prices (place ∷ projects) known [] h = absurd h
  prices_from_are_prices (place ∷ projects) known (answer ∷ answers) h =
      ap (λ o. o ∷ answers) (price_from_is_price s rests place (cost place (known 0 0 (omega arith))) answer h.0)
      ∙ ap (λ os. price_at s rests place ∷ os) (prices_from_are_prices projects (All-tail (λ place. place < length s.costs) place projects known) answers h.1)
