-- The ties of a round, project by project.
use Rattle.std.proofs.Common.{◌≡◌, ℕ, zero, suc, ◌*◌, ◌<◌, ◌≤◌, false, List, [], ◌∷◌, ◌++◌, length, replicate, set, take, Option, Some, None, refl, subst, sym, ◌∙◌, ap, inl, inr, arith}
use Rattle.std.specs.Prelude.{◌==◌, IfSome, nat_le, not, slice_index_or}
use Rattle.std.specs.Option.{option_map_or}
use Rattle.std.proofs.lemmas.Bool.{cases_Bool, cases_eq, leb-false, ne_eqb, and_right}
use Rattle.std.proofs.lemmas.List.{get_or-replicate, get_or-set_same, get_or-set_other, length-replicate, length-set}
use Rattle.std.proofs.lemmas.Option.{none-some}
use Rattle.std.proofs.Math.Nat.{lt_of_mul-lt-mul_left, mul-le-mul_right}
use Rattle.pb_price.specs.Inner.Lists.{NoRestRises}
use Rattle.pb_price.specs.Inner.Payment.{nothing}
use Rattle.pb_price.specs.Price.{AtMost, HasPayers, IsPrice, PriceView, price_at}
use Rattle.pb_price.specs.Supporters.{IsSupport, SupportView, cost_in_parts}
use Rattle.pb_price.proofs.Prices.{at_most_is_below, at_most_trans, is_price_from_at, none_stays, price_from_is_price, prices_rise, some_amount_at, some_payers_at}
use Rattle.pb_price.proofs.SupporterLists.{cost_positive}
use Rattle.pb_rounds.specs.Run.{ElectedView, is_elected, weight_of}
use Rattle.pb_rounds.specs.declared.measure.Measure.{Measure}
use Rattle.pb_reasons.specs.Inner.Rounds.{AreTieBounds, IsTieBound, is_as_good, scaled, target}
use Rattle.pb_reasons.specs.Ties.{is_tied}

-- ---- one project

good_is_target : (m : Measure) (s : SupportView) (w : ElectedView) (place : ℕ) (price : PriceView)
    → is_as_good m s w place price ≡ (scaled m s w price == target m s w place price)
good_is_target m s w place price = refl

-- what is above by a lower price is so by a higher one
above_more : (a v k ba bp pa pp : ℕ) → 0 < pp → a * (bp * v) < ba * k → ba * pp ≤ pa * bp → a * (pp * v) < pa * k
above_more a v k ba bp pa pp some above most =
    let one : suc (a * (bp * v)) * pp ≤ ba * k * pp = mul-le-mul_right pp above in
    let two : ba * pp * k ≤ pa * bp * k = mul-le-mul_right k most in
    let all : bp * (a * (pp * v)) < bp * (pa * k) = omega (arith, one, two, some) in
    lt_of_mul-lt-mul_left bp all

at_most_amounts : (p q : PriceView) → 0 < p.payers → 0 < q.payers → AtMost p q → p.amount * q.payers ≤ q.amount * p.payers
at_most_amounts p q some other h = elim (at_most_is_below p q some other h) [
  | inl less ↦ omega (arith, less)
  | inr same ↦ subst (λ (r : PriceView). p.amount * r.payers ≤ r.amount * p.payers) same (omega arith)
]

-- a tie of a project that costs something
module _ (m : Measure) (s : SupportView) (elected : List ElectedView) (rests : List ℕ) (w : ElectedView) (place : ℕ) where
  pub no_bound_no_tie : IsTieBound s elected rests place None → is_tied m s elected rests w place ≡ false
  no_bound_no_tie h = elim (cases_Bool (is_elected elected place)) [
    | inl is ↦ rw is refl
    | inr is_not ↦ and_right (not (is_elected elected place)) _ (ap (λ o. option_map_or (is_as_good m s w place) o false) (h is_not))
  ]

  module _ (costs : 0 < cost_in_parts s place) where
    above_by : (bound : PriceView) → HasPayers s bound → ((price : PriceView) → price_at s rests place ≡ Some price → AtMost bound price)
        → target m s w place bound < scaled m s w bound
        → (o : Option PriceView) → price_at s rests place ≡ o → option_map_or (is_as_good m s w place) o false ≡ false
    above_by bound has lower above None e = refl
    above_by bound has lower above (Some price) e =
        let some = some_payers_at s rests place costs price e in
        let most = at_most_amounts bound price has.some some (lower price e) in
        let more = above_more w.exact.amount (weight_of m s place) (w.exact.payers * weight_of m s w.place) bound.amount bound.payers price.amount price.payers some above most in
        ne_eqb _ _ (λ same. omega (arith, same, more))

    -- a bound above a tie leaves none, and neither does none at all
    pub no_tie : (bound : Option PriceView) → IsTieBound s elected rests place bound
        → option_map_or (λ least. nat_le (scaled m s w least) (target m s w place least)) bound false ≡ false
        → is_tied m s elected rests w place ≡ false
    no_tie None h out = no_bound_no_tie h
    no_tie (Some bound) h out =
        and_right (not (is_elected elected place)) _
        (above_by bound h.1 h.2 (leb-false _ _ out) (price_at s rests place) refl)

    -- a lower bound, as a step from it asks for it
    pub bound_for_step : (bound : PriceView) → IsTieBound s elected rests place (Some bound) → (price : PriceView) → IsPrice s rests place (Some price) → AtMost bound price
    bound_for_step bound h price is = h.2 price (sym (price_from_is_price s rests place costs (Some price) is))

    -- a better one, as a step gives it
    pub bound_by_step : (bound next : PriceView) → IsTieBound s elected rests place (Some bound) → HasPayers s next
        → ((price : PriceView) → IsPrice s rests place (Some price) → AtMost next price)
        → IsTieBound s elected rests place (Some next)
    bound_by_step bound next h has lower = (h.0, has, λ price e. lower price (is_price_from_at s rests place costs (Some price) (sym e)))

    pub priced_is_tied : is_elected elected place ≡ false → (answer : Option PriceView) → IsPrice s rests place answer
        → option_map_or (is_as_good m s w place) answer false ≡ is_tied m s elected rests w place
    priced_is_tied left answer h =
        rw left (ap (λ o. option_map_or (is_as_good m s w place) o false) (price_from_is_price s rests place costs answer h))

    -- none at all, as a step gives it
    pub none_is_bound : IsPrice s rests place None → IsTieBound s elected rests place None
    none_is_bound h = λ _. sym (price_from_is_price s rests place costs None h)

module _ (s : SupportView) (elected : List ElectedView) (rests : List ℕ) where
  -- each bound has payers
  pub bound_has_payers : (place : ℕ) (bound : Option PriceView) → IsTieBound s elected rests place bound → IfSome bound (HasPayers s)
  bound_has_payers place None h = tt
  bound_has_payers place (Some bound) h = h.1

  -- one better bound
  pub one_bound : (bounds : List (Option PriceView)) → AreTieBounds s elected rests bounds → (place : ℕ) → place < length s.costs → (bound : Option PriceView)
      → IsTieBound s elected rests place bound → AreTieBounds s elected rests (set bounds place bound)
  one_bound bounds h place known bound is = record {
    one_each = length-set bounds place bound ∙ h.one_each;
    each = λ k below. elim (cases_eq k place) [
      | inl same ↦ rw (same, get_or-set_same bounds place bound None (let all = h.one_each in omega arith)) is
      | inr other ↦ rw get_or-set_other (h.each k below)
    ];
  }

-- before the first round
pub opening_bound : (n place : ℕ) (bounds : List (Option PriceView)) → bounds ≡ replicate n (Some nothing) → place < n → slice_index_or bounds place None ≡ Some nothing
opening_bound n place bounds h known =
    ap (λ (bs : List (Option PriceView)). slice_index_or bs place None) h ∙ get_or-replicate n place (Some nothing) None known

module _ (s : SupportView) (rests : List ℕ) where
  module _ (is_support : IsSupport s) where
    above_nothing : (place : ℕ) → place < length s.costs → (price : PriceView) → price_at s rests place ≡ Some price → AtMost nothing price
    above_nothing place known price e =
        let some : 0 < price.amount = some_amount_at s rests place (cost_positive s is_support place known) price e in
        inl (omega (arith, some))

    pub opening_are_bounds : (bounds : List (Option PriceView)) → bounds ≡ replicate (length s.costs) (Some nothing) → AreTieBounds s [] rests bounds
    opening_are_bounds bounds h = record {
      one_each = ap (λ (bs : List (Option PriceView)). length bs) h ∙ length-replicate (length s.costs) (Some nothing);
      each = λ place known. subst (IsTieBound s [] rests place) (sym (opening_bound (length s.costs) place bounds h known))
          (refl, record { some = omega arith; few = omega arith; alone = λ whole. refl }, above_nothing place known);
    }

-- ---- lower rests

module _ (s : SupportView) (elected : List ElectedView) (before after : List ℕ) (falls : NoRestRises before after) where
  module _ (place : ℕ) where
    lower_by : (bound price : PriceView) → ((price : PriceView) → price_at s before place ≡ Some price → AtMost bound price) → price_at s after place ≡ Some price
        → (o : Option PriceView) → price_at s before place ≡ o → AtMost bound price
    lower_by bound price lower e None none =
        absurd (none-some price (sym (none_stays s before after place falls none) ∙ e))
    lower_by bound price lower e (Some r) some =
        at_most_trans bound r price (lower r some) (prices_rise s before after place falls r price some e)

    bound_falls : (bound : Option PriceView) → IsTieBound s elected before place bound → IsTieBound s elected after place bound
    bound_falls None h = λ left. none_stays s before after place falls (h left)
    bound_falls (Some bound) h = (h.0, h.1, λ price e. lower_by bound price h.2 e (price_at s before place) refl)

  pub tie_bounds_fall : (bounds : List (Option PriceView)) → AreTieBounds s elected before bounds → AreTieBounds s elected after bounds
  tie_bounds_fall bounds h = record { one_each = h.one_each; each = λ place known. bound_falls place _ (h.each place known) }

-- ---- lists that are cut

pub take_again : {X : Type 0} (n : ℕ) (xs ys : List X) → take n (take n xs ++ ys) ≡ take n (xs ++ ys)
take_again zero xs ys = refl
take_again (suc n) [] ys = refl
take_again (suc n) (x ∷ xs) ys = ap (λ zs. x ∷ zs) (take_again n xs ys)
