-- A pricing record in keys is one in the words of the rule.
use Rattle.std.proofs.Common.{◌≡◌, ◌≢◌, ℕ, zero, suc, ◌<◌, ◌≤◌, List, [], ◌∷◌, ◌++◌, ◌-◌, length, get_or, take, Option, Some, None, true, false, refl, sym, subst, ◌∙◌, ap, inl, inr, arith}
use Rattle.std.specs.Prelude.{All, ◌==◌, MatchOption, not, replicate}
use Rattle.std.specs.List.{range_with_len}
use Rattle.std.specs.Option.{option_map_or}
use Rattle.std.proofs.lemmas.Bool.{true≢false, cases_Bool, cond-true, cond-false, eq-eqb, false_from_ne_true, not-true, or_cases, or_left, or_right}
use Rattle.std.proofs.lemmas.List.Elements.{All-nil, All-cons, All-head, All-tail, All-take}
use Rattle.std.proofs.lemmas.List.{length-append, take-append-le}
use Rattle.std.proofs.lemmas.List.Folds.{list_any_at}
use Rattle.std.proofs.lemmas.List.FromFn.{length-range_with_len}
use Rattle.std.proofs.lemmas.Option.{same_Some}
use Rattle.pb_price.proofs.Prices.{is_price_from_at}
use Rattle.pb_price.proofs.SupporterLists.{cost_positive, support_form}
use Rattle.pb_price.specs.Supporters.{SupportView, IsSupport, cost_at, supporters_at}
use Rattle.pb_price.specs.Price.{PriceView, due}
use Rattle.pb_price.specs.Inner.Payment.{nothing}
use Rattle.pb_rounds.specs.declared.measure.Measure.{Measure}
use Rattle.pb_rounds.specs.Cheapest.{IsCheaper, IsLeft}
use Rattle.pb_rounds.specs.Inner.KeyRecord.{AreSomeOf, HasKeyRecord, IsKeyEnd, IsKeyRound, KeyRecord, known_after}
use Rattle.pb_rounds.specs.Key.{KeyView, is_before}
use Rattle.pb_rounds.specs.PricingRecord.{ArePriced, HasPricing, IsPricedRound, PricingRecord}
use Rattle.pb_rounds.specs.Inner.Listed.{is_listed}
use Rattle.pb_rounds.specs.Run.{ElectedView, RunView, best_of, charged, elected_by, key_of, run_from, run_of, without}
use Rattle.pb_rounds.proofs.BestKey.{best_is_key}
use Rattle.pb_rounds.proofs.CheapestRounds.{known_place}
use Rattle.pb_rounds.proofs.Divisors.{payers_at}
use Rattle.pb_rounds.proofs.Listed.{contains_from_listed, is_listed-range, is_listed-without, is_listed-without_same, length-without, listed_from_contains, listed_from_without}
use Rattle.pb_rounds.proofs.Progress.{run_from-none, run_from-some}
use Rattle.pb_rounds.proofs.RunIs.{cheaper_is_before}

-- the list has just the projects that are left once these are elected
record AreAllLeft (s : SupportView) (left : List ℕ) (before : List ElectedView) : Type 0 where
  pub is_left : (place : ℕ) → is_listed left place ≡ true → IsLeft s before place
  pub listed : (place : ℕ) → IsLeft s before place → is_listed left place ≡ true

all_left : (s : SupportView) → AreAllLeft s (range_with_len 0 (length s.costs)) []
all_left s = record {
  is_left = λ place listed. (known_place s place listed, All-nil (λ w. w.place ≢ place));
  listed = λ place left. let known = left.0 in is_listed-range 0 (length s.costs) place (omega arith) (omega (arith, known));
}

one_left_less : (s : SupportView) (left : List ℕ) (before : List ElectedView) → AreAllLeft s left before → (w : ElectedView)
    → AreAllLeft s (without w.place left) (w ∷ before)
one_left_less s left before h w = record {
  is_left = λ place listed.
      let found = h.is_left place (listed_from_without left w.place place listed) in (
        found.0,
        All-cons (λ v. v.place ≢ place) w before
            (λ same. true≢false (sym listed ∙ ap (is_listed (without w.place left)) (sym same) ∙ is_listed-without_same left w.place)) found.1,
      );
  listed = λ place found.
      is_listed-without left w.place place (λ same. All-head (λ v. v.place ≢ place) w before found.1 (sym same))
      ∙ h.listed place (found.0, All-tail (λ v. v.place ≢ place) w before found.1);
}

-- what holds of each number that is listed holds of all
all_from_listed : (P : ℕ → Type 0) (xs : List ℕ) → ((n : ℕ) → is_listed xs n ≡ true → P n) → All P xs
all_from_listed P xs h k d below = h (get_or xs k d) (list_any_at (λ m. m == get_or xs k d) xs k d below (eq-eqb _ _ refl))

-- and so of all but the last ones, where it holds of those before them
first_ones : (P : ℕ → Type 0) (xs ys zs : List ℕ) (most : ℕ) → zs ≡ xs ++ ys → length ys ≤ most → ((n : ℕ) → is_listed xs n ≡ true → P n)
    → All P (take (length zs - most) zs)
first_ones P xs ys zs most parts few h =
    let n = length (xs ++ ys) - most in
    let within : n ≤ length xs = omega (arith, length-append xs ys, few) in
    subst (λ zs. All P (take (length zs - most) zs)) (sym parts)
    (subst (All P) (sym (take-append-le n xs ys within)) (All-take P n xs (all_from_listed P xs h)))

listed_in_front : (xs ys : List ℕ) (n : ℕ) → is_listed xs n ≡ true → is_listed (xs ++ ys) n ≡ true
listed_in_front [] ys n e = absurd (true≢false (sym e))
listed_in_front (x ∷ xs) ys n e = elim (or_cases (x == n) _ e) [
  | inl here ↦ or_left (x == n) _ here
  | inr later ↦ or_right (x == n) _ (listed_in_front xs ys n later)
]

-- the known prices of those that are left have payers
abbrev pub HavePayers : List ℕ → (ℕ → Option PriceView) → Type 0
HavePayers left known = (place : ℕ) (price : PriceView) → is_listed left place ≡ true → known place ≡ Some price → 0 < price.payers

payers_after : (s : SupportView) (left : List ℕ) → ((place : ℕ) → is_listed left place ≡ true → 0 < cost_at s place) → (rests priced : List ℕ) (known : ℕ → Option PriceView)
    → HavePayers left known → HavePayers left (known_after s rests priced known)
payers_after s left positive rests priced known payers place price listed e = elim (cases_Bool (is_listed priced place)) [
  | inl here ↦ payers_at s rests place price (positive place listed) (sym (cond-true _ _ _ here) ∙ e)
  | inr other ↦ payers place price listed (sym (cond-false _ _ _ other) ∙ e)
]

are_priced : (s : SupportView) → IsSupport s → (left : List ℕ) (before : List ElectedView) → AreAllLeft s left before → (rests priced : List ℕ) (known : ℕ → Option PriceView)
    → AreSomeOf left priced → ArePriced s before rests priced known (known_after s rests priced known)
are_priced s support left before h rests priced known some = record {
  are_left = all_from_listed (IsLeft s before) priced (λ n listed. h.is_left n (some.among n listed));
  once = some.once;
  renewed = λ place here.
      let listed = listed_from_contains priced place here in
      is_price_from_at s rests place (cost_positive s support place (h.is_left place (some.among place listed)).0) (known_after s rests priced known place) (cond-true _ _ _ listed);
  kept = λ place other. cond-false _ _ _ (false_from_ne_true _ (λ listed. other (contains_from_listed priced place listed)));
}

module _ (m : Measure) (s : SupportView) (support : IsSupport s) (workers : ℕ) where
  -- one round that elects the best of those that are left
  module _ (rests left : List ℕ) (before : List ElectedView) (h : AreAllLeft s left before) (known : ℕ → Option PriceView) (payers : HavePayers left known) (priced : List ℕ) where
    positive : (place : ℕ) → is_listed left place ≡ true → 0 < cost_at s place
    positive place listed = (support_form s support).costs_positive place 0 (h.is_left place listed).0

    module _ (b : KeyView) (best : best_of m s rests left ≡ Some b) (r : IsKeyRound m s workers rests left known b priced) where
      b_is : b ≡ key_of m s b.place b.price
      b_is = (best_is_key m s rests left b best).is_key

      b_left : is_listed left b.place ≡ true
      b_left = (best_is_key m s rests left b best).is_left

      b_payers : 0 < b.price.payers
      b_payers = payers_at s rests b.place b.price (positive b.place b_left) (best_is_key m s rests left b best).is_price

      was_in_time : (place : ℕ) → is_listed left place ≡ true → (o : Option PriceView) → known place ≡ o
          → option_map_or (λ price. not (is_before b (key_of m s place price))) o false ≡ true
          → (price : PriceView) × (known place ≡ Some price) × ¬ IsCheaper m s b.place b.price place price
      was_in_time place listed None e h' = absurd (true≢false (sym h'))
      was_in_time place listed (Some price) e h' = (
        price,
        e,
        λ cheaper.
            true≢false (sym (cheaper_is_before m s b.place b.price place price (positive b.place b_left) (positive place listed) b_payers (payers place price listed e) cheaper)
            ∙ ap (λ c. is_before c (key_of m s place price)) (sym b_is) ∙ not-true _ h'),
      )

      needed_left : (place : ℕ) → is_listed r.were_in_time.needed place ≡ true → is_listed left place ≡ true
      needed_left place listed =
          r.are_priced.among place (subst (λ (xs : List ℕ). is_listed xs place ≡ true) (sym r.were_in_time.parts) (listed_in_front r.were_in_time.needed r.were_in_time.spare place listed))

      priced_round : IsPricedRound m s workers before known (known_after s rests priced known) (elected_by s rests b) priced
      priced_round = record {
        has_winner = contains_from_listed priced b.place r.has_winner;
        none_cheaper = λ place price is_left e cheaper.
            let listed = h.listed place is_left in
            true≢false (sym (cheaper_is_before m s place price b.place b.price (positive place listed) (positive b.place b_left) (payers_after s left positive rests priced known payers place price listed e) b_payers cheaper)
            ∙ ap (is_before (key_of m s place price)) (sym b_is) ∙ r.none_before place price listed e);
        in_time = first_ones (λ place. (price : PriceView) × (known place ≡ Some price) × ¬ IsCheaper m s b.place b.price place price) r.were_in_time.needed r.were_in_time.spare
            priced (workers - 1) r.were_in_time.parts r.were_in_time.few
            (λ place listed. was_in_time place (needed_left place listed) (known place) refl (r.were_in_time.in_time place listed));
      }

  -- a record of all rounds, where that of the later ones is one
  module _ (priced : List ℕ) (later : List (List ℕ))
      (others : (n : ℕ) (rests left : List ℕ) (before : List ElectedView) (known : ℕ → Option PriceView) → AreAllLeft s left before → HavePayers left known → length left ≤ n
      → KeyRecord m s workers rests left known later → PricingRecord m s workers rests before known (run_from m s n rests left).elected later)
      (rests left : List ℕ) (before : List ElectedView) (known : ℕ → Option PriceView) (h : AreAllLeft s left before) (payers : HavePayers left known) where
    one_round : (n : ℕ) → length left ≤ n → (o : Option KeyView) → best_of m s rests left ≡ o
        → MatchOption o (IsKeyEnd s rests left known priced × (later ≡ []))
        (λ winner. IsKeyRound m s workers rests left known winner priced
        × KeyRecord m s workers (charged (supporters_at s winner.place) (due winner.price) rests) (without winner.place left) (known_after s rests priced known) later)
        → PricingRecord m s workers rests before known (run_from m s n rests left).elected (priced ∷ later)
    one_round n short None e r =
        subst (λ (elected : List ElectedView). PricingRecord m s workers rests before known elected (priced ∷ later))
        (sym (ap (λ (run : RunView). run.elected) (run_from-none m s rests left e n)))
        (subst (λ (later : List (List ℕ)). PricingRecord m s workers rests before known [] (priced ∷ later)) (sym r.1) (
          known_after s rests priced known,
          are_priced s support left before h rests priced known r.0.are_priced,
          λ place is_left. r.0.all_none place (h.listed place is_left),
        ))
    one_round zero short (Some b) e r =
        let less = length-without left b.place (best_is_key m s rests left b e).is_left in
        absurd (omega (arith, less, short))
    one_round (suc n) short (Some b) e r =
        let less = length-without left b.place (best_is_key m s rests left b e).is_left in
        subst (λ (elected : List ElectedView). PricingRecord m s workers rests before known elected (priced ∷ later))
        (sym (ap (λ (run : RunView). run.elected) (run_from-some m s rests left b e n))) (
          known_after s rests priced known,
          are_priced s support left before h rests priced known r.0.are_priced,
          priced_round rests left before h known payers priced b e r.0,
          others n (charged (supporters_at s b.place) (due b.price) rests) (without b.place left) (elected_by s rests b ∷ before) (known_after s rests priced known)
              (one_left_less s left before h (elected_by s rests b))
              (λ place price listed is. payers_after s left (positive rests left before h known payers priced) rests priced known payers place price (listed_from_without left b.place place listed) is)
              (omega (arith, less, short)) r.1,
        )

  all_rounds : (rounds : List (List ℕ)) (n : ℕ) (rests left : List ℕ) (before : List ElectedView) (known : ℕ → Option PriceView) → AreAllLeft s left before → HavePayers left known → length left ≤ n
      → KeyRecord m s workers rests left known rounds → PricingRecord m s workers rests before known (run_from m s n rests left).elected rounds
  all_rounds [] n rests left before known h payers short r = absurd r
  all_rounds (priced ∷ later) n rests left before known h payers short r =
      one_round priced later (all_rounds later) rests left before known h payers n short (best_of m s rests left) refl r

  pub has_pricing : (share : ℕ) (priced : List ℕ) → HasKeyRecord m s workers share priced → HasPricing m s workers share (run_of m s share).elected priced
  unfolding run_of
  has_pricing share priced (rounds, r, is) = (
    rounds,
    all_rounds rounds (length s.costs) (replicate s.voters share) (range_with_len 0 (length s.costs)) [] (λ _. Some nothing) (all_left s)
        (λ place price listed same. let is = ap (λ (p : PriceView). p.payers) (same_Some nothing price same) in omega (arith, is))
        (let long = length-range_with_len 0 (length s.costs) in omega (arith, long)) r,
    is,
  )
