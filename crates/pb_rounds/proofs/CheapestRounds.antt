-- Each project that a run elects was the cheapest of its round.
use Rattle.std.proofs.Common.{◌≡◌, ◌≢◌, ℕ, zero, suc, ◌*◌, ◌<◌, List, [], ◌∷◌, ◌++◌, length, Option, Some, None, true, false, refl, sym, ◌∙◌, ap, inl, inr, arith}
use Rattle.std.specs.Prelude.{All, ◌⊎◌, replicate}
use Rattle.std.specs.Cmp.{ranks}
use Rattle.std.specs.List.{range_with_len}
use Rattle.std.specs.Option.{option_map_or}
use Rattle.std.specs.Ordering.{is_lt, nat_cmp, ordering_then}
use Rattle.std.specs.declared.cmp.Ordering.{Ordering}
use Rattle.std.specs.declared.cmp.Ordering.TheVariants.{Less, Equal, Greater}
use Rattle.std.proofs.lemmas.Bool.{true≢false}
use Rattle.std.proofs.lemmas.List.Elements.{All-nil, All-cons, All-head, All-tail}
use Rattle.pb_price.proofs.Prices.{is_price_from_at, price_from_is_price}
use Rattle.pb_price.proofs.SupporterLists.{cost_positive, support_form}
use Rattle.pb_price.specs.Price.{PriceView, due, paid_at, price_at}
use Rattle.pb_price.specs.Supporters.{SupportView, IsSupport, cost_at, supporters_at}
use Rattle.pb_rounds.specs.declared.measure.Measure.{Measure}
use Rattle.pb_rounds.specs.Cheapest.{IsCheaper, WasCheapest, rests_after}
use Rattle.pb_rounds.specs.Key.{KeyView, divisor, is_before}
use Rattle.pb_rounds.specs.Inner.Listed.{is_listed}
use Rattle.pb_rounds.specs.Run.{ElectedView, RunView, best_of, charged, elected_by, key_of, run_from, run_of, then_run, without}
use Rattle.pb_rounds.proofs.BestKey.{best_is_key}
use Rattle.pb_rounds.proofs.BestIs.{none_before_best}
use Rattle.pb_rounds.proofs.Divisors.{divisor_is, payers_at}
use Rattle.pb_rounds.proofs.Listed.{is_listed-range, is_listed-without, is_listed-without_same, listed-below, listed_from_without, range_rises, RisesWithin-below}

-- the other does not come before: by the ratios, or by the places where these are equal
not_before : (x y i j : ℕ) (o r t : Ordering) → nat_cmp x y ≡ r → nat_cmp i j ≡ t → is_lt (ordering_then r (ordering_then t o)) ≡ false → i ≢ j
    → (y < x) ⊎ ((y ≡ x) × (j < i))
not_before x y i j o Less t ratio place h apart = absurd (true≢false h)
not_before x y i j o Equal Less ratio place h apart = absurd (true≢false h)
not_before x y i j o Equal Equal ratio place h apart = absurd (apart (rw place at (ranks i j)))
not_before x y i j o Equal Greater ratio place h apart = inr (sym (rw ratio at (ranks x y)), rw place at (ranks i j))
not_before x y i j o Greater t ratio place h apart = inl (rw ratio at (ranks x y))

compared : (m : Measure) (s : SupportView) (place : ℕ) (price : PriceView) (other : ℕ) (q : PriceView) → 0 < cost_at s place → 0 < cost_at s other
    → 0 < price.payers → 0 < q.payers → other ≢ place
    → is_before (key_of m s other q) (key_of m s place price) ≡ false
    → IsCheaper m s place price other q
compared m s place price other q some more payers fewer apart h =
    elim (not_before (q.amount * divisor (key_of m s place price)) (price.amount * divisor (key_of m s other q)) other place _ _ _ refl refl h apart) [
      | inl less ↦ inl (rw (divisor_is m s place price some payers, divisor_is m s other q more fewer) at less)
      | inr same ↦ inr (rw (divisor_is m s place price some payers, divisor_is m s other q more fewer) at same.0, same.1)
    ]

-- w, elected after those before it, was the cheapest of its round; these are left at first
pub record WasFirst (m : Measure) (s : SupportView) (rests left : List ℕ) (before : List ElectedView) (w : ElectedView) : Type 0 where
  pub listed : is_listed left w.place ≡ true
  pub was_left : All (λ v. v.place ≢ w.place) before
  pub priced : price_at s (rests_after s rests before) w.place ≡ Some w.exact
  pub rounded : w.price ≡ due w.exact
  pub collected : w.collected ≡ paid_at (supporters_at s w.place) (rests_after s rests before) w.price
  pub cheapest : (other : ℕ) (price : PriceView) → is_listed left other ≡ true → other ≢ w.place → All (λ v. v.place ≢ other) before
      → price_at s (rests_after s rests before) other ≡ Some price
      → IsCheaper m s w.place w.exact other price

abbrev pub EachWasFirst : Measure → SupportView → List ℕ → List ℕ → List ElectedView → Type 0
EachWasFirst m s rests left elected = (before : List ElectedView) (w : ElectedView) (later : List ElectedView)
    → elected ≡ before ++ w ∷ later → WasFirst m s rests left before w

head_is : (x y : ElectedView) (xs ys : List ElectedView) → x ∷ xs ≡ y ∷ ys → x ≡ y
head_is x y xs ys e = cc

tail_is : (x y : ElectedView) (xs ys : List ElectedView) → x ∷ xs ≡ y ∷ ys → xs ≡ ys
tail_is x y xs ys e = cc

none_was_first : (m : Measure) (s : SupportView) (rests left : List ℕ) → EachWasFirst m s rests left []
none_was_first m s rests left [] w later e = cc
none_was_first m s rests left (x ∷ before) w later e = cc

abbrev pub ArePositive : SupportView → List ℕ → Type 0
ArePositive s left = (place : ℕ) → is_listed left place ≡ true → 0 < cost_at s place

best_was_first : (m : Measure) (s : SupportView) (rests left : List ℕ) → ArePositive s left → (b : KeyView) → best_of m s rests left ≡ Some b
    → WasFirst m s rests left [] (elected_by s rests b)
best_was_first m s rests left positive b e =
    let found = best_is_key m s rests left b e in
    record {
      listed = found.is_left;
      was_left = All-nil (λ v. v.place ≢ b.place);
      priced = found.is_price;
      rounded = refl;
      collected = refl;
      cheapest = λ other price listed apart _ priced.
          compared m s b.place b.price other price (positive b.place found.is_left) (positive other listed)
          (payers_at s rests b.place b.price (positive b.place found.is_left) found.is_price) (payers_at s rests other price (positive other listed) priced) apart
          (ap (is_before (key_of m s other price)) (sym found.is_key) ∙ none_before_best m s rests left b e other price listed priced);
    }

later_was_first : (m : Measure) (s : SupportView) (rests left : List ℕ) → ArePositive s left → (b : KeyView) → best_of m s rests left ≡ Some b
    → (run : RunView) → EachWasFirst m s (charged (supporters_at s b.place) (due b.price) rests) (without b.place left) run.elected
    → EachWasFirst m s rests left (elected_by s rests b ∷ run.elected)
later_was_first m s rests left positive b best run others [] w later e =
    rw (← head_is _ _ _ _ e) (best_was_first m s rests left positive b best)
later_was_first m s rests left positive b best run others (x ∷ before) w later e =
    let found = others before w later (tail_is _ _ _ _ e) in
    rw (← head_is _ _ _ _ e) (record {
      listed = listed_from_without left b.place w.place found.listed;
      was_left = All-cons (λ v. v.place ≢ w.place) (elected_by s rests b) before
          (λ same. true≢false (sym found.listed ∙ ap (is_listed (without b.place left)) (sym same) ∙ is_listed-without_same left b.place)) found.was_left;
      priced = found.priced;
      rounded = found.rounded;
      collected = found.collected;
      cheapest = λ other price listed apart earlier priced.
          found.cheapest other price
          (is_listed-without left b.place other (λ same. All-head (λ v. v.place ≢ other) (elected_by s rests b) before earlier (sym same)) ∙ listed)
          apart (All-tail (λ v. v.place ≢ other) (elected_by s rests b) before earlier) priced;
    })

run_step : (m : Measure) (s : SupportView) (rests left : List ℕ) → ArePositive s left → (n : ℕ)
    → ((rests left : List ℕ) → ArePositive s left → EachWasFirst m s rests left (run_from m s n rests left).elected)
    → (o : Option KeyView) → best_of m s rests left ≡ o
    → EachWasFirst m s rests left
    (option_map_or (λ b. then_run (elected_by s rests b) (run_from m s n (charged (supporters_at s b.place) (due b.price) rests) (without b.place left)))
    o (record { elected = []; rests = rests })).elected
run_step m s rests left positive n others None e = none_was_first m s rests left
run_step m s rests left positive n others (Some b) e =
    later_was_first m s rests left positive b e (run_from m s n (charged (supporters_at s b.place) (due b.price) rests) (without b.place left))
    (others (charged (supporters_at s b.place) (due b.price) rests) (without b.place left) (λ place listed. positive place (listed_from_without left b.place place listed)))

run_was_first : (m : Measure) (s : SupportView) (n : ℕ) (rests left : List ℕ) → ArePositive s left
    → EachWasFirst m s rests left (run_from m s n rests left).elected
unfolding run_from
run_was_first m s zero rests left positive = none_was_first m s rests left
run_was_first m s (suc n) rests left positive = run_step m s rests left positive n (run_was_first m s n) (best_of m s rests left) refl

pub known_place : (s : SupportView) (place : ℕ) → is_listed (range_with_len 0 (length s.costs)) place ≡ true → place < length s.costs
known_place s place listed = listed-below (range_with_len 0 (length s.costs)) (length s.costs) place
    (RisesWithin-below _ 0 (length s.costs) (range_rises 0 (length s.costs) (length s.costs) (omega arith))) listed

all_were_first : (m : Measure) (s : SupportView) → IsSupport s → (share : ℕ)
    → EachWasFirst m s (replicate s.voters share) (range_with_len 0 (length s.costs)) (run_of m s share).elected
unfolding run_of
all_were_first m s h share = run_was_first m s (length s.costs) _ _ (λ place listed.
    (support_form s h).costs_positive place 0 (known_place s place listed))

-- each of the elected, in order of election from this share, was the cheapest of its round
abbrev pub EachWasCheapest : Measure → SupportView → ℕ → List ElectedView → Type 0
EachWasCheapest m s share elected = (before : List ElectedView) (w : ElectedView) (later : List ElectedView)
    → elected ≡ before ++ w ∷ later
    → WasCheapest m s (rests_after s (replicate s.voters share) before) before w

-- each of a run's elected was the cheapest of its round
pub run_was_cheapest : (m : Measure) (s : SupportView) → IsSupport s → (share : ℕ) → EachWasCheapest m s share (run_of m s share).elected
run_was_cheapest m s h share before w later e =
    let found = all_were_first m s h share before w later e in
    record {
      was_left = (known_place s w.place found.listed, found.was_left);
      priced = is_price_from_at s (rests_after s (replicate s.voters share) before) w.place (cost_positive s h w.place (known_place s w.place found.listed)) (Some w.exact) (sym found.priced);
      rounded = found.rounded;
      collected = found.collected;
      cheapest = λ other price left apart priced.
          let known = left.0 in
          found.cheapest other price (is_listed-range 0 (length s.costs) other (omega arith) (omega (arith, known))) apart left.1
          (sym (price_from_is_price s (rests_after s (replicate s.voters share) before) other (cost_positive s h other known) (Some price) priced));
    }
