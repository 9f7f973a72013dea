-- A run is what the words of its rule say, and nothing else is.
use Rattle.std.proofs.Common.{◌≡◌, ◌≢◌, ℕ, zero, suc, ◌<◌, ◌≤◌, List, [], ◌∷◌, length, Option, Some, None, true, false, refl, sym, subst, ◌∙◌, ap, inl, inr, arith}
use Rattle.std.specs.Prelude.{All, ◌⊎◌, ◌*◌, replicate}
use Rattle.std.specs.Cmp.{nat_cmp_total, tied_itself}
use Rattle.std.specs.List.{range_with_len}
use Rattle.std.specs.Option.{option_map_or}
use Rattle.std.specs.Ordering.{is_lt, nat_cmp, ordering_then}
use Rattle.std.specs.declared.cmp.Ordering.{Ordering}
use Rattle.std.proofs.lemmas.Bool.{true≢false, cases_eq}
use Rattle.std.proofs.lemmas.List.Elements.{All-nil, All-cons, All-head, All-tail}
use Rattle.std.proofs.lemmas.List.FromFn.{length-range_with_len}
use Rattle.std.proofs.lemmas.Option.{same_Some}
use Rattle.pb_price.proofs.Prices.{is_price_from_at, no_price_at_from_short, price_from_is_price}
use Rattle.pb_price.proofs.SupporterLists.{cost_positive, support_form}
use Rattle.pb_price.specs.Price.{PriceView, due, paid_at, price_at}
use Rattle.pb_price.specs.Supporters.{SupportView, IsSupport, cost_at, supporters_at}
use Rattle.pb_rounds.specs.declared.measure.Measure.{Measure}
use Rattle.pb_rounds.specs.Inner.KeyOrder.{greater_from, key_cmp-total, less_from}
use Rattle.pb_rounds.specs.Cheapest.{IsCheaper, IsRun, rests_after}
use Rattle.pb_rounds.specs.Key.{KeyView, divisor, is_before}
use Rattle.pb_rounds.specs.Inner.Listed.{is_listed}
use Rattle.pb_rounds.specs.Run.{ElectedView, RunView, best_of, charged, elected_by, key_of, run_from, run_of, then_run, without}
use Rattle.pb_rounds.proofs.BestIs.{is_best, no_best}
use Rattle.pb_rounds.proofs.CheapestRounds.{ArePositive, EachWasFirst, WasFirst, known_place, run_was_cheapest}
use Rattle.pb_rounds.proofs.Divisors.{divisor_is, payers_at}
use Rattle.pb_rounds.proofs.Explained.{run_has_price_system}
use Rattle.pb_rounds.proofs.Listed.{is_listed-range, is_listed-without, is_listed-without_same, length-without, listed_from_without}
use Rattle.pb_rounds.proofs.Progress.{run_from-none, run_from-some}

-- what is less, or as much and later, does not come before
later_by : (x y i j : ℕ) (o : Ordering) → (y < x) ⊎ ((y ≡ x) × (j < i)) → is_lt (ordering_then (nat_cmp x y) (ordering_then (nat_cmp i j) o)) ≡ false
later_by x y i j o (inl less) = rw (greater_from x y less) refl
later_by x y i j o (inr same) =
    let tied = ap (nat_cmp x) same.0 ∙ tied_itself nat_cmp_total x in
    rw (tied, greater_from i j same.1) refl

cheaper_is_not_after : (m : Measure) (s : SupportView) (place : ℕ) (price : PriceView) (other : ℕ) (q : PriceView) → 0 < cost_at s place → 0 < cost_at s other
    → 0 < price.payers → 0 < q.payers
    → IsCheaper m s place price other q → is_before (key_of m s other q) (key_of m s place price) ≡ false
cheaper_is_not_after m s place price other q some more payers fewer h =
    later_by (q.amount * divisor (key_of m s place price)) (price.amount * divisor (key_of m s other q)) other place _
    (rw (divisor_is m s place price some payers, divisor_is m s other q more fewer) h)

-- what is less, or as much and earlier, comes before
first_by : (x y i j : ℕ) (o : Ordering) → (x < y) ⊎ ((x ≡ y) × (i < j)) → is_lt (ordering_then (nat_cmp x y) (ordering_then (nat_cmp i j) o)) ≡ true
first_by x y i j o (inl less) = rw (less_from x y less) refl
first_by x y i j o (inr same) =
    let tied = ap (nat_cmp x) (sym same.0) ∙ tied_itself nat_cmp_total x in
    rw (tied, less_from i j same.1) refl

pub cheaper_is_before : (m : Measure) (s : SupportView) (place : ℕ) (price : PriceView) (other : ℕ) (q : PriceView) → 0 < cost_at s place → 0 < cost_at s other
    → 0 < price.payers → 0 < q.payers
    → IsCheaper m s place price other q → is_before (key_of m s place price) (key_of m s other q) ≡ true
cheaper_is_before m s place price other q some more payers fewer h =
    first_by (price.amount * divisor (key_of m s other q)) (q.amount * divisor (key_of m s place price)) place other _
    (rw (divisor_is m s place price some payers, divisor_is m s other q more fewer) h)

-- from these rests on, with these projects left, these are elected, each the cheapest of its round, and no project is left that has a price
record IsRunFrom (m : Measure) (s : SupportView) (rests left : List ℕ) (elected : List ElectedView) (after : List ℕ) : Type 0 where
  pub first : EachWasFirst m s rests left elected
  pub rests_are : after ≡ rests_after s rests elected
  pub none_left : (place : ℕ) → is_listed left place ≡ true → All (λ w. w.place ≢ place) elected → price_at s after place ≡ None

first_is_best : (m : Measure) (s : SupportView) (rests left : List ℕ) → ArePositive s left → (w : ElectedView) → WasFirst m s rests left [] w
    → best_of m s rests left ≡ Some (key_of m s w.place w.exact)
first_is_best m s rests left positive w h =
    is_best m s rests left w.place w.exact h.listed h.priced (λ other p listed priced. elim (cases_eq other w.place) [
      | inl same ↦
          let price : p ≡ w.exact = same_Some _ _ (sym priced ∙ ap (price_at s rests) same ∙ h.priced) in
          ap (λ b. is_before b (key_of m s w.place w.exact)) (ap (λ n. key_of m s n p) same ∙ ap (key_of m s w.place) price)
          ∙ ap is_lt (tied_itself key_cmp-total (key_of m s w.place w.exact))
      | inr apart ↦
          cheaper_is_not_after m s w.place w.exact other p (positive w.place h.listed) (positive other listed)
          (payers_at s rests w.place w.exact (positive w.place h.listed) h.priced) (payers_at s rests other p (positive other listed) priced)
          (h.cheapest other p listed apart (All-nil (λ v. v.place ≢ other)) priced)
    ])

later_words : (m : Measure) (s : SupportView) (rests left : List ℕ) (w : ElectedView) (elected : List ElectedView) (after : List ℕ)
    → IsRunFrom m s rests left (w ∷ elected) after
    → IsRunFrom m s (charged (supporters_at s w.place) w.price rests) (without w.place left) elected after
later_words m s rests left w elected after h =
    let other_than : (place : ℕ) → is_listed (without w.place left) place ≡ true → w.place ≢ place =
    λ place listed same. true≢false (sym listed ∙ ap (is_listed (without w.place left)) (sym same) ∙ is_listed-without_same left w.place) in
    record {
      first = λ before v later e.
          let found = h.first (w ∷ before) v later (ap (λ xs. w ∷ xs) e) in
          record {
            listed = is_listed-without left w.place v.place (λ same. All-head (λ x. x.place ≢ v.place) w before found.was_left (sym same)) ∙ found.listed;
            was_left = All-tail (λ x. x.place ≢ v.place) w before found.was_left;
            priced = found.priced;
            rounded = found.rounded;
            collected = found.collected;
            cheapest = λ other price listed apart earlier priced.
                found.cheapest other price (listed_from_without left w.place other listed) apart
                (All-cons (λ x. x.place ≢ other) w before (other_than other listed) earlier) priced;
          };
      rests_are = h.rests_are;
      none_left = λ place listed others.
          h.none_left place (listed_from_without left w.place place listed)
          (All-cons (λ x. x.place ≢ place) w elected (other_than place listed) others);
    }

words_are_run : (m : Measure) (s : SupportView) (elected : List ElectedView) (n : ℕ) (rests left after : List ℕ) → ArePositive s left → length left ≤ n
    → IsRunFrom m s rests left elected after → record { elected = elected; rests = after } ≡ run_from m s n rests left
words_are_run m s [] n rests left after positive short h =
    ap (λ r. record { elected = []; rests = r }) h.rests_are
    ∙ sym (run_from-none m s rests left (no_best m s rests left (λ place listed.
    ap (λ r. price_at s r place) (sym h.rests_are) ∙ h.none_left place listed (All-nil (λ w. w.place ≢ place)))) n)
words_are_run m s (w ∷ elected) zero rests left after positive short h =
    let found = h.first [] w elected refl in
    let less = length-without left w.place found.listed in
    absurd (omega (arith, less, short))
words_are_run m s (w ∷ elected) (suc n) rests left after positive short h =
    let found = h.first [] w elected refl in
    let less = length-without left w.place found.listed in
    let later = words_are_run m s elected n (charged (supporters_at s w.place) w.price rests) (without w.place left) after
    (λ place listed. positive place (listed_from_without left w.place place listed)) (omega (arith, less, short))
    (later_words m s rests left w elected after h) in
    ap (then_run w) later
    ∙ ap (λ c. then_run (record { place = w.place; price = w.price; exact = w.exact; collected = c }) (run_from m s n (charged (supporters_at s w.place) w.price rests) (without w.place left))) found.collected
    ∙ ap (λ p. then_run (record { place = w.place; price = p; exact = w.exact; collected = paid_at (supporters_at s w.place) rests p }) (run_from m s n (charged (supporters_at s w.place) p rests) (without w.place left))) found.rounded
    ∙ sym (run_from-some m s rests left (key_of m s w.place w.exact) (first_is_best m s rests left positive w found) n)

-- what the rests are
rests_step : (m : Measure) (s : SupportView) (n : ℕ) (rests left : List ℕ)
    → ((rests left : List ℕ) → (run_from m s n rests left).rests ≡ rests_after s rests (run_from m s n rests left).elected)
    → (o : Option KeyView)
    → (option_map_or (λ b. then_run (elected_by s rests b) (run_from m s n (charged (supporters_at s b.place) (due b.price) rests) (without b.place left)))
    o (record { elected = []; rests = rests })).rests
    ≡ rests_after s rests
    (option_map_or (λ b. then_run (elected_by s rests b) (run_from m s n (charged (supporters_at s b.place) (due b.price) rests) (without b.place left)))
    o (record { elected = []; rests = rests })).elected
rests_step m s n rests left others None = refl
rests_step m s n rests left others (Some b) = others (charged (supporters_at s b.place) (due b.price) rests) (without b.place left)

run_rests : (m : Measure) (s : SupportView) (n : ℕ) (rests left : List ℕ) → (run_from m s n rests left).rests ≡ rests_after s rests (run_from m s n rests left).elected
unfolding run_from
run_rests m s zero rests left = refl
run_rests m s (suc n) rests left = rests_step m s n rests left (run_rests m s n) (best_of m s rests left)

all_rests : (m : Measure) (s : SupportView) (share : ℕ) → (run_of m s share).rests ≡ rests_after s (replicate s.voters share) (run_of m s share).elected
unfolding run_of
all_rests m s share = run_rests m s (length s.costs) (replicate s.voters share) (range_with_len 0 (length s.costs))

module _ (m : Measure) (s : SupportView) (share : ℕ) where
  -- the words hold of the run that is computed
  pub words_of_run : IsSupport s → IsRun m s share (run_of m s share).elected (run_of m s share).rests
  words_of_run h = record {
    cheapest = run_was_cheapest m s h share;
    rests_are = all_rests m s share;
    none_left = λ place left. (run_has_price_system m s h share).1.too_expensive place left.0 left.1;
    is_support = h;
  }

  words_from : (run : RunView) → IsRun m s share run.elected run.rests → IsRunFrom m s (replicate s.voters share) (range_with_len 0 (length s.costs)) run.elected run.rests
  words_from run words = record {
    first = λ before w later e.
        let found = words.cheapest before w later e in
        let known = found.was_left.0 in
        record {
          listed = is_listed-range 0 (length s.costs) w.place (omega arith) (omega (arith, known));
          was_left = found.was_left.1;
          priced = sym (price_from_is_price s (rests_after s (replicate s.voters share) before) w.place (cost_positive s words.is_support w.place known) (Some w.exact) found.priced);
          rounded = found.rounded;
          collected = found.collected;
          cheapest = λ other price listed apart earlier priced. found.cheapest other price (known_place s other listed, earlier) apart
              (is_price_from_at s (rests_after s (replicate s.voters share) before) other (cost_positive s words.is_support other (known_place s other listed)) (Some price) (sym priced));
        };
    rests_are = words.rests_are;
    none_left = λ place listed others.
        no_price_at_from_short s run.rests place (words.none_left place (known_place s place listed, others));
  }

  -- and of no other
  pub only_run : (run : RunView) → IsRun m s share run.elected run.rests → run ≡ run_of m s share
  unfolding run_of
  only_run run words =
      words_are_run m s run.elected (length s.costs) (replicate s.voters share) (range_with_len 0 (length s.costs)) run.rests
      (λ place listed. (support_form s words.is_support).costs_positive place 0 (known_place s place listed))
      (let long = length-range_with_len 0 (length s.costs) in omega (arith, long))
      (words_from run words)

  -- the law
  pub run_is_its_rule : IsSupport s → (run : RunView)
      → (run ≡ run_of m s share → IsRun m s share run.elected run.rests) × (IsRun m s share run.elected run.rests → run ≡ run_of m s share)
  run_is_its_rule h run = ((λ same. subst (λ (r : RunView). IsRun m s share r.elected r.rests) (sym same) (words_of_run h)), only_run run)
