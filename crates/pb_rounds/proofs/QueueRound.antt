-- A round over the queue elects the best of all projects left, makes one entry of a pricing record, and leaves a queue.
use Rattle.std.proofs.Common.{◌≡◌, ◌≢◌, ℕ, ◌+◌, ◌*◌, ◌<◌, ◌≤◌, List, [], ◌∷◌, ◌++◌, length, Option, Some, None, true, false, not, refl, sym, subst, ◌∙◌, ap, inl, inr, arith}
use Rattle.std.specs.Prelude.{◌⊎◌, max, nat_eq}
use Rattle.std.specs.List.{IsDistinct}
use Rattle.std.specs.Option.{option_map_or}
use Rattle.std.specs.Cmp.{upto}
use Rattle.std.specs.Ordering.{is_gt, is_lt, ordering_reverse, ordering_then}
use Rattle.std.specs.declared.cmp.Ordering.{Ordering}
use Rattle.std.specs.declared.cmp.Ordering.TheVariants.{Less, Equal, Greater}
use Rattle.std.proofs.lemmas.Bool.{true≢false, cases_Bool, cases_eq, cond-true, cond-false, false_from_ne_true, not_from_false}
use Rattle.std.proofs.lemmas.List.{append-nil, append_assoc, map-append}
use Rattle.std.proofs.lemmas.Option.{none-some, same_Some}
use Rattle.std.proofs.Math.Nat.{mul-lt-mul_of_pos_right, mul-pos}
use Rattle.pb_price.proofs.Prices.{at_most_trans, none_stays, prices_rise, some_amount_at}
use Rattle.pb_price.proofs.SupporterLists.{parts_positive}
use Rattle.pb_price.specs.Inner.Payment.{nothing}
use Rattle.pb_price.specs.Price.{AtMost, PriceView, due, price_at}
use Rattle.pb_price.specs.Inner.Lists.{NoRestRises}
use Rattle.pb_price.specs.Supporters.{SupportView, cost_at, supporters_at}
use Rattle.pb_rounds.specs.declared.measure.Measure.{Measure}
use Rattle.pb_rounds.specs.Inner.KeyOrder.{divisor_positive, greater_from, key_cmp-total}
use Rattle.pb_rounds.specs.Inner.KeyRecord.{AreInTime, AreSomeOf, IsKeyEnd, IsKeyRound, is_in_time, known_after}
use Rattle.pb_rounds.specs.Inner.Queue.{IsDone, IsIn, IsTaken, PricesHeads, PutsBack, Rises, places_of}
use Rattle.pb_rounds.specs.Key.{KeyView, divisor, first_least, is_before, key_cmp}
use Rattle.pb_rounds.specs.Inner.Listed.{is_listed}
use Rattle.pb_rounds.specs.Run.{best_of, charged, key_of, keys_at, weight_of, without}
use Rattle.pb_rounds.proofs.BestKey.{IsKey, best_is_key, key_from, key_in, no_price_without_best}
use Rattle.pb_rounds.proofs.BestIs.{is_best, no_best, none_before_best}
use Rattle.pb_rounds.proofs.Charged.{charged_at}
use Rattle.pb_rounds.proofs.Listed.{is_listed-without, is_listed-without_same, listed_from_without}
use Rattle.pb_rounds.proofs.QueueLists.{HasKey, before_chain, distinct_places, distinct_prefix, in_either, in_from_listed, in_left, in_right, listed_from_in, no_more_than_left, not_before_itself, rises_across, rises_prefix, rises_suffix}
use Rattle.pb_rounds.proofs.QueueSteps.{length_places}

-- the order of keys, as at most
lt_reversed : (o : Ordering) → is_lt (ordering_reverse o) ≡ is_gt o
lt_reversed Less = refl
lt_reversed Equal = refl
lt_reversed Greater = refl

turned : (a b : KeyView) → is_before b a ≡ is_gt (key_cmp a b)
turned a b = ap is_lt (key_cmp-total.antisymm b a) ∙ lt_reversed (key_cmp a b)

-- a is at most b, b is at most c
pub at_most_chain : (a b c : KeyView) → is_before b a ≡ false → is_before c b ≡ false → is_before c a ≡ false
at_most_chain a b c first second =
    turned a c ∙ upto key_cmp-total a b c (sym (turned a b) ∙ first) (sym (turned b c) ∙ second)

not_gt_from_lt : (o : Ordering) → is_lt o ≡ true → is_gt o ≡ false
not_gt_from_lt Less e = refl
not_gt_from_lt Equal e = refl
not_gt_from_lt Greater e = absurd (true≢false (sym e))

-- what comes before is at most
pub at_most_from_before : (a b : KeyView) → is_before a b ≡ true → is_before b a ≡ false
at_most_from_before a b e = turned a b ∙ not_gt_from_lt (key_cmp a b) e

first_greater : (o p : Ordering) → o ≡ Greater → is_lt (ordering_then o p) ≡ false
first_greater o p e = ap (λ r. is_lt (ordering_then r p)) e

-- a project's key at a smaller price is at most its key at a larger one
pub at_most_by_price : (m : Measure) (s : SupportView) (place : ℕ) (p q : PriceView) → AtMost q p → is_before (key_of m s place p) (key_of m s place q) ≡ false
at_most_by_price m s place p q (inr same) =
    ap (λ n. is_before (key_of m s place p) (key_of m s place n)) same ∙ not_before_itself (key_of m s place p)
at_most_by_price m s place p q (inl less) =
    let scaled = mul-lt-mul_of_pos_right {k = max 1 (weight_of m s place)} less (omega arith) in
    first_greater _ _
    (greater_from (p.amount * divisor (key_of m s place q)) (q.amount * divisor (key_of m s place p)) (omega (arith, scaled)))

-- the key of a project at a price of nothing is at most any key at one above
at_most_at_zero : (m : Measure) (s : SupportView) (place other : ℕ) (p : PriceView) → 0 < p.amount → is_before (key_of m s other p) (key_of m s place nothing) ≡ false
at_most_at_zero m s place other p h =
    first_greater _ _
    (greater_from (p.amount * divisor (key_of m s place nothing)) (0 * divisor (key_of m s other p))
    (let some = mul-pos h (divisor_positive (key_of m s place nothing)) in omega (arith, some)))

pub best_of_is : (m : Measure) (s : SupportView) (rests left : List ℕ) → best_of m s rests left ≡ first_least is_before (keys_at m s rests left)
unfolding best_of
best_of_is m s rests left = refl

-- known prices are lower bounds of the prices at these rests, and what is known to have none has none
pub record IsLower (s : SupportView) (rests left : List ℕ) (known : ℕ → Option PriceView) : Type 0 where
  pub rises : (place : ℕ) (q p : PriceView) → is_listed left place ≡ true → known place ≡ Some q → price_at s rests place ≡ Some p → AtMost q p
  pub none : (place : ℕ) → is_listed left place ≡ true → known place ≡ None → price_at s rests place ≡ None

-- the queue has a key for each project left that is known to have a price, and no others
pub record IsQueue (m : Measure) (s : SupportView) (left : List ℕ) (known : ℕ → Option PriceView) (queue : List KeyView) : Type 0 where
  pub are_left : (b : KeyView) → IsIn b queue → is_listed left b.place ≡ true
  pub are_known : (b : KeyView) → IsIn b queue → known b.place ≡ Some b.price
  pub are_keys : (b : KeyView) → IsIn b queue → b ≡ key_of m s b.place b.price
  pub whole : (place : ℕ) (price : PriceView) → is_listed left place ≡ true → known place ≡ Some price → IsIn (key_of m s place price) queue
  pub rises : Rises queue

pub one_a_place : (m : Measure) (s : SupportView) (left : List ℕ) (known : ℕ → Option PriceView) (queue : List KeyView) → IsQueue m s left known queue
    → (b c : KeyView) → IsIn b queue → IsIn c queue → b.place ≡ c.place → b ≡ c
one_a_place m s left known queue q b c i j same =
    let price : b.price ≡ c.price = same_Some _ _ (sym (q.are_known b i) ∙ ap known same ∙ q.are_known c j) in
    q.are_keys b i ∙ ap (λ n. key_of m s n b.price) same ∙ ap (key_of m s c.place) price ∙ sym (q.are_keys c j)

pub queue_distinct : (m : Measure) (s : SupportView) (left : List ℕ) (known : ℕ → Option PriceView) (queue : List KeyView) → IsQueue m s left known queue
    → IsDistinct nat_eq (places_of queue)
queue_distinct m s left known queue q = distinct_places queue q.rises (one_a_place m s left known queue q)

pub queue_few : (m : Measure) (s : SupportView) (left : List ℕ) (known : ℕ → Option PriceView) (queue : List KeyView) → IsQueue m s left known queue
    → length queue ≤ length left
queue_few m s left known queue q =
    let few = no_more_than_left (places_of queue) left (queue_distinct m s left known queue q) (λ n listed.
    let found = in_from_listed queue n listed in
    ap (is_listed left) (sym found.place_is) ∙ q.are_left found.found found.here) in
    omega (arith, few, length_places queue)

none_priced : (b : KeyView) (early batch : List KeyView) → early ≡ [] → batch ≡ [] → IsIn b (early ++ batch) → ⊥
none_priced b [] [] e f i = i
none_priced b (x ∷ early) batch e f i = cc
none_priced b [] (x ∷ batch) e f i = cc

head_first : (head : KeyView) (others : List KeyView) (k : KeyView) → Rises (head ∷ others) → IsIn k (head ∷ others) → is_before k head ≡ false
head_first head others k (first, later) (inl same) = ap (λ b. is_before b head) same ∙ not_before_itself head
head_first head others k (first, later) (inr i) = at_most_from_before head k (first k i)

-- what is left of the queue comes after the best
after_best : (w : KeyView) (rest : List KeyView) → IsDone (Some w) rest → Rises rest → (b : KeyView) → IsIn b rest → is_before w b ≡ true
after_best w [] done rises b i = absurd i
after_best w (head ∷ rest) done (first, later) b (inl same) = ap (is_before w) same ∙ done
after_best w (head ∷ rest) done (first, later) b (inr i) = before_chain w head b done (first b i)

nothing_left : (rest : List KeyView) → IsDone None rest → (b : KeyView) → IsIn b rest → ⊥
nothing_left [] done b i = i
nothing_left (head ∷ rest) done b i = done

module _ (m : Measure) (s : SupportView) (rests left : List ℕ) (known : ℕ → Option PriceView) (lower : IsLower s rests left known)
    (queue : List KeyView) (q : IsQueue m s left known queue) (most : ℕ) (rest : List KeyView) (places : List ℕ) (fresh : List KeyView) (best : Option KeyView)
    (h : PricesHeads m s rests most queue rest places fresh best) (done : IsDone best rest) where
  from_queue : (b : KeyView) → IsIn b (h.early ++ h.batch) → IsIn b queue
  from_queue b i = subst (IsIn b) (sym h.cut) (in_left b (h.early ++ h.batch) rest i)

  rest_of_queue : (b : KeyView) → IsIn b rest → IsIn b queue
  rest_of_queue b i = subst (IsIn b) (sym h.cut) (in_right b (h.early ++ h.batch) rest i)

  all_rise : Rises ((h.early ++ h.batch) ++ rest)
  all_rise = subst Rises h.cut q.rises

  priced_key : (place : ℕ) → is_listed places place ≡ true → HasKey (h.early ++ h.batch) place
  priced_key place listed = in_from_listed (h.early ++ h.batch) place (subst (λ (xs : List ℕ). is_listed xs place ≡ true) h.placed listed)

  pub priced_left : (place : ℕ) → is_listed places place ≡ true → is_listed left place ≡ true
  priced_left place listed =
      let found = priced_key place listed in
      ap (is_listed left) (sym found.place_is) ∙ q.are_left found.found (from_queue found.found found.here)

  best_priced : best ≡ best_of m s rests places
  best_priced = h.best_is ∙ ap (first_least is_before) h.fresh_are ∙ sym (best_of_is m s rests places)

  pub are_priced : AreSomeOf left places
  are_priced = record {
    among = priced_left;
    once = subst (IsDistinct nat_eq) (sym h.placed)
        (distinct_prefix (places_of (h.early ++ h.batch)) (places_of rest)
        (subst (IsDistinct nat_eq) (ap places_of h.cut ∙ map-append (λ (b : KeyView). b.place) (h.early ++ h.batch) rest)
        (queue_distinct m s left known queue q)));
  }

  -- what was not priced and is known to have a price is still in the queue
  still_queued : (place : ℕ) (price : PriceView) → is_listed left place ≡ true → known place ≡ Some price → is_listed places place ≡ false → IsIn (key_of m s place price) rest
  still_queued place price listed known_is other =
      elim (in_either (key_of m s place price) (h.early ++ h.batch) rest (subst (IsIn (key_of m s place price)) h.cut (q.whole place price listed known_is))) [
        | inl priced ↦ absurd (true≢false (sym (subst (λ (xs : List ℕ). is_listed xs place ≡ true) (sym h.placed) (listed_from_in (key_of m s place price) (h.early ++ h.batch) priced)) ∙ other))
        | inr queued ↦ queued
      ]

  -- the rest of the queue was not priced
  rest_not_priced : (b : KeyView) → IsIn b rest → is_listed places b.place ≡ false
  rest_not_priced b i = false_from_ne_true _ (λ listed.
      let found = priced_key b.place listed in
      let same = one_a_place m s left known queue q found.found b (from_queue found.found found.here) (rest_of_queue b i) found.place_is in
      let before = rises_across (h.early ++ h.batch) rest all_rise found.found b found.here i in
      true≢false (sym before ∙ ap (λ c. is_before c b) same ∙ not_before_itself b))

  -- a price that is known after the round
  known_priced : (place : ℕ) → is_listed places place ≡ true → known_after s rests places known place ≡ price_at s rests place
  known_priced place listed = cond-true _ _ _ listed

  known_other : (place : ℕ) → is_listed places place ≡ false → known_after s rests places known place ≡ known place
  known_other place other = cond-false _ _ _ other

  -- the round that elects nobody
  module _ (none : best ≡ None) where
    none_best : best_of m s rests places ≡ None
    none_best = sym best_priced ∙ none

    nothing_queued : (b : KeyView) → IsIn b rest → ⊥
    nothing_queued = nothing_left rest (subst (λ (o : Option KeyView). IsDone o rest) none done)

    known_none_by : (place : ℕ) → is_listed left place ≡ true → is_listed places place ≡ false → (o : Option PriceView) → known place ≡ o → o ≡ None
    known_none_by place listed other None e = refl
    known_none_by place listed other (Some p) e = absurd (nothing_queued (key_of m s place p) (still_queued place p listed e other))

    pub all_known_none : (place : ℕ) → is_listed left place ≡ true → known_after s rests places known place ≡ None
    all_known_none place listed = elim (cases_Bool (is_listed places place)) [
      | inl priced ↦ known_priced place priced ∙ no_price_without_best m s rests places none_best place priced
      | inr other ↦ known_other place other ∙ known_none_by place listed other (known place) refl
    ]

    no_price_left : (place : ℕ) → is_listed left place ≡ true → price_at s rests place ≡ None
    no_price_left place listed = elim (cases_Bool (is_listed places place)) [
      | inl priced ↦ no_price_without_best m s rests places none_best place priced
      | inr other ↦ lower.none place listed (known_none_by place listed other (known place) refl)
    ]

    pub round_without_best : best_of m s rests left ≡ None
    round_without_best = no_best m s rests left no_price_left

    pub priced_end : IsKeyEnd s rests left known places
    priced_end = record {
      are_priced = are_priced;
      all_none = all_known_none;
    }

  -- the round that elects w
  module _ (w : KeyView) (some : best ≡ Some w) where
    w_best : best_of m s rests places ≡ Some w
    w_best = sym best_priced ∙ some

    rest_after : (b : KeyView) → IsIn b rest → is_before w b ≡ true
    rest_after = after_best w rest (subst (λ (o : Option KeyView). IsDone o rest) some done) (rises_suffix (h.early ++ h.batch) rest all_rise)

    pub winner_priced : is_listed places w.place ≡ true
    winner_priced = (best_is_key m s rests places w w_best).is_left

    w_price : price_at s rests w.place ≡ Some w.price
    w_price = (best_is_key m s rests places w w_best).is_price

    w_is : w ≡ key_of m s w.place w.price
    w_is = (best_is_key m s rests places w w_best).is_key

    -- no known price comes before the winner's
    pub none_known_before : (place : ℕ) (price : PriceView) → is_listed left place ≡ true → known_after s rests places known place ≡ Some price
        → is_before (key_of m s place price) w ≡ false
    none_known_before place price listed e = elim (cases_Bool (is_listed places place)) [
      | inl priced ↦ none_before_best m s rests places w w_best place price priced (sym (known_priced place priced) ∙ e)
      | inr other ↦ at_most_from_before w (key_of m s place price) (rest_after (key_of m s place price) (still_queued place price listed (sym (known_other place other) ∙ e) other))
    ]

    least_of_left : (other : ℕ) (p : PriceView) → is_listed left other ≡ true → price_at s rests other ≡ Some p → (o : Option PriceView) → known other ≡ o
        → is_listed places other ≡ false → is_before (key_of m s other p) w ≡ false
    least_of_left other p listed priced None e out = absurd (none-some p (sym (lower.none other listed e) ∙ priced))
    least_of_left other p listed priced (Some k) e out =
        at_most_chain w (key_of m s other k) (key_of m s other p)
        (at_most_from_before w (key_of m s other k) (rest_after (key_of m s other k) (still_queued other k listed e out)))
        (at_most_by_price m s other p k (lower.rises other k p listed e priced))

    -- the winner is the best of all that are left
    pub round_with_best : best_of m s rests left ≡ Some w
    round_with_best =
        is_best m s rests left w.place w.price (priced_left w.place winner_priced) w_price
        (λ other p listed priced. ap (is_before (key_of m s other p)) (sym w_is) ∙ elim (cases_Bool (is_listed places other)) [
          | inl here ↦ none_before_best m s rests places w w_best other p here priced
          | inr out ↦ least_of_left other p listed priced (known other) refl out
        ])
        ∙ ap (λ b. Some b) (sym w_is)

    in_time_from : (b : KeyView) → IsIn b queue → is_before w b ≡ false → is_in_time m s w known b.place ≡ true
    in_time_from b i at_most =
        ap (λ o. option_map_or (λ price. not (is_before w (key_of m s b.place price))) o false) (q.are_known b i) ∙ not_from_false _ (ap (is_before w) (sym (q.are_keys b i)) ∙ at_most)

    batch_rises : Rises h.batch
    batch_rises = rises_suffix h.early h.batch (rises_prefix (h.early ++ h.batch) rest all_rise)

    -- the head with which the last batch began is at most the winner
    head_by_early : (head : KeyView) → (o : Option KeyView) → best_of m s rests (places_of h.early) ≡ o → IsTaken o head
        → is_listed (places_of h.early) w.place ≡ true → is_before w head ≡ false
    head_by_early head None e taken listed =
        absurd (none-some w.price (sym (no_price_without_best m s rests (places_of h.early) e w.place listed) ∙ w_price))
    head_by_early head (Some c) e taken listed =
        at_most_chain head c w taken
        (ap (λ b. is_before b c) w_is ∙ none_before_best m s rests (places_of h.early) c e w.place w.price listed w_price)

    head_by_batch : (head : KeyView) (others : List KeyView) → h.batch ≡ head ∷ others → HasKey h.batch w.place → is_before w head ≡ false
    head_by_batch head others batch_is found =
        let here = in_right found.found h.early h.batch found.here in
        let k = found.found in
        let lower_price : AtMost k.price w.price =
        lower.rises w.place k.price w.price (priced_left w.place winner_priced) (ap known (sym found.place_is) ∙ q.are_known k (from_queue k here)) w_price in
        let k_is : k ≡ key_of m s w.place k.price = q.are_keys k (from_queue k here) ∙ ap (λ n. key_of m s n k.price) found.place_is in
        let own : is_before w k ≡ false =
        ap (λ b. is_before b k) w_is ∙ ap (is_before (key_of m s w.place w.price)) k_is ∙ at_most_by_price m s w.place w.price k.price lower_price in
        at_most_chain head k w (head_first head others k (subst Rises batch_is batch_rises) (subst (IsIn k) batch_is found.here)) own

    head_by : (head : KeyView) (others : List KeyView) → h.batch ≡ head ∷ others → (found : HasKey (h.early ++ h.batch) w.place)
        → IsIn found.found h.early ⊎ IsIn found.found h.batch → is_before w head ≡ false
    head_by head others e found (inl i) =
        head_by_early head (first_least is_before (keys_at m s rests (places_of h.early))) (best_of_is m s rests (places_of h.early)) (h.taken head others e)
        (subst (λ n. is_listed (places_of h.early) n ≡ true) found.place_is (listed_from_in found.found h.early i))
    head_by head others e found (inr i) =
        head_by_batch head others e (record { found = found.found; here = i; place_is = found.place_is })

    head_at_most : (head : KeyView) (others : List KeyView) → h.batch ≡ head ∷ others → is_before w head ≡ false
    head_at_most head others e =
        let found = priced_key w.place winner_priced in
        head_by head others e found (in_either found.found h.early h.batch found.here)

    -- those priced up to the head of the last batch were in time
    module _ (head : KeyView) (others : List KeyView) (batch_is : h.batch ≡ head ∷ others) where
      cut_there : queue ≡ (h.early ++ head ∷ []) ++ (others ++ rest)
      cut_there = h.cut ∙ ap (λ b. (h.early ++ b) ++ rest) batch_is ∙ ap (λ b. b ++ rest) (sym (append_assoc h.early (head ∷ []) others))
          ∙ append_assoc (h.early ++ head ∷ []) others rest

      there_in_queue : (b : KeyView) → IsIn b (h.early ++ head ∷ []) → IsIn b queue
      there_in_queue b i = subst (IsIn b) (sym cut_there) (in_left b (h.early ++ head ∷ []) (others ++ rest) i)

      there_at_most : (b : KeyView) → IsIn b (h.early ++ head ∷ []) → is_before w b ≡ false
      there_at_most b i = elim (in_either b h.early (head ∷ []) i) [
        | inl before ↦ at_most_chain b head w
            (at_most_from_before b head (rises_across h.early h.batch (rises_prefix (h.early ++ h.batch) rest all_rise) b head before (subst (IsIn head) (sym batch_is) (inl refl))))
            (head_at_most head others batch_is)
        | inr last ↦ elim last [
          | inl same ↦ ap (is_before w) same ∙ head_at_most head others batch_is
          | inr none ↦ absurd none
        ]
      ]

      there_in_time : (workers : ℕ) → most ≤ workers → AreInTime m s workers known w places
      there_in_time workers within = record {
        needed = places_of (h.early ++ head ∷ []);
        spare = places_of others;
        parts = h.placed ∙ ap (λ b. places_of (h.early ++ b)) batch_is ∙ ap places_of (sym (append_assoc h.early (head ∷ []) others))
            ∙ map-append (λ (b : KeyView). b.place) (h.early ++ head ∷ []) others;
        few = (let batch_length : length h.batch ≡ length others + 1 = ap length batch_is ∙ omega arith in
            let few = h.few in omega (arith, length_places others, batch_length, few, within));
        in_time = λ n listed. let found = in_from_listed (h.early ++ head ∷ []) n listed in
            ap (is_in_time m s w known) (sym found.place_is) ∙ in_time_from found.found (there_in_queue found.found found.here) (there_at_most found.found found.here);
      }

    in_time_by : (workers : ℕ) → most ≤ workers → (batch : List KeyView) → h.batch ≡ batch → AreInTime m s workers known w places
    in_time_by workers within [] e =
        let found = priced_key w.place winner_priced in
        absurd (none_priced found.found h.early h.batch (h.begun e) e found.here)
    in_time_by workers within (head ∷ others) e = there_in_time head others e workers within

    price_positive : 0 < cost_at s w.place → 0 < w.price.amount
    price_positive positive = some_amount_at s rests w.place (parts_positive s.grain s.voters (cost_at s w.place) positive) w.price w_price

    in_time_at_first : (workers : ℕ) → 0 < cost_at s w.place → ((place : ℕ) → known place ≡ Some nothing) → AreInTime m s workers known w places
    in_time_at_first workers positive first = record {
      needed = places;
      spare = [];
      parts = sym (append-nil places);
      few = omega arith;
      in_time = λ n listed.
          ap (λ o. option_map_or (λ price. not (is_before w (key_of m s n price))) o false) (first n)
          ∙ not_from_false _ (ap (λ b. is_before b (key_of m s n nothing)) w_is ∙ at_most_at_zero m s n w.place w.price (price_positive positive));
    }

    in_time_either : (workers : ℕ) → 0 < cost_at s w.place → (most ≤ workers) ⊎ ((place : ℕ) → known place ≡ Some nothing)
        → AreInTime m s workers known w places
    in_time_either workers positive (inl within) = in_time_by workers within h.batch refl
    in_time_either workers positive (inr first) = in_time_at_first workers positive first

    pub priced_round : (workers : ℕ) → 0 < cost_at s w.place → (most ≤ workers) ⊎ ((place : ℕ) → known place ≡ Some nothing)
        → IsKeyRound m s workers rests left known w places
    priced_round workers positive either = record {
      are_priced = are_priced;
      has_winner = winner_priced;
      none_before = none_known_before;
      were_in_time = in_time_either workers positive either;
    }

    not_winner : (place : ℕ) → is_listed places place ≡ false → place ≢ w.place
    not_winner place other same = true≢false (sym (ap (is_listed places) same ∙ winner_priced) ∙ other)

    left_and_other : (place : ℕ) → is_listed (without w.place left) place ≡ true → place ≢ w.place
    left_and_other place listed same =
        true≢false (sym listed ∙ ap (is_listed (without w.place left)) same ∙ is_listed-without_same left w.place)

    fresh_key : (b : KeyView) → IsIn b fresh → IsKey m s rests places b
    fresh_key b i = key_from m s rests places b (subst (IsIn b) h.fresh_are i)

    -- the queue of the next round
    pub next_queue : (all : List KeyView) → PutsBack w.place fresh rest all → IsQueue m s (without w.place left) (known_after s rests places known) all
    next_queue all back = record {
      are_left = λ b i. elim (back.from b i) [
        | inl old ↦ is_listed-without left w.place b.place (not_winner b.place (rest_not_priced b old)) ∙ q.are_left b (rest_of_queue b old)
        | inr new ↦ is_listed-without left w.place b.place new.1 ∙ priced_left b.place (fresh_key b new.0).is_left
      ];
      are_known = λ b i. elim (back.from b i) [
        | inl old ↦ known_other b.place (rest_not_priced b old) ∙ q.are_known b (rest_of_queue b old)
        | inr new ↦ known_priced b.place (fresh_key b new.0).is_left ∙ (fresh_key b new.0).is_price
      ];
      are_keys = λ b i. elim (back.from b i) [
        | inl old ↦ q.are_keys b (rest_of_queue b old)
        | inr new ↦ (fresh_key b new.0).is_key
      ];
      whole = λ place price listed known_is. elim (cases_Bool (is_listed places place)) [
        | inl priced ↦ back.put (key_of m s place price)
            (subst (IsIn (key_of m s place price)) (sym h.fresh_are) (key_in m s rests place price places priced (sym (known_priced place priced) ∙ known_is)))
            (left_and_other place listed)
        | inr other ↦ back.kept (key_of m s place price)
            (still_queued place price (listed_from_without left w.place place listed) (sym (known_other place other) ∙ known_is) other)
      ];
      rises = back.rises;
    }

    no_rest_rises : NoRestRises rests (charged (supporters_at s w.place) (due w.price) rests)
    no_rest_rises v = omega (arith, charged_at (supporters_at s w.place) (due w.price) rests v)

    still_lower : (place : ℕ) (k p : PriceView) → is_listed left place ≡ true → known place ≡ Some k → (o : Option PriceView) → price_at s rests place ≡ o
        → price_at s (charged (supporters_at s w.place) (due w.price) rests) place ≡ Some p → AtMost k p
    still_lower place k p listed known_is None e priced =
        absurd (none-some p (sym (none_stays s rests (charged (supporters_at s w.place) (due w.price) rests) place no_rest_rises e) ∙ priced))
    still_lower place k p listed known_is (Some r) e priced =
        let one = lower.rises place k r listed known_is e in
        at_most_trans k r p one (prices_rise s rests (charged (supporters_at s w.place) (due w.price) rests) place no_rest_rises r p e priced)

    -- its known prices are lower bounds again
    pub next_lower : IsLower s (charged (supporters_at s w.place) (due w.price) rests) (without w.place left) (known_after s rests places known)
    next_lower = record {
      rises = λ place k p listed known_is priced. elim (cases_Bool (is_listed places place)) [
        | inl here ↦ prices_rise s rests (charged (supporters_at s w.place) (due w.price) rests) place no_rest_rises k p
            (sym (known_priced place here) ∙ known_is) priced
        | inr other ↦ still_lower place k p (listed_from_without left w.place place listed) (sym (known_other place other) ∙ known_is) (price_at s rests place) refl priced
      ];
      none = λ place listed known_is. elim (cases_Bool (is_listed places place)) [
        | inl here ↦ none_stays s rests (charged (supporters_at s w.place) (due w.price) rests) place no_rest_rises
            (sym (known_priced place here) ∙ known_is)
        | inr other ↦ none_stays s rests (charged (supporters_at s w.place) (due w.price) rests) place no_rest_rises
            (lower.none place (listed_from_without left w.place place listed) (sym (known_other place other) ∙ known_is))
      ];
    }
