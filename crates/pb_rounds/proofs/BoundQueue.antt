-- The queue of a trial: what its head says, and what it is after the head was taken out or put back with a higher bound.
use Rattle.std.proofs.Common.{◌≡◌, ◌≢◌, ℕ, ◌+◌, ◌-◌, ◌<◌, ◌≤◌, ◌^◌, List, [], ◌∷◌, length, replicate, Option, Some, None, true, false, refl, sym, subst, ◌∙◌, ap, inl, inr, arith}
use Rattle.std.specs.Prelude.{◌⊎◌, All, sum_by}
use Rattle.std.specs.List.{range_with_len}
use Rattle.std.specs.List.Sorted.{IsStrictlySortedBy}
use Rattle.std.specs.BTreeSet.{insert_key}
use Rattle.std.specs.Ordering.{match_ordering}
use Rattle.std.specs.declared.cmp.Ordering.{Ordering}
use Rattle.std.specs.declared.cmp.Ordering.TheVariants.{Less, Equal, Greater}
use Rattle.std.proofs.lemmas.Bool.{true≢false, cases_Bool, cases_eq}
use Rattle.std.proofs.lemmas.List.{length-replicate}
use Rattle.std.proofs.lemmas.List.Elements.{All-replicate}
use Rattle.std.proofs.lemmas.List.Sums.{sum_by-cons}
use Rattle.std.proofs.lemmas.Option.{none-some, same_Some}
use Rattle.pb_price.specs.Price.{AreRests, AtMost, HasPayers, IsPrice, PriceView, due, largest_share, price_at}
use Rattle.pb_price.specs.Inner.Lists.{NoRestRises}
use Rattle.pb_price.specs.Supporters.{SupportView, cost_in_parts, supporters_at}
use Rattle.pb_price.proofs.Heights.{height, highest}
use Rattle.pb_price.proofs.Prices.{at_most_trans, none_stays, price_from_is_price, prices_rise}
use Rattle.pb_rounds.specs.declared.measure.Measure.{Measure}
use Rattle.pb_rounds.specs.Inner.Bounds.{FindsBest, HasBounds, IsOpening}
use Rattle.pb_rounds.specs.Inner.Queue.{IsDone, IsIn, Rises}
use Rattle.pb_rounds.specs.Key.{KeyView, is_before, key_cmp}
use Rattle.pb_rounds.specs.Inner.Listed.{is_listed}
use Rattle.pb_rounds.specs.Run.{best_of, charged, key_of, weight_of, without}
use Rattle.pb_rounds.proofs.BestKey.{best_is_key}
use Rattle.pb_rounds.proofs.BestIs.{is_best}
use Rattle.pb_rounds.proofs.Charged.{charged_at}
use Rattle.pb_rounds.proofs.Listed.{RisesWithin-below, is_listed-range, is_listed-without, is_listed-without_same, listed-below, listed_from_without, range_rises}
use Rattle.pb_rounds.proofs.QueueLists.{before_chain, not_before_itself, put_from, put_is_in, put_keeps, rises_from_sorted}
use Rattle.pb_rounds.proofs.QueueRound.{at_most_by_price, at_most_chain, at_most_from_before}

-- ---- the opening

-- one place more, without a price and with one
pub opening_skips : (m : Measure) (s : SupportView) (share n : ℕ) (queue : List KeyView) → IsOpening m s share n queue
    → price_at s (replicate s.voters share) n ≡ None → IsOpening m s share (n + 1) queue
opening_skips m s share n queue h none = record {
  known = λ b i. (let below = h.known b i in omega arith);
  priced = h.priced;
  are_keys = h.are_keys;
  payers = h.payers;
  whole = λ place p below e. elim (cases_eq place n) [
    | inl same ↦ absurd (none-some p (sym none ∙ ap (price_at s (replicate s.voters share)) (sym same) ∙ e))
    | inr other ↦ h.whole place p (omega arith) e
  ];
  rises = h.rises;
}

pub opening_puts : (m : Measure) (s : SupportView) (share n : ℕ) (queue : List KeyView) → IsOpening m s share n queue
    → (price : PriceView) → HasPayers s price → price_at s (replicate s.voters share) n ≡ Some price → (k : KeyView) → k ≡ key_of m s n price
    → (new : List KeyView) → new ≡ insert_key key_cmp queue k → IsStrictlySortedBy key_cmp new → IsOpening m s share (n + 1) new
opening_puts m s share n queue h price has some k k_is new new_is sorted =
    let at : k.place ≡ n = ap (λ (c : KeyView). c.place) k_is in
    let for : k.price ≡ price = ap (λ (c : KeyView). c.price) k_is in
    let itself : k ≡ key_of m s k.place k.price = k_is ∙ ap (λ p. key_of m s p price) (sym at) ∙ ap (key_of m s k.place) (sym for) in
    let found : price_at s (replicate s.voters share) k.place ≡ Some k.price = ap (price_at s (replicate s.voters share)) at ∙ some ∙ ap (λ p. Some p) (sym for) in
    record {
      known = λ b i. elim (put_from k b queue (subst (IsIn b) new_is i)) [
        | inl old ↦ let below = h.known b old in omega arith
        | inr same ↦ let here = ap (λ (c : KeyView). c.place) same in omega (arith, here, at)
      ];
      priced = λ b i. elim (put_from k b queue (subst (IsIn b) new_is i)) [
        | inl old ↦ h.priced b old
        | inr same ↦ subst (λ (c : KeyView). price_at s (replicate s.voters share) c.place ≡ Some c.price) (sym same) found
      ];
      are_keys = λ b i. elim (put_from k b queue (subst (IsIn b) new_is i)) [
        | inl old ↦ h.are_keys b old
        | inr same ↦ subst (λ (c : KeyView). c ≡ key_of m s c.place c.price) (sym same) itself
      ];
      payers = λ b i. elim (put_from k b queue (subst (IsIn b) new_is i)) [
        | inl old ↦ h.payers b old
        | inr same ↦ subst (HasPayers s) (sym (ap (λ (c : KeyView). c.price) same ∙ for)) has
      ];
      whole = λ place p below e. subst (IsIn (key_of m s place p)) (sym new_is) (elim (cases_eq place n) [
        | inl same ↦
            let equal : p ≡ price = same_Some _ _ (sym e ∙ ap (price_at s (replicate s.voters share)) same ∙ some) in
            subst (λ (b : KeyView). IsIn b (insert_key key_cmp queue k)) (k_is ∙ ap (λ q. key_of m s q price) (sym same) ∙ ap (key_of m s place) (sym equal)) (put_is_in k queue)
        | inr other ↦ put_keeps k (key_of m s place p) queue (h.whole place p (omega arith) e)
      ]);
      rises = rises_from_sorted new sorted;
    }

-- the rests of an opening
pub opening_rests : (s : SupportView) (share : ℕ) → share ≤ largest_share → AreRests s.voters (replicate s.voters share)
opening_rests s share small = record {
  one_each = length-replicate s.voters share;
  bounded = All-replicate (λ rest. rest ≤ largest_share) s.voters share small;
}

-- a price where each rest is the share
pub opening_price : (s : SupportView) (share place : ℕ) → 0 < cost_in_parts s place → (answer : Option PriceView) → share ≤ largest_share
    → ((rests : List ℕ) → AreRests s.voters rests → All (λ rest. rest ≡ share) rests → IsPrice s rests place answer)
    → price_at s (replicate s.voters share) place ≡ answer
opening_price s share place some answer small says =
    sym (price_from_is_price s (replicate s.voters share) place some answer
    (says (replicate s.voters share) (opening_rests s share small) (All-replicate (λ rest. rest ≡ share) s.voters share refl)))

-- all places have their bounds
pub opening_bounds : (m : Measure) (s : SupportView) (share : ℕ) (queue : List KeyView) → IsOpening m s share (length s.costs) queue
    → HasBounds m s (replicate s.voters share) (range_with_len 0 (length s.costs)) queue
opening_bounds m s share queue h = record {
  known = λ place listed. listed-below (range_with_len 0 (length s.costs)) (length s.costs) place
      (RisesWithin-below _ 0 (length s.costs) (range_rises 0 (length s.costs) (length s.costs) (omega arith))) listed;
  are_left = λ b i. is_listed-range 0 (length s.costs) b.place (omega arith) (let below = h.known b i in omega (arith, below));
  are_keys = h.are_keys;
  payers = h.payers;
  lower = λ b p i e. inr (same_Some _ _ (sym (h.priced b i) ∙ e));
  one_each = λ b c i j same.
      let prices : b.price ≡ c.price = same_Some _ _ (sym (h.priced b i) ∙ ap (price_at s (replicate s.voters share)) same ∙ h.priced c j) in
      h.are_keys b i ∙ ap (λ n. key_of m s n b.price) same ∙ ap (key_of m s c.place) prices ∙ sym (h.are_keys c j);
  whole = λ place p listed e. (
    key_of m s place p,
    h.whole place p (listed-below (range_with_len 0 (length s.costs)) (length s.costs) place
        (RisesWithin-below _ 0 (length s.costs) (range_rises 0 (length s.costs) (length s.costs) (omega arith))) listed) e,
    refl,
  );
  rises = h.rises;
}

-- ---- the head

module _ (m : Measure) (s : SupportView) (rests left : List ℕ) (head : KeyView) (rest : List KeyView) (h : HasBounds m s rests left (head ∷ rest)) where
  pub head_known : head.place < length s.costs
  head_known = h.known head.place (h.are_left head (inl refl))

  pub head_lower : (p : PriceView) → price_at s rests head.place ≡ Some p → AtMost head.price p
  head_lower p e = h.lower head p (inl refl) e

  -- nothing else in the queue is the head's project
  not_again : (b : KeyView) → IsIn b rest → b.place ≢ head.place
  not_again b i same =
      true≢false (sym (h.rises.0 b i) ∙ ap (is_before head) (h.one_each b head (inr i) (inl refl) same) ∙ not_before_itself head)

  in_rest : (b : KeyView) → IsIn b (head ∷ rest) → b.place ≢ head.place → IsIn b rest
  in_rest b (inl same) other = absurd (other (ap (λ (c : KeyView). c.place) same))
  in_rest b (inr i) other = i

  -- without a price it is left out
  pub head_without_price : price_at s rests head.place ≡ None → HasBounds m s rests left rest
  head_without_price none = record {
    known = h.known;
    are_left = λ b i. h.are_left b (inr i);
    are_keys = λ b i. h.are_keys b (inr i);
    payers = λ b i. h.payers b (inr i);
    lower = λ b p i e. h.lower b p (inr i) e;
    one_each = λ b c i j same. h.one_each b c (inr i) (inr j) same;
    whole = λ place p listed e.
        let found = h.whole place p listed e in (
          found.0,
          in_rest found.0 found.1
              (λ same. none-some p (sym none ∙ ap (price_at s rests) (sym same ∙ found.2) ∙ e)),
          found.2,
        );
    rises = h.rises.1;
  }

  -- it goes back with a higher bound
  pub head_payers : HasPayers s head.price
  head_payers = h.payers head (inl refl)

  pub head_goes_back : (bound : PriceView) → HasPayers s bound → ((p : PriceView) → price_at s rests head.place ≡ Some p → AtMost bound p)
      → (k : KeyView) → k ≡ key_of m s head.place bound → (new : List KeyView) → new ≡ insert_key key_cmp rest k → IsStrictlySortedBy key_cmp new
      → HasBounds m s rests left new
  head_goes_back bound has lower k k_is new new_is sorted =
      let at : k.place ≡ head.place = ap (λ (c : KeyView). c.place) k_is in
      let for : k.price ≡ bound = ap (λ (c : KeyView). c.price) k_is in
      let from : (b : KeyView) → IsIn b new → ◌⊎◌ (IsIn b rest) (b ≡ k) = λ b i. put_from k b rest (subst (IsIn b) new_is i) in
      record {
        known = h.known;
        are_left = λ b i. elim (from b i) [
          | inl old ↦ h.are_left b (inr old)
          | inr same ↦ ap (is_listed left) (ap (λ (c : KeyView). c.place) same ∙ at) ∙ h.are_left head (inl refl)
        ];
        are_keys = λ b i. elim (from b i) [
          | inl old ↦ h.are_keys b (inr old)
          | inr same ↦ subst (λ (c : KeyView). c ≡ key_of m s c.place c.price) (sym same)
              (k_is ∙ ap (λ p. key_of m s p bound) (sym at) ∙ ap (key_of m s k.place) (sym for))
        ];
        payers = λ b i. elim (from b i) [
          | inl old ↦ h.payers b (inr old)
          | inr same ↦ subst (HasPayers s) (sym (ap (λ (c : KeyView). c.price) same ∙ for)) has
        ];
        lower = λ b p i e. elim (from b i) [
          | inl old ↦ h.lower b p (inr old) e
          | inr same ↦
              let here = lower p (ap (price_at s rests) (sym (ap (λ (c : KeyView). c.place) same ∙ at)) ∙ e) in
              let price : b.price ≡ bound = ap (λ (c : KeyView). c.price) same ∙ for in
              subst (λ (q : PriceView). AtMost q p) (sym price) here
        ];
        one_each = λ b c i j same. elim (from b i) [
          | inl one ↦ elim (from c j) [
            | inl other ↦ h.one_each b c (inr one) (inr other) same
            | inr new_one ↦ absurd (not_again b one (same ∙ ap (λ (d : KeyView). d.place) new_one ∙ at))
          ]
          | inr one ↦ elim (from c j) [
            | inl other ↦ absurd (not_again c other (sym same ∙ ap (λ (d : KeyView). d.place) one ∙ at))
            | inr new_one ↦ one ∙ sym new_one
          ]
        ];
        whole = λ place p listed e.
            let found = h.whole place p listed e in
            elim (cases_eq place head.place) [
              | inl here ↦ (k, subst (IsIn k) (sym new_is) (put_is_in k rest), at ∙ sym here)
              | inr other ↦ (
                found.0,
                subst (IsIn found.0) (sym new_is) (put_keeps k found.0 rest (in_rest found.0 found.1 (λ same. other (sym found.2 ∙ same)))),
                found.2,
              )
            ];
        rises = rises_from_sorted new sorted;
      }

  -- at its price it is the best
  pub head_is_best : price_at s rests head.place ≡ Some head.price → best_of m s rests left ≡ Some head
  head_is_best priced =
      let own = h.are_keys head (inl refl) in
      is_best m s rests left head.place head.price (h.are_left head (inl refl)) priced
      (λ other p listed e.
      let found = h.whole other p listed e in
      let low : AtMost found.0.price p = h.lower found.0 p found.1 (ap (price_at s rests) found.2 ∙ e) in
      let theirs : found.0 ≡ key_of m s other found.0.price = h.are_keys found.0 found.1 ∙ ap (λ n. key_of m s n found.0.price) found.2 in
      at_most_chain (key_of m s head.place head.price) (key_of m s other found.0.price) (key_of m s other p)
      (subst (λ (b : KeyView). is_before (key_of m s other found.0.price) b ≡ false) own
      (subst (λ (b : KeyView). is_before b head ≡ false) theirs (head_first found.0 found.1)))
      (at_most_by_price m s other p found.0.price low))
      ∙ ap (λ (b : KeyView). Some b) (sym own)
    where
      head_first : (b : KeyView) → IsIn b (head ∷ rest) → is_before b head ≡ false
      head_first b (inl same) = ap (λ (c : KeyView). is_before c head) same ∙ not_before_itself head
      head_first b (inr i) = at_most_from_before head b (h.rises.0 b i)

  pub head_taken : HasBounds m s rests (without head.place left) rest
  head_taken = record {
    known = λ place listed. h.known place (listed_from_without left head.place place listed);
    are_left = λ b i. is_listed-without left head.place b.place (not_again b i) ∙ h.are_left b (inr i);
    are_keys = λ b i. h.are_keys b (inr i);
    payers = λ b i. h.payers b (inr i);
    lower = λ b p i e. h.lower b p (inr i) e;
    one_each = λ b c i j same. h.one_each b c (inr i) (inr j) same;
    whole = λ place p listed e.
        let found = h.whole place p (listed_from_without left head.place place listed) e in (
          found.0,
          in_rest found.0 found.1
              (λ same. true≢false (sym listed ∙ ap (is_listed (without head.place left)) (sym found.2 ∙ same) ∙ is_listed-without_same left head.place)),
          found.2,
        );
    rises = h.rises.1;
  }

  pub head_weight : head.weight ≡ weight_of m s head.place
  head_weight = ap (λ (b : KeyView). b.weight) (h.are_keys head (inl refl))

-- what was found is known, at its price
module _ (m : Measure) (s : SupportView) (rests left : List ℕ) (queue : List KeyView) (h : HasBounds m s rests left queue) (w : KeyView)
    (best : best_of m s rests left ≡ Some w) where
  pub found_known : w.place < length s.costs
  found_known = h.known w.place (best_is_key m s rests left w best).is_left

  pub found_price : price_at s rests w.place ≡ Some w.price
  found_price = (best_is_key m s rests left w best).is_price

  pub found_weight : w.weight ≡ weight_of m s w.place
  found_weight = ap (λ (b : KeyView). b.weight) (best_is_key m s rests left w best).is_key

-- ---- no head

-- what comes before one comes before all that are at least that
before_at_most : (a b c : KeyView) → is_before a b ≡ true → is_before c b ≡ false → is_before a c ≡ true
before_at_most a b c first second = elim (cases_Bool (is_before a c)) [
  | inl yes_before ↦ yes_before
  | inr not_before ↦ absurd (true≢false (sym first ∙ at_most_chain b c a second not_before))
]

beyond_by : (m : Measure) (s : SupportView) (rests left : List ℕ) (limit : KeyView) (queue : List KeyView) → HasBounds m s rests left queue
    → IsDone (Some limit) queue → (place : ℕ) (p : PriceView) → is_listed left place ≡ true → price_at s rests place ≡ Some p
    → is_before limit (key_of m s place p) ≡ true
beyond_by m s rests left limit queue h done place p listed e =
    let found = h.whole place p listed e in
    let low : AtMost found.0.price p = h.lower found.0 p found.1 (ap (price_at s rests) found.2 ∙ e) in
    let theirs : found.0 ≡ key_of m s place found.0.price = h.are_keys found.0 found.1 ∙ ap (λ n. key_of m s n found.0.price) found.2 in
    before_at_most limit (key_of m s place found.0.price) (key_of m s place p)
    (subst (λ (b : KeyView). is_before limit b ≡ true) theirs (after_limit queue h.rises done found.0 found.1))
    (at_most_by_price m s place p found.0.price low)
  where
    after_limit : (queue : List KeyView) → Rises queue → IsDone (Some limit) queue → (b : KeyView) → IsIn b queue → is_before limit b ≡ true
    after_limit [] rises done b i = absurd i
    after_limit (head ∷ rest) (first, later) done b (inl same) = ap (is_before limit) same ∙ done
    after_limit (head ∷ rest) (first, later) done b (inr i) = before_chain limit head b done (first b i)

-- where no head is up to the limit, all that have a price are beyond it
pub none_within : (m : Measure) (s : SupportView) (rests left : List ℕ) (limit : Option KeyView) (queue : List KeyView) → HasBounds m s rests left queue
    → IsDone limit queue → FindsBest m s rests left limit queue None
none_within m s rests left None [] h done = (λ place p listed e. (h.whole place p listed e).1, h)
none_within m s rests left None (head ∷ rest) h done = absurd done
none_within m s rests left (Some limit) queue h done = (beyond_by m s rests left limit queue h done, h)

-- where none is left without a limit, no project that is left has a price
pub nothing_found : (m : Measure) (s : SupportView) (rests left : List ℕ) (queue : List KeyView) → FindsBest m s rests left None queue None
    → (place : ℕ) → is_listed left place ≡ true → price_at s rests place ≡ None
nothing_found m s rests left queue h place listed = none_by (price_at s rests place) refl
  where
    none_by : (o : Option PriceView) → price_at s rests place ≡ o → price_at s rests place ≡ None
    none_by None e = e
    none_by (Some p) e = absurd (h.0 place p listed e)

-- ---- lower rests

pub bounds_fall : (m : Measure) (s : SupportView) (before after left : List ℕ) (queue : List KeyView) → NoRestRises before after
    → HasBounds m s before left queue → HasBounds m s after left queue
bounds_fall m s before after left queue falls h = record {
  known = h.known;
  are_left = h.are_left;
  are_keys = h.are_keys;
  payers = h.payers;
  lower = λ b p i e. lower_by b p i e (price_at s before b.place) refl;
  one_each = h.one_each;
  whole = λ place p listed e. whole_by place p listed e (price_at s before place) refl;
  rises = h.rises;
}
  where
    lower_by : (b : KeyView) (p : PriceView) → IsIn b queue → price_at s after b.place ≡ Some p → (o : Option PriceView) → price_at s before b.place ≡ o → AtMost b.price p
    lower_by b p i e None none =
        absurd (none-some p (sym (none_stays s before after b.place falls none) ∙ e))
    lower_by b p i e (Some r) some =
        let one = h.lower b r i some in
        let two = prices_rise s before after b.place falls r p some e in
        at_most_trans b.price r p one two

    whole_by : (place : ℕ) (p : PriceView) → is_listed left place ≡ true → price_at s after place ≡ Some p → (o : Option PriceView) → price_at s before place ≡ o
        → (b : KeyView) × IsIn b queue × (b.place ≡ place)
    whole_by place p listed e None none =
        absurd (none-some p (sym (none_stays s before after place falls none) ∙ e))
    whole_by place p listed e (Some r) some = h.whole place r listed some

pub charged_falls : (supporters : List ℕ) (price : ℕ) (rests : List ℕ) → NoRestRises rests (charged supporters price rests)
charged_falls supporters price rests v = omega (arith, charged_at supporters price rests v)

-- ---- how long a search can go on: each look raises a bound or takes a key out

abbrev pub looks_left : List KeyView → ℕ
looks_left queue = sum_by (λ (b : KeyView). 1 + (highest (2 ^ 64) - height b.price)) queue

fewer_by : (o : Ordering) (k x : KeyView) (xs : List KeyView) → looks_left (insert_key key_cmp xs k) ≤ (1 + (highest (2 ^ 64) - height k.price)) + looks_left xs
    → looks_left (match_ordering o (k ∷ x ∷ xs) (x ∷ xs) (x ∷ insert_key key_cmp xs k)) ≤ (1 + (highest (2 ^ 64) - height k.price)) + looks_left (x ∷ xs)
fewer_by Less k x xs later = omega (arith, sum_by-cons (λ (b : KeyView). 1 + (highest (2 ^ 64) - height b.price)) k (x ∷ xs))
fewer_by Equal k x xs later = omega arith
fewer_by Greater k x xs later =
    let looks : KeyView → ℕ = λ b. 1 + (highest (2 ^ 64) - height b.price) in
    omega (arith, later, sum_by-cons looks x xs, sum_by-cons looks x (insert_key key_cmp xs k))

looks_put : (k : KeyView) (xs : List KeyView) → looks_left (insert_key key_cmp xs k) ≤ (1 + (highest (2 ^ 64) - height k.price)) + looks_left xs
looks_put k [] = omega (arith, sum_by-cons (λ (b : KeyView). 1 + (highest (2 ^ 64) - height b.price)) k [])
looks_put k (x ∷ xs) = fewer_by (key_cmp k x) k x xs (looks_put k xs)

pub fewer_with_higher : (head k : KeyView) (rest : List KeyView) → height head.price < height k.price → height k.price ≤ highest (2 ^ 64)
    → looks_left (insert_key key_cmp rest k) < looks_left (head ∷ rest)
fewer_with_higher head k rest more small =
    omega (arith, looks_put k rest, sum_by-cons (λ (b : KeyView). 1 + (highest (2 ^ 64) - height b.price)) head rest, more, small)

-- ---- a search, as a caller has it: the rests that it was made at are these
pub found_at : (m : Measure) (s : SupportView) (rests seen left : List ℕ) → seen ≡ rests → (limit : Option KeyView) (before after : List KeyView) (answer by : Option KeyView)
    → (HasBounds m s seen left before → FindsBest m s seen left limit after answer) → answer ≡ by
    → HasBounds m s rests left before → FindsBest m s rests left limit after by
found_at m s rests seen left same limit before after answer by finds is h =
    subst (λ (o : Option KeyView). FindsBest m s rests left limit after o) is
    (subst (λ (rs : List ℕ). FindsBest m s rs left limit after answer) same (finds (subst (λ (rs : List ℕ). HasBounds m s rs left before) (sym same) h)))
