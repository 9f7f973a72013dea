-- The queue of the projects that may tie: what is taken out, what goes back, and that the others don't tie.
use Rattle.std.proofs.Common.{◌≡◌, ℕ, zero, suc, ◌+◌, ◌*◌, ◌<◌, ◌≤◌, Bool, true, false, cond, List, [], ◌∷◌, ◌++◌, length, get_or, replicate, set, Option, Some, None, refl, sym, ◌∙◌, ap, subst, inl, inr, arith}
use Rattle.std.specs.Prelude.{◌==◌, All, Contains, filter, max, slice_index_or}
use Rattle.std.specs.List.{range_with_len}
use Rattle.std.specs.List.Sorted.{IsStrictlySortedBy}
use Rattle.std.specs.BTreeSet.{insert_key}
use Rattle.std.specs.Cmp.{ranks}
use Rattle.std.specs.Ordering.{is_lt, nat_cmp, ordering_then}
use Rattle.std.specs.declared.cmp.Ordering.{Ordering}
use Rattle.std.specs.declared.cmp.Ordering.TheVariants.{Less, Equal, Greater}
use Rattle.std.proofs.lemmas.Bool.{cases_eq, lt-leb, ne_eqb, or_from, true≢false}
use Rattle.std.proofs.lemmas.List.{append_assoc, get_or-set_other, get_or-set_same, map-append}
use Rattle.std.proofs.lemmas.List.Elements.{Contains-get_or}
use Rattle.std.proofs.lemmas.Option.{same_Some}
use Rattle.std.proofs.Math.Nat.{mul-le-mul, mul-le-mul_left}
use Rattle.pb_price.specs.Inner.Payment.{nothing}
use Rattle.pb_price.specs.Price.{HasPayers, PriceView}
use Rattle.pb_price.specs.Supporters.{IsSupport, SupportView}
use Rattle.pb_price.proofs.SupporterLists.{cost_positive}
use Rattle.pb_rounds.specs.Inner.KeyOrder.{greater_from}
use Rattle.pb_rounds.specs.Inner.Listed.{is_listed}
use Rattle.pb_rounds.specs.Inner.Progress.{RisesWithin}
use Rattle.pb_rounds.specs.Inner.Queue.{IsDone, IsFull, IsIn, Rises, places_of}
use Rattle.pb_rounds.specs.Key.{KeyView, is_before, key_cmp}
use Rattle.pb_rounds.specs.Run.{ElectedView, key_of, weight_of}
use Rattle.pb_rounds.specs.declared.measure.Measure.{Measure}
use Rattle.pb_rounds.proofs.Listed.{contains_from_listed, listed_from_contains, rises_within}
use Rattle.pb_rounds.proofs.QueueLists.{before_chain, in_either, in_from_listed, in_left, in_right, listed_from_in, put_from, put_is_in, put_keeps, rises_from_sorted, rises_suffix}
use Rattle.pb_reasons.specs.Inner.Rounds.{AreTieBounds, IsTieBound, scaled, target}
use Rattle.pb_reasons.specs.Inner.TieQueue.{AreQueued, PutsBound, TakesDue, limit_of}
use Rattle.pb_reasons.specs.Ties.{is_tied}
use Rattle.pb_reasons.proofs.TiedRounds.{no_bound_no_tie, no_tie, opening_bound}

-- ---- heads are taken out

pub record Takes (queue rest : List KeyView) (places : List ℕ) : Type 0 where
  pub heads : List KeyView
  pub cut : queue ≡ heads ++ rest
  pub placed : places ≡ places_of heads

pub takes_none : (queue : List KeyView) → Takes queue queue []
takes_none queue = record { heads = []; cut = refl; placed = refl }

pub takes_more : (queue rest later : List KeyView) (head : KeyView) (places : List ℕ) → Takes queue rest places → rest ≡ head ∷ later
    → Takes queue later (places ++ head.place ∷ [])
takes_more queue rest later head places h rest_is = record {
  heads = h.heads ++ head ∷ [];
  cut = h.cut ∙ ap (λ keys. h.heads ++ keys) rest_is ∙ sym (append_assoc h.heads (head ∷ []) later);
  placed = ap (λ ns. ns ++ head.place ∷ []) h.placed ∙ sym (map-append (λ (k : KeyView). k.place) h.heads (head ∷ []));
}

-- ---- a bound goes into the queue

pub puts_some : (m : Measure) (s : SupportView) (place : ℕ) (least : PriceView) (queue : List KeyView) (k : KeyView) → k ≡ key_of m s place least
    → (new : List KeyView) → new ≡ insert_key key_cmp queue k → IsStrictlySortedBy key_cmp new → PutsBound m s place (Some least) queue new
puts_some m s place least queue k k_is new new_is sorted = record {
  from = λ b i. elim (put_from k b queue (subst (IsIn b) new_is i)) [
    | inl old ↦ inl old
    | inr same ↦ inr (ap (λ (c : KeyView). c.place) (same ∙ k_is))
  ];
  kept = λ b i. subst (IsIn b) (sym new_is) (put_keeps k b queue i);
  put = λ bound e. subst (IsIn (key_of m s place bound)) (sym new_is)
      (subst (λ (c : KeyView). IsIn c (insert_key key_cmp queue k)) (k_is ∙ ap (key_of m s place) (same_Some _ _ e)) (put_is_in k queue));
  rises = λ h. rises_from_sorted new sorted;
}

-- ---- the limit of a round

less_first : (first second third : Ordering) → second ≡ Greater → is_lt (ordering_then first (ordering_then second third)) ≡ true → first ≡ Less
less_first Less second third greater e = refl
less_first Equal second third greater e = absurd (true≢false (sym e ∙ ap (λ o. is_lt (ordering_then o third)) greater))
less_first Greater second third greater e = absurd (true≢false (sym e))

less_is : (x y : ℕ) → nat_cmp x y ≡ Less → x < y
less_is x y e = rw e at (ranks x y)

-- the winner's price is divided by something
abbrev pub IsDivided : Measure → SupportView → ElectedView → Type 0
IsDivided m s w = (1 ≤ weight_of m s w.place) × IsSupport s × HasPayers s w.exact

module _ (m : Measure) (s : SupportView) (w : ElectedView) (place : ℕ) (bound : PriceView) (known : place < length s.costs) where
  ratio_beyond : is_before (limit_of m s w) (key_of m s place bound) ≡ true
      → w.exact.amount * (max 1 bound.payers * max 1 (weight_of m s place)) < bound.amount * (max 1 w.exact.payers * max 1 (weight_of m s w.place))
  ratio_beyond e = less_is _ _ (less_first _ _ _ (greater_from (length s.costs) place known) e)

  -- a bound beyond the limit is above a tie
  beyond : IsDivided m s w → is_before (limit_of m s w) (key_of m s place bound) ≡ true → target m s w place bound < scaled m s w bound
  beyond (positive, is_support, has) e =
      let ratio = ratio_beyond e in
      let less : bound.payers ≤ max 1 bound.payers = omega arith in
      let lighter : weight_of m s place ≤ max 1 (weight_of m s place) = omega arith in
      let up = mul-le-mul_left w.exact.amount (mul-le-mul less lighter) in
      let some : max 1 w.exact.payers ≡ w.exact.payers = omega (arith, has.some) in
      let heavy : max 1 (weight_of m s w.place) ≡ weight_of m s w.place = omega (arith, positive) in
      let down = ap (λ n. bound.amount * (n * max 1 (weight_of m s w.place))) some ∙ ap (λ n. bound.amount * (w.exact.payers * n)) heavy in
      omega (arith, ratio, up, down)

after_done : (limit : KeyView) (rest : List KeyView) → IsDone (Some limit) rest → Rises rest → (b : KeyView) → IsIn b rest → is_before limit b ≡ true
after_done limit [] done rises b i = absurd i
after_done limit (head ∷ rest) done (first, later) b (inl same) = ap (is_before limit) same ∙ done
after_done limit (head ∷ rest) done (first, later) b (inr i) = before_chain limit head b done (first b i)

-- ---- what is due

module _ (m : Measure) (s : SupportView) (elected : List ElectedView) (rests : List ℕ) (w : ElectedView) (ready : IsDivided m s w)
    (bounds : List (Option PriceView)) (are : AreTieBounds s elected rests bounds) (queue rest : List KeyView) (due : List ℕ)
    (queued : AreQueued m s [] bounds queue) (takes : TakesDue (limit_of m s w) queue rest due) where
  place_known : (place : ℕ) → Contains due place → place < length s.costs
  place_known place among =
      let found = in_from_listed takes.heads place (listed_from_contains (places_of takes.heads) place ((takes.members place).1 among)) in
      subst (λ n. n < length s.costs) found.place_is (queued.known found.found (subst (IsIn found.found) (sym takes.cut) (in_left found.found takes.heads rest found.here)))

  pub due_known : All (λ place. place < length s.costs) due
  due_known k d below = place_known (get_or due k d) (Contains-get_or due k d below)

  rest_rises : Rises rest
  rest_rises = rises_suffix takes.heads rest (subst Rises takes.cut queued.rises)

  taken_is_due : (k : KeyView) → IsIn k takes.heads → is_listed due k.place ≡ true
  taken_is_due k i = listed_from_contains due k.place ((takes.members k.place).0 (contains_from_listed (places_of takes.heads) k.place (listed_from_in k takes.heads i)))

  still_queued : (place : ℕ) (bound : PriceView) → place < length s.costs → is_listed due place ≡ false → slice_index_or bounds place None ≡ Some bound
      → IsIn (key_of m s place bound) rest
  still_queued place bound known out e =
      elim (in_either (key_of m s place bound) takes.heads rest (subst (IsIn (key_of m s place bound)) takes.cut (queued.whole place bound known refl e))) [
        | inl taken ↦ absurd (true≢false (sym (taken_is_due (key_of m s place bound) taken) ∙ out))
        | inr left ↦ left
      ]

  pub rest_queued : AreQueued m s due bounds rest
  rest_queued = record {
    known = λ k i. queued.known k (subst (IsIn k) (sym takes.cut) (in_right k takes.heads rest i));
    whole = still_queued;
    rises = rest_rises;
  }

  module _ (place : ℕ) (known : place < length s.costs) (out : is_listed due place ≡ false) where
    untied_by : (bound : Option PriceView) → slice_index_or bounds place None ≡ bound → is_tied m s elected rests w place ≡ false
    untied_by None e = no_bound_no_tie m s elected rests w place (subst (IsTieBound s elected rests place) e (are.each place known))
    untied_by (Some bound) e =
        no_tie m s elected rests w place (cost_positive s ready.1 place known) (Some bound) (subst (IsTieBound s elected rests place) e (are.each place known))
        (lt-leb (scaled m s w bound) (target m s w place bound)
        (beyond m s w place bound known ready
        (after_done (limit_of m s w) rest takes.done rest_rises (key_of m s place bound) (still_queued place bound known out e))))

    untied : is_tied m s elected rests w place ≡ false
    untied = untied_by (slice_index_or bounds place None) refl

-- ---- the same ties

not_listed_below : (xs : List ℕ) (low high n : ℕ) → RisesWithin low high xs → n < low → is_listed xs n ≡ false
not_listed_below [] low high n h below = refl
not_listed_below (x ∷ xs) low high n (from, to, rest) below =
    or_from (x == n) _ (ne_eqb x n (λ e. omega arith)) (not_listed_below xs (x + 1) high n rest (omega arith))

-- of a range, rising numbers have all that pass
filter_listed : (p : ℕ → Bool) (xs : List ℕ) (low n high : ℕ) → low + n ≡ high → RisesWithin low high xs
    → ((k : ℕ) → low ≤ k → k < high → is_listed xs k ≡ false → p k ≡ false) → filter p xs ≡ filter p (range_with_len low n)
filter_listed p [] low zero high e h out = refl
filter_listed p (x ∷ xs) low zero high e (from, to, rest) out = absurd (omega arith)
filter_listed p [] low (suc n) high e h out =
    rw (out low (omega arith) (omega arith) refl) (filter_listed p [] (low + 1) n high (omega arith) tt (λ k a b is. out k (omega arith) b refl))
filter_listed p (x ∷ xs) low (suc n) high e (from, to, rest) out = elim (cases_eq x low) [
  | inl same ↦
      let tail = filter_listed p xs (low + 1) n high (omega arith) (subst (λ y. RisesWithin (y + 1) high xs) same rest)
      (λ k a b is. out k (omega arith) b (or_from (x == k) _ (ne_eqb x k (λ q. omega (arith, q, same, a))) is)) in
      ap (λ y. cond (p y) (y ∷ filter p xs) (filter p xs)) same ∙ ap (λ ys. cond (p low) (low ∷ ys) ys) tail
  | inr other ↦
      rw (out low (omega arith) (omega arith) (not_listed_below (x ∷ xs) x high low (omega arith, to, rest) (omega arith)))
      (filter_listed p (x ∷ xs) (low + 1) n high (omega arith) (omega arith, to, rest) (λ k a b is. out k (omega arith) b is))
]

-- what is not due does not tie
pub those_are_due : (m : Measure) (s : SupportView) (elected : List ElectedView) (rests : List ℕ) (w : ElectedView) → IsDivided m s w
    → (bounds : List (Option PriceView)) → AreTieBounds s elected rests bounds → (queue rest : List KeyView) (due : List ℕ)
    → AreQueued m s [] bounds queue → TakesDue (limit_of m s w) queue rest due
    → filter (is_tied m s elected rests w) due ≡ filter (is_tied m s elected rests w) (range_with_len 0 (length s.costs))
those_are_due m s elected rests w ready bounds are queue rest due queued takes =
    filter_listed (is_tied m s elected rests w) due 0 (length s.costs) (length s.costs) (omega arith)
    (rises_within due 0 (length s.costs) (λ some. omega arith) (due_known m s elected rests w ready bounds are queue rest due queued takes) takes.rise)
    (λ k a b out. untied m s elected rests w ready bounds are queue rest due queued takes k b out)

-- ---- one project is put back

pub one_put : (m : Measure) (s : SupportView) (later : List ℕ) (bounds : List (Option PriceView)) (queue new : List KeyView) (place : ℕ) (bound : Option PriceView)
    → AreQueued m s (place ∷ later) bounds queue → place < length s.costs → length bounds ≡ length s.costs → PutsBound m s place bound queue new
    → AreQueued m s later (set bounds place bound) new
one_put m s later bounds queue new place bound h here long put = record {
  known = λ k i. elim (put.from k i) [
    | inl old ↦ h.known k old
    | inr at ↦ subst (λ n. n < length s.costs) (sym at) here
  ];
  whole = λ p least known out e. elim (cases_eq p place) [
    | inl same ↦
        let kept : slice_index_or (set bounds place bound) p None ≡ bound =
        ap (λ n. slice_index_or (set bounds place bound) n None) same ∙ get_or-set_same bounds place bound None (omega (arith, here, long)) in
        subst (λ n. IsIn (key_of m s n least) new) (sym same) (put.put least (sym kept ∙ e))
    | inr other ↦
        put.kept (key_of m s p least)
        (h.whole p least known (or_from (place == p) _ (ne_eqb place p (λ q. other (sym q))) out) (sym (get_or-set_other bounds place p bound None other) ∙ e))
  ];
  rises = put.rises h.rises;
}

-- ---- before the first round

pub opening_queued : (m : Measure) (s : SupportView) (bounds : List (Option PriceView)) (queue : List KeyView)
    → bounds ≡ replicate (length s.costs) (Some nothing) → IsFull m s (length s.costs) queue → AreQueued m s [] bounds queue
opening_queued m s bounds queue h full = record {
  known = λ k i. (full.sound k i).0;
  whole = λ place bound known out e. subst (λ (n : PriceView). IsIn (key_of m s place n) queue)
      (same_Some _ _ (sym (opening_bound (length s.costs) place bounds h known) ∙ e)) (full.whole place known);
  rises = full.rises;
}
