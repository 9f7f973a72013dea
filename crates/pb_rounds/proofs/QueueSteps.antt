-- Steps of the code that fill the queue, take its heads, price them and put them back.
use Rattle.std.proofs.Common.{◌≡◌, ◌≢◌, ℕ, ◌+◌, ◌<◌, ◌≤◌, List, [], ◌∷◌, ◌++◌, length, take, drop, get_or, Option, Some, None, refl, sym, subst, ◌∙◌, ap, inl, inr, arith, length-append, length-drop, suc}
use Rattle.std.specs.Prelude.{All, map, option_map, ◌-◌}
use Rattle.std.specs.List.Sorted.{IsStrictlySortedBy}
use Rattle.std.specs.BTreeSet.{insert_key}
use Rattle.std.specs.List.{cons_option}
use Rattle.std.proofs.lemmas.Bool.{cases_eq}
use Rattle.std.proofs.lemmas.List.{append_assoc, append-nil, get_or-map, map-append, take_all, take_more}
use Rattle.std.proofs.lemmas.List.Elements.{All-cons, All-nil, filter_map-append}
use Rattle.std.specs.Io.Iter.{u64_saturate}
use Rattle.pb_core.specs.Election.{most_projects}
use Rattle.pb_price.specs.Inner.Payment.{nothing}
use Rattle.pb_price.specs.Price.{PriceView, price_at}
use Rattle.pb_price.specs.Supporters.{SupportView}
use Rattle.pb_rounds.specs.declared.measure.Measure.{Measure}
use Rattle.pb_rounds.specs.Inner.Key.{better_of}
use Rattle.pb_rounds.specs.Inner.Queue.{IsDone, IsFull, IsIn, IsTaken, PricesHeads, PutsBack, TakesHeads, places_of}
use Rattle.pb_rounds.specs.Key.{KeyView, first_least, is_before, key_cmp}
use Rattle.pb_rounds.specs.Run.{key_at, key_of, keys_at}
use Rattle.pb_rounds.proofs.Best.{first_least-push}
use Rattle.pb_rounds.proofs.QueueLists.{in_either, in_left, in_right, put_from, put_is_in, put_keeps, rises_from_sorted}

-- the queue of one project more
pub full_more : (m : Measure) (s : SupportView) (n : ℕ) (queue : List KeyView) → IsFull m s n queue → (k : KeyView) → k ≡ key_of m s n nothing
    → (new : List KeyView) → new ≡ insert_key key_cmp queue k → IsStrictlySortedBy key_cmp new → IsFull m s (n + 1) new
full_more m s n queue h k k_is new new_is sorted = record {
  sound = λ b i. elim (put_from k b queue (subst (IsIn b) new_is i)) [
    | inl old ↦ let found = h.sound b old in (omega (arith, found.0), found.1)
    | inr same ↦
        let b_is : b ≡ key_of m s n nothing = same ∙ k_is in
        let at : b.place ≡ n = ap (λ (c : KeyView). c.place) b_is in
        (omega (arith, at), b_is ∙ ap (λ p. key_of m s p nothing) (sym at))
  ];
  whole = λ place below. subst (IsIn (key_of m s place nothing)) (sym new_is) (elim (cases_eq place n) [
    | inl same ↦ subst (λ (b : KeyView). IsIn b (insert_key key_cmp queue k)) (k_is ∙ ap (λ p. key_of m s p nothing) (sym same)) (put_is_in k queue)
    | inr other ↦ put_keeps k (key_of m s place nothing) queue (h.whole place (omega arith))
  ]);
  rises = rises_from_sorted new sorted;
}

-- one key is put back, and then one more
pub puts_one : (place : ℕ) (k : KeyView) (queue new : List KeyView) → k.place ≢ place → new ≡ insert_key key_cmp queue k → IsStrictlySortedBy key_cmp new
    → PutsBack place (k ∷ []) queue new
puts_one place k queue new apart new_is sorted = record {
  from = λ b i. elim (put_from k b queue (subst (IsIn b) new_is i)) [
    | inl old ↦ inl old
    | inr same ↦ inr (inl same, λ e. apart (ap (λ (c : KeyView). c.place) (sym same) ∙ e))
  ];
  kept = λ b i. subst (IsIn b) (sym new_is) (put_keeps k b queue i);
  put = λ b i other. subst (IsIn b) (sym new_is) (elim i [
    | inl same ↦ subst (λ (c : KeyView). IsIn c (insert_key key_cmp queue k)) (sym same) (put_is_in k queue)
    | inr none ↦ absurd none
  ]);
  rises = rises_from_sorted new sorted;
}

pub puts_more : (place : ℕ) (fresh : List KeyView) (k : KeyView) (queue middle new : List KeyView) → PutsBack place fresh queue middle → PutsBack place (k ∷ []) middle new
    → PutsBack place (fresh ++ k ∷ []) queue new
puts_more place fresh k queue middle new first second = record {
  from = λ b i. elim (second.from b i) [
    | inl old ↦ elim (first.from b old) [
      | inl older ↦ inl older
      | inr put ↦ inr (in_left b fresh (k ∷ []) put.0, put.1)
    ]
    | inr put ↦ inr (in_right b fresh (k ∷ []) put.0, put.1)
  ];
  kept = λ b i. second.kept b (first.kept b i);
  put = λ b i other. elim (in_either b fresh (k ∷ []) i) [
    | inl here ↦ second.kept b (first.put b here other)
    | inr last ↦ second.put b last other
  ];
  rises = second.rises;
}

pub puts_step : (place : ℕ) (fresh : List KeyView) (i : ℕ) (d : KeyView) → i < length fresh → (queue middle new : List KeyView) → PutsBack place (take i fresh) queue middle
    → (k : KeyView) → k ≡ get_or fresh i d → PutsBack place (k ∷ []) middle new → PutsBack place (take (i + 1) fresh) queue new
puts_step place fresh i d below queue middle new first k k_is second =
    subst (λ (xs : List KeyView). PutsBack place xs queue new) (sym (take_more fresh i d below))
    (puts_more place (take i fresh) (get_or fresh i d) queue middle new first (subst (λ (b : KeyView). PutsBack place (b ∷ []) middle new) k_is second))

-- heads taken so far
pub record Taking (best : Option KeyView) (count : ℕ) (queue rest : List KeyView) (places all : List ℕ) : Type 0 where
  pub heads : List KeyView
  pub cut : queue ≡ heads ++ rest
  pub placed : all ≡ places ++ places_of heads
  pub counted : length heads ≡ count
  pub taken : (head : KeyView) (others : List KeyView) → heads ≡ head ∷ others → IsTaken best head

first_taken : (best : Option KeyView) (heads : List KeyView) (head : KeyView) → IsTaken best head
    → ((h : KeyView) (others : List KeyView) → heads ≡ h ∷ others → IsTaken best h)
    → (h : KeyView) (others : List KeyView) → heads ++ head ∷ [] ≡ h ∷ others → IsTaken best h
first_taken best [] head taken others h rest e = subst (IsTaken best) (head_same head h [] rest e) taken
  where
    head_same : (x y : KeyView) (xs ys : List KeyView) → x ∷ xs ≡ y ∷ ys → x ≡ y
    head_same x y xs ys e = cc
first_taken best (x ∷ heads) head taken others h rest e = others h heads (ap (λ b. b ∷ heads) (head_same x h (heads ++ head ∷ []) rest e))
  where
    head_same : (x y : KeyView) (xs ys : List KeyView) → x ∷ xs ≡ y ∷ ys → x ≡ y
    head_same x y xs ys e = cc

pub taking_more : (best : Option KeyView) (count : ℕ) (queue rest : List KeyView) (places all : List ℕ) → Taking best count queue rest places all
    → (head : KeyView) (left : List KeyView) → rest ≡ head ∷ left → IsTaken best head → (more : List ℕ) → more ≡ all ++ head.place ∷ []
    → Taking best (count + 1) queue left places more
taking_more best count queue rest places all h head left rest_is taken more more_is = record {
  heads = h.heads ++ head ∷ [];
  cut = h.cut ∙ ap (λ r. h.heads ++ r) rest_is ∙ sym (append_assoc h.heads (head ∷ []) left);
  placed = more_is ∙ ap (λ xs. xs ++ head.place ∷ []) h.placed ∙ append_assoc places (places_of h.heads) (head.place ∷ [])
      ∙ ap (λ xs. places ++ xs) (sym (map-append (λ (b : KeyView). b.place) h.heads (head ∷ [])));
  counted = length-append h.heads (head ∷ []) ∙ ap (λ n. n + 1) h.counted;
  taken = first_taken best h.heads head taken h.taken;
}

done_at_first : (best : Option KeyView) (heads queue rest : List KeyView) → queue ≡ heads ++ rest → IsDone best rest → heads ≡ [] → IsDone best queue
done_at_first best heads queue rest cut done none = subst (IsDone best) (sym (cut ∙ ap (λ xs. xs ++ rest) none)) done

pub takes_until_done : (best : Option KeyView) (count most : ℕ) (queue rest left : List KeyView) (places all : List ℕ) → Taking best count queue rest places all
    → count ≤ most → IsDone best rest → left ≡ rest → TakesHeads best most queue left places all
takes_until_done best count most queue rest left places all h within done left_is = record {
  heads = h.heads;
  cut = h.cut ∙ ap (λ r. h.heads ++ r) (sym left_is);
  placed = h.placed;
  few = omega (arith, h.counted);
  taken = h.taken;
  done = done_at_first best h.heads queue rest h.cut done;
}

none_are_no_more : (heads : List KeyView) → 0 < length heads → heads ≡ [] → ⊥
none_are_no_more [] some e = omega arith
none_are_no_more (x ∷ heads) some e = cc

pub takes_all : (best : Option KeyView) (count most : ℕ) (queue rest : List KeyView) (places all : List ℕ) → Taking best count queue rest places all
    → count ≤ most → most ≤ count → 0 < most → TakesHeads best most queue rest places all
takes_all best count most queue rest places all h within reached some = record {
  heads = h.heads;
  cut = h.cut;
  placed = h.placed;
  few = omega (arith, h.counted);
  taken = h.taken;
  done = λ none. absurd (none_are_no_more h.heads (omega (arith, h.counted)) none);
}

-- a round before its first batch
pub heads_none : (m : Measure) (s : SupportView) (rests : List ℕ) (most : ℕ) (queue : List KeyView) → PricesHeads m s rests most queue queue [] [] None
heads_none m s rests most queue = record {
  early = [];
  batch = [];
  cut = refl;
  placed = refl;
  fresh_are = refl;
  best_is = refl;
  few = omega arith;
  taken = λ head others e. cc;
  begun = λ e. refl;
}

pub places_known : (n : ℕ) (keys : List KeyView) → ((b : KeyView) → IsIn b keys → b.place < n) → All (λ place. place < n) (places_of keys)
places_known n [] h = All-nil (λ place. place < n)
places_known n (b ∷ keys) h = All-cons (λ place. place < n) b.place (places_of keys) (h b (inl refl)) (places_known n keys (λ c i. h c (inr i)))

pub length_places : (keys : List KeyView) → length (places_of keys) ≡ length keys
length_places [] = refl
length_places (b ∷ keys) = ap (λ n. suc n) (length_places keys)

-- the places of the last batch, as the code cuts them off
pub cut_off : (places all seen : List ℕ) (from : ℕ) → seen ≡ all → from ≡ length places → take (length seen - from) (drop from seen) ≡ drop (length places) all
cut_off places all seen from seen_is from_is =
    take_all (length seen - from) (drop from seen) (omega (arith, length-drop from seen))
    ∙ ap (λ n. drop n seen) from_is ∙ ap (drop (length places)) seen_is

drop_all : (xs ys : List ℕ) → drop (length xs) (xs ++ ys) ≡ ys
drop_all [] ys = refl
drop_all (x ∷ xs) ys = drop_all xs ys

-- one batch more: queue is what the round began with, before its rest, and rest what is left after the batch
module _ (m : Measure) (s : SupportView) (rests : List ℕ) (most : ℕ) (queue before : List KeyView) (places : List ℕ) (fresh : List KeyView) (best : Option KeyView)
    (h : PricesHeads m s rests most queue before places fresh best) (rest : List KeyView) (all : List ℕ) (t : TakesHeads best most before rest places all) where
  heads_are : drop (length places) all ≡ places_of t.heads
  heads_are = ap (drop (length places)) t.placed ∙ drop_all places (places_of t.heads)

  whole_cut : queue ≡ ((h.early ++ h.batch) ++ t.heads) ++ rest
  whole_cut = h.cut ∙ ap (λ r. (h.early ++ h.batch) ++ r) t.cut ∙ sym (append_assoc (h.early ++ h.batch) t.heads rest)

  lengths : length queue ≡ length (h.early ++ h.batch) + length t.heads + length rest
  lengths = ap length whole_cut ∙ length-append ((h.early ++ h.batch) ++ t.heads) rest ∙ ap (λ n. n + length rest) (length-append (h.early ++ h.batch) t.heads)

  pub taken_known : (n : ℕ) → ((b : KeyView) → IsIn b queue → b.place < n) → All (λ place. place < n) (drop (length places) all)
  taken_known n known = subst (All (λ place. place < n)) (sym heads_are)
      (places_known n t.heads (λ b i. known b (subst (IsIn b) (sym whole_cut) (in_left b ((h.early ++ h.batch) ++ t.heads) rest (in_right b (h.early ++ h.batch) t.heads i)))))

  pub taken_few : (n : ℕ) → length queue ≤ n → length (drop (length places) all) ≤ n
  taken_few n few =
      let same : length (drop (length places) all) ≡ length t.heads = ap length heads_are ∙ length_places t.heads in
      omega (arith, same, lengths)

  placed_all : length all ≡ length places + length t.heads
  placed_all = ap length t.placed ∙ length-append places (places_of t.heads) ∙ ap (λ n. length places + n) (length_places t.heads)

  pub fewer_left : length all ≢ length places → length rest < length before
  fewer_left some =
      let cut : length before ≡ length t.heads + length rest = ap length t.cut ∙ length-append t.heads rest in
      omega (arith, cut, placed_all, some)

  pub places_within : length all ≤ length queue
  places_within =
      let first : length places ≡ length (h.early ++ h.batch) = ap length h.placed ∙ length_places (h.early ++ h.batch) in
      omega (arith, first, placed_all, lengths)

  pub heads_more : length all ≢ length places → (more : List KeyView) → more ≡ fresh ++ keys_at m s rests (drop (length places) all)
      → (last : Option KeyView) → last ≡ first_least is_before more → PricesHeads m s rests most queue rest all more last
  heads_more some more more_is last last_is =
      let placed : all ≡ places_of ((h.early ++ h.batch) ++ t.heads) =
      t.placed ∙ ap (λ xs. xs ++ places_of t.heads) h.placed ∙ sym (map-append (λ (b : KeyView). b.place) (h.early ++ h.batch) t.heads) in
      let so_far : best ≡ first_least is_before (keys_at m s rests (places_of (h.early ++ h.batch))) =
      h.best_is ∙ ap (first_least is_before) (h.fresh_are ∙ ap (keys_at m s rests) h.placed) in
      record {
        early = h.early ++ h.batch;
        batch = t.heads;
        cut = whole_cut;
        placed = placed;
        fresh_are = more_is ∙ ap (λ xs. xs ++ keys_at m s rests (drop (length places) all)) h.fresh_are
            ∙ ap (λ xs. keys_at m s rests places ++ keys_at m s rests xs) heads_are
            ∙ sym (filter_map-append (key_at m s rests) places (places_of t.heads)) ∙ ap (keys_at m s rests) (sym t.placed);
        best_is = last_is;
        few = t.few;
        taken = λ head others e. subst (λ (o : Option KeyView). IsTaken o head) so_far (t.taken head others e);
        begun = λ none. absurd (some (placed_all ∙ ap (λ (xs : List KeyView). length places + length xs) none ∙ omega arith));
      }

  -- where none was taken, the round is done
  pub none_taken : length all ≡ length places → PricesHeads m s rests most queue rest all fresh best × IsDone best rest
  none_taken same = none_by t.heads refl
    where
      none_by : (heads : List KeyView) → t.heads ≡ heads → PricesHeads m s rests most queue rest all fresh best × IsDone best rest
      none_by [] e =
          let rest_is : before ≡ rest = t.cut ∙ ap (λ xs. xs ++ rest) e in
          let all_is : places ≡ all = sym (t.placed ∙ ap (λ xs. places ++ places_of xs) e ∙ append-nil places) in (
            subst (λ (xs : List ℕ). PricesHeads m s rests most queue rest xs fresh best) all_is
                (subst (λ (r : List KeyView). PricesHeads m s rests most queue r places fresh best) rest_is h),
            subst (IsDone best) rest_is (t.done e),
          )
      none_by (x ∷ heads) e =
          let some : length t.heads ≡ length (x ∷ heads) = ap length e in
          absurd (omega (arith, same, placed_all, some))

  pub counted_more : (n next : ℕ) (heads : List ℕ) → n ≡ length places → heads ≡ drop (length places) all → next ≡ u64_saturate (n + length heads)
      → length queue ≤ most_projects → next ≡ length all
  counted_more n next heads n_is heads_is next_is few =
      let count : length heads ≡ length t.heads = ap length (heads_is ∙ heads_are) ∙ length_places t.heads in
      omega (arith, n_is, count, next_is, few, placed_all, places_within)

-- one project priced: its answer is among the answers for all heads
pub answer_at : (f : ℕ → Option PriceView) (heads : List ℕ) (i : ℕ) → i < length heads → (answers : List (Option PriceView)) → answers ≡ map f heads
    → (answer : Option PriceView) → answer ≡ get_or answers i answer → answer ≡ f (get_or heads i 0)
answer_at f heads i below answers answers_are answer is =
    is ∙ ap (λ (xs : List (Option PriceView)). get_or xs i answer) answers_are ∙ get_or-map f heads i 0 answer below

module _ (m : Measure) (s : SupportView) (rests heads : List ℕ) (i : ℕ) (below : i < length heads) (before fresh : List KeyView)
    (fresh_are : fresh ≡ before ++ keys_at m s rests (take i heads)) (answer : Option PriceView) (answer_is : answer ≡ price_at s rests (get_or heads i 0)) where
  keys_more : keys_at m s rests (take (i + 1) heads) ≡ keys_at m s rests (take i heads) ++ cons_option (option_map (key_of m s (get_or heads i 0)) answer) []
  keys_more =
      ap (keys_at m s rests) (take_more heads i 0 below) ∙ filter_map-append (key_at m s rests) (take i heads) (get_or heads i 0 ∷ [])
      ∙ ap (λ o. keys_at m s rests (take i heads) ++ cons_option (option_map (key_of m s (get_or heads i 0)) o) []) (sym answer_is)

  pub fresh_some : (price : PriceView) → answer ≡ Some price → (key : KeyView) → key ≡ key_of m s (get_or heads i 0) price
      → fresh ++ key ∷ [] ≡ before ++ keys_at m s rests (take (i + 1) heads)
  fresh_some price some key key_is =
      ap (λ xs. xs ++ key ∷ []) fresh_are ∙ append_assoc before (keys_at m s rests (take i heads)) (key ∷ [])
      ∙ ap (λ k. before ++ (keys_at m s rests (take i heads) ++ k ∷ [])) key_is
      ∙ ap (λ xs. before ++ xs) (sym (keys_more ∙ ap (λ o. keys_at m s rests (take i heads) ++ cons_option (option_map (key_of m s (get_or heads i 0)) o) []) some))

  pub fresh_none : answer ≡ None → fresh ≡ before ++ keys_at m s rests (take (i + 1) heads)
  fresh_none none =
      fresh_are ∙ ap (λ xs. before ++ xs) (sym (keys_more ∙ ap (λ o. keys_at m s rests (take i heads) ++ cons_option (option_map (key_of m s (get_or heads i 0)) o) []) none
      ∙ append-nil (keys_at m s rests (take i heads))))

pub best_more : (fresh : List KeyView) (best : Option KeyView) → best ≡ first_least is_before fresh → (key chosen : KeyView) → chosen ≡ better_of best key
    → Some chosen ≡ first_least is_before (fresh ++ key ∷ [])
best_more fresh best best_is key chosen chosen_is =
    ap (λ b. Some b) (chosen_is ∙ ap (λ o. better_of o key) best_is) ∙ sym (first_least-push fresh key)
