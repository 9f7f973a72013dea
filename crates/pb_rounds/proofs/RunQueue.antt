-- How far a run over the queue has come: its progress, the known prices, and the pricing record so far.
use Rattle.std.proofs.Common.{◌≡◌, ℕ, ◌-◌, ◌<◌, ◌≤◌, List, [], ◌∷◌, ◌++◌, length, Option, Some, None, true, refl, sym, subst, ◌∙◌, ap, inl, inr, arith}
use Rattle.std.specs.Prelude.{◌⊎◌, MatchOption, map, replicate}
use Rattle.std.specs.List.{range_with_len}
use Rattle.std.proofs.lemmas.Bool.{leb-true, and_parts}
use Rattle.std.proofs.lemmas.List.{append_assoc}
use Rattle.std.proofs.lemmas.Option.{none-some, same_Some}
use Rattle.pb_core.specs.Election.{most_projects}
use Rattle.pb_price.proofs.Prices.{some_amount_at}
use Rattle.pb_price.proofs.SupporterLists.{cost_positive, support_form}
use Rattle.pb_price.specs.Price.{AtMost, PriceView, due, largest_share, price_at}
use Rattle.pb_price.specs.Supporters.{IsSupport, SupportView, supporters_at}
use Rattle.pb_price.specs.Inner.Payment.{nothing}
use Rattle.pb_rounds.specs.declared.measure.Measure.{Measure}
use Rattle.pb_rounds.specs.Key.{KeyView}
use Rattle.pb_price.specs.PriceFault.{is_worker_count}
use Rattle.pb_rounds.specs.Outcome.{OutcomeView}
use Rattle.pb_rounds.specs.Inner.KeyRecord.{HasKeyRecord, IsKeyEnd, IsKeyRound, KeyRecord, known_after}
use Rattle.pb_rounds.specs.Inner.Queue.{IsDone, IsFull, IsIn, PricesHeads, PutsBack, Rises}
use Rattle.pb_rounds.specs.Inner.RaiseEnds.{IsOutcomeAt}
use Rattle.pb_rounds.specs.Run.{best_of, charged, elected_by, key_of, without}
use Rattle.pb_rounds.proofs.BestKey.{best_is_key}
use Rattle.pb_rounds.proofs.CheapestRounds.{known_place}
use Rattle.pb_rounds.proofs.Listed.{RisesWithin-below, is_listed-range, length-without_one, listed-below, range_rises}
use Rattle.pb_rounds.proofs.Progress.{Progress, progress_end, progress_more, progress_open}
use Rattle.pb_rounds.proofs.QueueLists.{rises_suffix}
use Rattle.pb_rounds.proofs.QueueRound.{IsLower, IsQueue, next_lower, next_queue, priced_end, priced_round, queue_few, round_with_best, round_without_best}

pub record Queued (m : Measure) (s : SupportView) (workers share raised most : ℕ) (queue : List KeyView) (o : OutcomeView) : Type 0 where
  pub left : List ℕ
  pub known : ℕ → Option PriceView
  pub progress : Progress m s share raised left o
  pub lower : IsLower s o.rests left known
  pub queued : IsQueue m s left known queue
  pub first : (most ≤ workers) ⊎ ((place : ℕ) → known place ≡ Some nothing)
  -- what is a record from here on is one of the whole run
  pub continues : (later : List (List ℕ)) → KeyRecord m s workers o.rests left known later → HasKeyRecord m s workers share (o.priced ++ map length later)
  pub some : 0 < most

-- the opening of a run
full_queue : (m : Measure) (s : SupportView) (queue : List KeyView) → IsFull m s (length s.costs) queue
    → IsQueue m s (range_with_len 0 (length s.costs)) (λ _. Some nothing) queue
full_queue m s queue full = record {
  are_left = λ b i. is_listed-range 0 (length s.costs) b.place (omega arith) (let found = full.sound b i in omega (arith, found.0));
  are_known = λ b i. ap (λ n. Some n) (sym (ap (λ (c : KeyView). c.price) (full.sound b i).1));
  are_keys = λ b i. (full.sound b i).1 ∙ ap (key_of m s b.place) (sym (ap (λ (c : KeyView). c.price) (full.sound b i).1));
  whole = λ place price listed same.
      subst (λ n. IsIn (key_of m s place n) queue) (same_Some _ _ same)
      (full.whole place (listed-below (range_with_len 0 (length s.costs)) (length s.costs) place
      (RisesWithin-below _ 0 (length s.costs) (range_rises 0 (length s.costs) (length s.costs) (omega arith))) listed));
  rises = full.rises;
}

pub queued_open : (m : Measure) (s : SupportView) → IsSupport s → (workers share raised : ℕ) → share ≤ largest_share → (queue : List KeyView) → IsFull m s (length s.costs) queue
    → (o : OutcomeView) → o ≡ record { share = share; raised = raised; elected = []; rests = replicate s.voters share; priced = [] }
    → (most : ℕ) → 0 < most → Queued m s workers share raised most queue o
queued_open m s is workers share raised small queue full o o_is most some =
    subst (λ (x : OutcomeView). Queued m s workers share raised most queue x) (sym o_is) (record {
      left = range_with_len 0 (length s.costs);
      known = λ _. Some nothing;
      progress = progress_open m s share raised small;
      lower = record {
        rises = λ place q p listed known_is priced.
            let known = known_place s place listed in
            let some = some_amount_at s (replicate s.voters share) place (cost_positive s is place known) p priced in
            subst (λ (k : PriceView). AtMost k p) (same_Some nothing q known_is) (inl (omega (arith, some)));
        none = λ place listed e. absurd (none-some nothing (sym e));
      };
      queued = full_queue m s queue full;
      first = inr (λ place. refl);
      continues = λ later h. (later, h, refl);
      some = some;
    })

-- a count of workers is at least 1
pub some_worker : (workers : ℕ) → is_worker_count workers ≡ true → 0 < workers
some_worker workers e = let least = leb-true 1 workers (and_parts _ _ e).0 in omega (arith, least)

-- one round: what the code has of it, with the outcome after its prices were counted
module _ (m : Measure) (s : SupportView) (workers share raised most : ℕ) (queue : List KeyView) (o : OutcomeView)
    (st : Queued m s workers share raised most queue o) (is : IsSupport s) where
  pub queue_known : (b : KeyView) → IsIn b queue → b.place < length s.costs
  queue_known b i = listed-below st.left (length s.costs) b.place (RisesWithin-below st.left 0 (length s.costs) st.progress.rises) (st.queued.are_left b i)

  pub queue_within : length queue ≤ most_projects
  queue_within = omega (arith, queue_few m s st.left st.known queue st.queued, st.progress.counted, (support_form s is).few_projects)

  module _ (rest : List KeyView) (places : List ℕ) (fresh : List KeyView) (best : Option KeyView) (h : PricesHeads m s o.rests most queue rest places fresh best)
      (done : IsDone best rest) (priced : OutcomeView) (priced_is : priced ≡ record o { priced = o.priced ++ length places ∷ [] }) where
    pub rest_rises : Rises rest
    rest_rises = rises_suffix (h.early ++ h.batch) rest (subst Rises h.cut st.queued.rises)

    -- the round that elects nobody ends the run
    pub round_end : best ≡ None → IsOutcomeAt m s workers share raised priced
    round_end none =
        let ends = round_without_best m s o.rests st.left st.known st.lower queue st.queued most rest places fresh best h done none in
        subst (λ (x : OutcomeView). IsOutcomeAt m s workers share raised x) (sym priced_is) (record {
          settled_is = progress_end m s share raised st.left o st.progress ends;
          priced = st.continues (places ∷ []) (subst (λ (b : Option KeyView). MatchOption b
              (IsKeyEnd s o.rests st.left st.known places × (◌≡◌ {A = List (List ℕ)} [] []))
              (λ winner. IsKeyRound m s workers o.rests st.left st.known winner places
              × KeyRecord m s workers (charged (supporters_at s winner.place) (due winner.price) o.rests) (without winner.place st.left) (known_after s o.rests places st.known) []))
              (sym ends) (priced_end m s o.rests st.left st.known st.lower queue st.queued most rest places fresh best h done none, refl));
          is_support = is;
        })

    module _ (w : KeyView) (found : best ≡ Some w) where
      found_best : best_of m s o.rests st.left ≡ Some w
      found_best = round_with_best m s o.rests st.left st.known st.lower queue st.queued most rest places fresh best h done w found

      pub winner_known : w.place < length s.costs
      winner_known = listed-below st.left (length s.costs) w.place (RisesWithin-below st.left 0 (length s.costs) st.progress.rises)
          (best_is_key m s o.rests st.left w found_best).is_left

      pub winner_price : price_at s priced.rests w.place ≡ Some w.price
      winner_price = ap (λ (x : OutcomeView). price_at s x.rests w.place) priced_is ∙ (best_is_key m s o.rests st.left w found_best).is_price

      -- after the winner paid
      module _ (paid : OutcomeView)
          (paid_is : paid ≡ record priced { elected = priced.elected ++ elected_by s priced.rests w ∷ []; rests = charged (supporters_at s w.place) (due w.price) priced.rests }) where
        paid_all : paid ≡ record {
          share = o.share;
          raised = o.raised;
          elected = o.elected ++ elected_by s o.rests w ∷ [];
          rests = charged (supporters_at s w.place) (due w.price) o.rests;
          priced = o.priced ++ length places ∷ [];
        }
        paid_all = paid_is ∙ ap (λ (x : OutcomeView). record {
          share = x.share;
          raised = x.raised;
          elected = x.elected ++ elected_by s x.rests w ∷ [];
          rests = charged (supporters_at s w.place) (due w.price) x.rests;
          priced = x.priced;
        }) priced_is

        goes_on : Progress m s share raised (without w.place st.left) paid
        goes_on =
            let more = progress_more m s share raised st.left o st.progress w found_best in
            subst (Progress m s share raised (without w.place st.left)) (sym paid_all) (record {
              share_is = more.share_is;
              raised_is = more.raised_is;
              whole = more.whole;
              rests_are = more.rests_are;
              rises = more.rises;
              counted = more.counted;
            })

        record_more : (later : List (List ℕ))
            → KeyRecord m s workers (charged (supporters_at s w.place) (due w.price) o.rests) (without w.place st.left) (known_after s o.rests places st.known) later
            → HasKeyRecord m s workers share (paid.priced ++ map length later)
        record_more later from_here =
            subst (HasKeyRecord m s workers share) (sym (ap (λ (x : OutcomeView). x.priced ++ map length later) paid_all ∙ append_assoc o.priced (length places ∷ []) (map length later)))
            (st.continues (places ∷ later) (subst (λ (b : Option KeyView). MatchOption b
            (IsKeyEnd s o.rests st.left st.known places × (later ≡ []))
            (λ winner. IsKeyRound m s workers o.rests st.left st.known winner places
            × KeyRecord m s workers (charged (supporters_at s winner.place) (due winner.price) o.rests) (without winner.place st.left) (known_after s o.rests places st.known) later))
            (sym found_best)
            (priced_round m s o.rests st.left st.known st.lower queue st.queued most rest places fresh best h done w found workers ((support_form s is).costs_positive w.place 0 winner_known) st.first, from_here)))

        pub round_more : (all : List KeyView) → PutsBack w.place fresh rest all → 0 < workers → Queued m s workers share raised workers all paid
        round_more all back some = record {
          left = without w.place st.left;
          known = known_after s o.rests places st.known;
          progress = goes_on;
          lower = subst (λ (x : OutcomeView). IsLower s x.rests (without w.place st.left) (known_after s o.rests places st.known)) (sym paid_all)
              (next_lower m s o.rests st.left st.known st.lower queue st.queued most rest places fresh best h done w found);
          queued = next_queue m s o.rests st.left st.known st.lower queue st.queued most rest places fresh best h done w found all back;
          first = inl (omega arith);
          continues = λ later h'. record_more later (subst (λ (x : OutcomeView). KeyRecord m s workers x.rests (without w.place st.left) (known_after s o.rests places st.known) later) paid_all h');
          some = some;
        }

        pub fewer_rounds : length s.costs - length paid.elected < length s.costs - length o.elected
        fewer_rounds =
            let one_less = length-without_one st.left 0 (length s.costs) w.place st.progress.rises (best_is_key m s o.rests st.left w found_best).is_left in
            omega (arith, one_less, goes_on.counted, st.progress.counted)

-- the keys put back, as the code has them
pub puts_at : (at place : ℕ) → at ≡ place → (seen fresh : List KeyView) → seen ≡ fresh → (queue all : List KeyView) → PutsBack at seen queue all → PutsBack place fresh queue all
puts_at at place at_is seen fresh seen_is queue all h =
    subst (λ n. PutsBack n fresh queue all) at_is (subst (λ (xs : List KeyView). PutsBack at xs queue all) seen_is h)
