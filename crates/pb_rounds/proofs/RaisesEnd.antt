-- The completion in the words of its rule.
use Rattle.std.proofs.Common.{◌≡◌, ◌≢◌, ℕ, ◌+◌, ◌-◌, ◌<◌, List, length, get_or, Option, Some, None, true, false, sym, subst, ◌∙◌, ap, inl, inr, arith}
use Rattle.std.specs.Prelude.{All, ◌==◌, MatchOption, option_map, if◌then◌else◌}
use Rattle.std.specs.List.{range_with_len}
use Rattle.std.proofs.lemmas.Bool.{true≢false, not-true, not_from_false, and_parts, and_from, and_cases, or_parts, or_cases, or_from, cases_Bool, cases_eq, cond-true, cond-false, false_from_ne_true, lt-ltb, ltb-true, leb-true, leb-false, eq-eqb, ne_eqb}
use Rattle.std.proofs.lemmas.List.Folds.{list_any_at, list_any_none}
use Rattle.std.proofs.lemmas.List.FromFn.{get_or-range_with_len, length-range_with_len}
use Rattle.std.proofs.lemmas.Option.{none-some, same_Some}
use Rattle.pb_core.specs.Election.{ElectionView}
use Rattle.pb_price.proofs.FirstInRange.{IsFirstInRange, NoneInRange, find-range_with_len}
use Rattle.pb_price.specs.Supporters.{SupportView, IsSupport, support_in, supporters_at, cost_at}
use Rattle.pb_price.specs.declared.grain.Grain.{Grain}
use Rattle.pb_rounds.specs.declared.measure.Measure.{Measure}
use Rattle.pb_rounds.specs.Completed.{After, IsExhausted, IsCompleted, GoesOn, AreSpent}
use Rattle.pb_rounds.specs.Count.{spent_on, is_over, is_exhausted, could_be_added, is_over_after, is_exhausted_after, is_decisive, first_decisive, add1_of, elected_after, share_after}
use Rattle.pb_rounds.specs.Run.{ElectedView, RunView, is_elected, outcome_of}
use Rattle.pb_rounds.proofs.Completing.{decided_before, decided_here, opening_not_over, raises_spent, within_from_not_over}
use Rattle.pb_rounds.proofs.Exhausted.{over_from_more, over_from_within}
use Rattle.pb_rounds.proofs.RunIs.{only_run, words_of_run}

not_elected_from : (elected : List ElectedView) (place : ℕ) → All (λ w. w.place ≢ place) elected → is_elected elected place ≡ false
not_elected_from elected place h = list_any_none (λ w. w.place == place) elected (λ k d below. ne_eqb _ _ (h k d below))

others_from : (elected : List ElectedView) (place : ℕ) → is_elected elected place ≡ false → All (λ w. w.place ≢ place) elected
others_from elected place e k d below same =
    true≢false (sym (list_any_at (λ w. w.place == place) elected k d below (eq-eqb _ _ same)) ∙ e)

module _ (s : SupportView) (budget : ℕ) (elected : List ElectedView) where
  -- a project that could be added
  could_from : (place : ℕ) → All (λ w. w.place ≢ place) elected → 0 < length (supporters_at s place) → could_be_added s budget elected place ≡ false
      → budget - spent_on s elected < cost_at s place
  could_from place others supported e = elim (and_cases _ _ e) [
    | inl first ↦ absurd (true≢false (sym (and_from _ _ (not_from_false _ (not_elected_from elected place others)) (lt-ltb 0 (length (supporters_at s place)) supported)) ∙ first))
    | inr dear ↦ leb-false (cost_at s place) (budget - spent_on s elected) dear
  ]

  pub exhausted_from_test : is_exhausted s budget elected ≡ true → IsExhausted s budget elected
  unfolding is_exhausted
  exhausted_from_test e =
      let parts = and_parts _ _ e in
      let within = within_from_not_over s budget elected (not-true _ parts.0) in
      let none = not-true _ parts.1 in
      record {
        within = within;
        no_room = λ place left supported.
            let known = left.0 in
            let alone : could_be_added s budget elected place ≡ false = false_from_ne_true _ (λ yes_could.
            true≢false (sym (list_any_at (could_be_added s budget elected) (range_with_len 0 (length s.costs)) place 0 (rw (length-range_with_len 0 (length s.costs)) known)
            (ap (could_be_added s budget elected) (get_or-range_with_len 0 (length s.costs) place 0 known ∙ omega arith) ∙ yes_could)) ∙ none)) in
            let dear = could_from place left.1 supported alone in
            omega arith;
      }

  could_none : IsExhausted s budget elected → (place : ℕ) → place < length s.costs → could_be_added s budget elected place ≡ true → ⊥
  could_none h place known yes_could =
      let parts = and_parts _ _ yes_could in
      let first = and_parts _ _ parts.0 in
      let room = h.no_room place (known, others_from elected place (not-true _ first.0)) (ltb-true 0 (length (supporters_at s place)) first.1) in
      let cheap = leb-true (cost_at s place) (budget - spent_on s elected) parts.1 in
      omega (arith, room, cheap, h.within)

  test_from_exhausted : IsExhausted s budget elected → is_exhausted s budget elected ≡ true
  unfolding is_exhausted
  test_from_exhausted h =
      and_from _ _ (not_from_false _ (over_from_within s budget elected h.within))
      (not_from_false _ (list_any_none (could_be_added s budget elected) (range_with_len 0 (length s.costs)) (λ k d below.
      let within : k < length s.costs = rw (sym (length-range_with_len 0 (length s.costs))) below in
      let at : get_or (range_with_len 0 (length s.costs)) k d ≡ k = get_or-range_with_len 0 (length s.costs) k d within ∙ omega arith in
      ap (could_be_added s budget elected) at ∙ false_from_ne_true _ (could_none h k within))))

-- what the computed run elects, in the words of the rule, and back
from_computed : (m : Measure) (grain : Grain) (e : ElectionView) → IsSupport (support_in grain e) → (step raises : ℕ) (IsSuch : List ElectedView → Type 0)
    → IsSuch (elected_after m grain e step raises) → After m grain e step raises IsSuch
from_computed m grain e h step raises IsSuch such =
    (elected_after m grain e step raises, (outcome_of m grain e (share_after grain e step raises)).rests, words_of_run m (support_in grain e) (share_after grain e step raises) h, such)

computed_from : (m : Measure) (grain : Grain) (e : ElectionView) (step raises : ℕ) (IsSuch : List ElectedView → Type 0)
    → After m grain e step raises IsSuch → IsSuch (elected_after m grain e step raises)
computed_from m grain e step raises IsSuch (elected, rests, words, such) =
    subst IsSuch (ap (λ (r : RunView). r.elected) (only_run m (support_in grain e) (share_after grain e step raises) (record { elected = elected; rests = rests }) words)) such

no_end : (m : Measure) (grain : Grain) (e : ElectionView) → IsSupport (support_in grain e) → (step raises : ℕ) → is_decisive m grain e step raises ≡ false
    → GoesOn m grain e step raises
no_end m grain e support step raises h =
    let parts = or_parts _ _ h in
    from_computed m grain e support step raises (λ elected. (¬ (e.budget < spent_on (support_in grain e) elected)) × (¬ IsExhausted (support_in grain e) e.budget elected)) (
      (λ over. true≢false (sym (over_from_more (support_in grain e) e.budget (elected_after m grain e step raises) over) ∙ parts.0)),
      (λ exhausted. true≢false (sym (test_from_exhausted (support_in grain e) e.budget (elected_after m grain e step raises) exhausted) ∙ parts.1)),
    )

more_from_over : (s : SupportView) (budget : ℕ) (elected : List ElectedView) → is_over s budget elected ≡ true → budget < spent_on s elected
unfolding is_over
more_from_over s budget elected e = ltb-true budget (spent_on s elected) e

decided_completed : (m : Measure) (grain : Grain) (e : ElectionView) → IsSupport (support_in grain e) → (step limit : ℕ) → (o : Option ℕ)
    → MatchOption o (NoneInRange (is_decisive m grain e step) 0 (limit + 1)) (IsFirstInRange (is_decisive m grain e step) 0 (limit + 1)) → (raises : ℕ)
    → option_map (λ n. if is_over_after m grain e step n then n - 1 else n) o ≡ Some raises → IsCompleted m grain e step limit raises
decided_completed m grain e h step limit None found raises is = absurd (none-some raises is)
decided_completed m grain e h step limit (Some n) found raises is = elim (cases_Bool (is_over_after m grain e step n)) [
  | inl over ↦
      let before : raises ≡ n - 1 = same_Some _ _ (sym is ∙ ap (λ k. Some k) (cond-true _ _ _ over)) in
      elim (cases_eq n 0) [
        | inl none ↦ absurd (true≢false (sym over ∙ rw none (opening_not_over m grain e h step)))
        | inr some ↦
            let next : raises + 1 ≡ n = omega arith in
            let below = found.below in
            record {
              within_limit = omega arith;
              fewer_go_on = λ fewer few. no_end m grain e h step fewer (found.first fewer (omega arith) (omega arith));
              ends = inr (
                no_end m grain e h step raises (found.first raises (omega arith) (omega arith)),
                omega arith,
                from_computed m grain e h step (raises + 1) (λ elected. e.budget < spent_on (support_in grain e) elected)
                    (more_from_over (support_in grain e) e.budget (elected_after m grain e step (raises + 1)) (ap (is_over_after m grain e step) next ∙ over)),
              );
            }
      ]
  | inr not_over ↦
      let here : raises ≡ n = same_Some _ _ (sym is ∙ ap (λ k. Some k) (cond-false _ _ _ not_over)) in
      let below = found.below in
      record {
        within_limit = omega arith;
        fewer_go_on = λ fewer few. no_end m grain e h step fewer (found.first fewer (omega arith) (omega arith));
        ends = inl (from_computed m grain e h step raises (IsExhausted (support_in grain e) e.budget) (exhausted_from_test (support_in grain e) e.budget (elected_after m grain e step raises)
            (ap (is_exhausted_after m grain e step) here ∙ exhausted_at m grain e step n not_over found.passes)));
      }
]
  where
    exhausted_at : (m : Measure) (grain : Grain) (e : ElectionView) (step n : ℕ) → is_over_after m grain e step n ≡ false → is_decisive m grain e step n ≡ true → is_exhausted_after m grain e step n ≡ true
    exhausted_at m grain e step n not_over ends = elim (or_cases _ _ ends) [
      | inl over ↦ absurd (true≢false (sym over ∙ not_over))
      | inr exhausted ↦ exhausted
    ]

-- what the completion decides on
pub add1_completed : (m : Measure) (grain : Grain) (e : ElectionView) → IsSupport (support_in grain e) → (step limit raises : ℕ) → add1_of m grain e step limit ≡ Some raises → IsCompleted m grain e step limit raises
unfolding first_decisive
add1_completed m grain e h step limit raises is =
    decided_completed m grain e h step limit _ (find-range_with_len (is_decisive m grain e step) (limit + 1) 0 (limit + 1) (omega arith)) raises is

-- raises that go on do not decide
goes_on_test : (m : Measure) (grain : Grain) (e : ElectionView) (step raises : ℕ) → GoesOn m grain e step raises → is_decisive m grain e step raises ≡ false
goes_on_test m grain e step raises goes_on =
    let h = computed_from m grain e step raises (λ elected. (¬ (e.budget < spent_on (support_in grain e) elected)) × (¬ IsExhausted (support_in grain e) e.budget elected)) goes_on in
    or_from _ _ (false_from_ne_true _ (λ over. h.0 (more_from_over (support_in grain e) e.budget (elected_after m grain e step raises) over)))
    (false_from_ne_true _ (λ exhausted. h.1 (exhausted_from_test (support_in grain e) e.budget (elected_after m grain e step raises) exhausted)))

module _ (m : Measure) (grain : Grain) (e : ElectionView) (step limit : ℕ) where
  -- a number of raises of which the rule's words hold is what the completion decides on
  pub completed_is_decided : (raises : ℕ) → IsCompleted m grain e step limit raises → add1_of m grain e step limit ≡ Some raises
  completed_is_decided raises h = elim h.ends [
    | inl ended ↦
        let exhausted = computed_from m grain e step raises (IsExhausted (support_in grain e) e.budget) ended in
        decided_here m grain e step limit raises h.within_limit (λ j below. goes_on_test m grain e step j (h.fewer_go_on j below))
        (over_from_within (support_in grain e) e.budget (elected_after m grain e step raises) exhausted.within)
        (test_from_exhausted (support_in grain e) e.budget (elected_after m grain e step raises) exhausted)
    | inr over ↦
        let less = over.1 in
        let more : (j : ℕ) → j < raises + 1 → is_decisive m grain e step j ≡ false =
        λ j below. elim (cases_eq j raises) [
          | inl same ↦ ap (is_decisive m grain e step) same ∙ goes_on_test m grain e step raises over.0
          | inr other ↦ goes_on_test m grain e step j (h.fewer_go_on j (omega arith))
        ] in
        let back : raises + 1 - 1 ≡ raises = omega arith in
        decided_before m grain e step limit (raises + 1) (omega arith) more (over_from_more (support_in grain e) e.budget (elected_after m grain e step (raises + 1)) (computed_from m grain e step (raises + 1) (λ elected. e.budget < spent_on (support_in grain e) elected) over.2))
        ∙ ap (λ n. Some n) back
  ]

  -- the completion decides on none where none up to the limit decides
  pub spent_is_undecided : AreSpent m grain e step limit → add1_of m grain e step limit ≡ None
  spent_is_undecided h =
      raises_spent m grain e step limit (limit + 1) (omega arith) (λ j below. goes_on_test m grain e step j (h j (omega arith)))

  undecided : IsSupport (support_in grain e) → (o : Option ℕ) → MatchOption o (NoneInRange (is_decisive m grain e step) 0 (limit + 1)) (IsFirstInRange (is_decisive m grain e step) 0 (limit + 1))
      → option_map (λ n. if is_over_after m grain e step n then n - 1 else n) o ≡ None → AreSpent m grain e step limit
  undecided support None found is raises within = no_end m grain e support step raises (found raises (omega arith) (omega arith))
  undecided support (Some n) found is raises within = absurd (none-some _ (sym is))

  pub undecided_is_spent : IsSupport (support_in grain e) → add1_of m grain e step limit ≡ None → AreSpent m grain e step limit
  unfolding first_decisive
  undecided_is_spent support is = undecided support _ (find-range_with_len (is_decisive m grain e step) (limit + 1) 0 (limit + 1) (omega arith)) is
