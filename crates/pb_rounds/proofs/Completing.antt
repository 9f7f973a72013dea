-- How many raises the completion decides on.
use Rattle.std.proofs.Common.{◌≡◌, ℕ, ◌+◌, ◌-◌, ◌*◌, ◌/◌, ◌<◌, ◌≤◌, max, length, Option, Some, None, Bool, true, false, refl, sym, subst, ◌∙◌, ap, inl, inr, arith}
use Rattle.std.specs.Prelude.{List, option_map, if◌then◌else◌, MatchOption, ◌==◌}
use Rattle.std.proofs.Math.Nat.{div-le_self, lt-mul-div-succ, mul-div_cancel_left, mul-le-mul_right}
use Rattle.std.proofs.lemmas.Option.{none-some, same_Some}
use Rattle.std.proofs.lemmas.Bool.{cases_Bool, true≢false, or_left, or_right, or_parts, cond-true, cond-false, cases_eq, eq-eqb, ne_eqb, ltb-false}
use Rattle.pb_core.specs.Election.{ElectionView, most_voters}
use Rattle.pb_core.specs.Money.{largest_money}
use Rattle.pb_price.proofs.FirstInRange.{IsFirstInRange, NoneInRange, find-range_with_len, find_from_first}
use Rattle.pb_price.proofs.SupporterLists.{support_form}
use Rattle.pb_price.specs.Grain.{in_parts}
use Rattle.pb_price.specs.Price.{largest_share}
use Rattle.pb_price.specs.Supporters.{SupportView, IsSupport, support_in}
use Rattle.pb_price.specs.declared.grain.Grain.{Grain}
use Rattle.pb_price.specs.declared.grain.Grain.TheVariants.{Fine, Hundredths}
use Rattle.pb_rounds.specs.declared.measure.Measure.{Measure}
use Rattle.pb_rounds.specs.Count.{spent_on, is_over, is_over_after, is_exhausted_after, is_decisive, first_decisive, add1_of, opening_share, share_after, elected_after}
use Rattle.pb_rounds.specs.Outcome.{OutcomeView, Settled, settled, settled_by}
use Rattle.pb_rounds.specs.Run.{ElectedView, outcome_of}
use Rattle.pb_rounds.specs.Inner.PriceSystem.{HasPriceSystem}
use Rattle.pb_rounds.specs.Inner.RaiseEnds.{IsCompletion, IsOutcomeAt}
use Rattle.pb_rounds.proofs.Exhausted.{over_from_within}
use Rattle.pb_rounds.proofs.Explained.{run_elects_few, run_within_shares, run_has_price_system}
use Rattle.pb_rounds.proofs.Collecting.{within_budget}

-- the voters' shares together are within the budget
shares_within : (voters budget : ℕ) → voters * (if voters == 0 then 0 else budget / voters) ≤ budget
shares_within voters budget = elim (cases_eq voters 0) [
  | inl none ↦ rw (eq-eqb voters 0 none) (omega arith)
  | inr some ↦ let positive : 0 < voters = omega arith in rw (ne_eqb voters 0 some) (omega arith)
]

shares_above : (voters budget : ℕ) → 0 < voters → budget < voters * ((if voters == 0 then 0 else budget / voters) + 1)
shares_above voters budget some = rw (ne_eqb voters 0 (λ none. omega (arith, some, none))) (lt-mul-div-succ budget some)

no_share : (voters budget : ℕ) → voters ≡ 0 → (if voters == 0 then 0 else budget / voters) ≡ 0
no_share voters budget none = rw (eq-eqb voters 0 none) refl

-- the opening share is the largest that all voters can get
pub opening_within : (grain : Grain) (e : ElectionView) → length e.voters * opening_share grain e ≤ in_parts grain (length e.voters) e.budget
opening_within grain e = shares_within (length e.voters) (in_parts grain (length e.voters) e.budget)

pub opening_largest : (grain : Grain) (e : ElectionView) → 0 < length e.voters
    → in_parts grain (length e.voters) e.budget < length e.voters * (opening_share grain e + 1)
opening_largest grain e some = shares_above (length e.voters) (in_parts grain (length e.voters) e.budget) some

pub opening_of_nobody : (grain : Grain) (e : ElectionView) → length e.voters ≡ 0 → opening_share grain e ≡ 0
opening_of_nobody grain e none = no_share (length e.voters) (in_parts grain (length e.voters) e.budget) none

-- in fine money they get all of it
exact_share : (voters budget : ℕ) → 0 < voters → voters * (if voters == 0 then 0 else max 1 (10000 * voters) * budget / voters) ≡ max 1 (10000 * voters) * budget
exact_share voters budget some =
    let parts : max 1 (10000 * voters) ≡ 10000 * voters = omega (arith, some) in
    let all : max 1 (10000 * voters) * budget ≡ voters * (10000 * budget) = ap (λ n. n * budget) parts ∙ omega arith in
    let share : max 1 (10000 * voters) * budget / voters ≡ 10000 * budget = ap (λ n. n / voters) all ∙ mul-div_cancel_left (10000 * budget) some in
    rw (ne_eqb voters 0 (λ none. omega (arith, some, none))) (ap (λ n. voters * n) share ∙ sym all)

pub opening_exact : (e : ElectionView) → 0 < length e.voters → length e.voters * opening_share Fine e ≡ in_parts Fine (length e.voters) e.budget
opening_exact e some = exact_share (length e.voters) e.budget some

-- it is no more than the whole budget of hundredths, or 10,000 times that
share_of_hundredths : (voters budget : ℕ) → (if voters == 0 then 0 else budget / voters) ≤ budget
share_of_hundredths voters budget = elim (cases_eq voters 0) [
  | inl none ↦ rw (eq-eqb voters 0 none) (omega arith)
  | inr some ↦ rw (ne_eqb voters 0 some) (div-le_self budget voters)
]

share_of_parts : (voters budget : ℕ) → (if voters == 0 then 0 else max 1 (10000 * voters) * budget / voters) ≤ 10000 * budget
share_of_parts voters budget = elim (cases_eq voters 0) [
  | inl none ↦ rw (eq-eqb voters 0 none) (omega arith)
  | inr apart ↦
      let some : 0 < voters = omega (arith, apart) in
      let parts : max 1 (10000 * voters) ≡ 10000 * voters = omega (arith, some) in
      let all : max 1 (10000 * voters) * budget ≡ voters * (10000 * budget) = ap (λ n. n * budget) parts ∙ omega arith in
      let share : max 1 (10000 * voters) * budget / voters ≡ 10000 * budget = ap (λ n. n / voters) all ∙ mul-div_cancel_left (10000 * budget) some in
      rw (ne_eqb voters 0 apart) (omega (arith, share))
]

pub opening_of_hundredths : (e : ElectionView) → e.budget ≤ largest_money → opening_share Hundredths e ≤ largest_money
opening_of_hundredths e small = let share = share_of_hundredths (length e.voters) e.budget in omega (arith, share, small)

pub opening_small : (grain : Grain) (e : ElectionView) → e.budget ≤ largest_money → opening_share grain e ≤ 10000 * largest_money
opening_small Hundredths e small = let share = share_of_hundredths (length e.voters) e.budget in omega (arith, share, small)
opening_small Fine e small = let share = share_of_parts (length e.voters) e.budget in omega (arith, share, small)

-- fewer raises make no larger share
pub raised_fits : (grain : Grain) (e : ElectionView) (step most raises opening : ℕ) → opening ≡ opening_share grain e → raises ≤ most
    → share_after grain e step most ≤ largest_share → opening + raises * step ≤ largest_share
raised_fits grain e step most raises opening opening_is few small =
    let fewer : raises * step ≤ most * step = mul-le-mul_right step few in omega (arith, opening_is, fewer, small)

-- a hundredth has so many parts
pub parts_times : (grain : Grain) (voters amount : ℕ) → in_parts grain voters 1 * amount ≡ in_parts grain voters amount
parts_times Hundredths voters amount = omega arith
parts_times Fine voters amount = omega arith

pub parts_small : (grain : Grain) (voters : ℕ) → voters ≤ most_voters → in_parts grain voters 1 ≤ 10000 * most_voters
parts_small Hundredths voters few = omega (arith, few)
parts_small Fine voters few = omega (arith, few)

-- the outcome at shares that are together within the budget is not over
pub shares_not_over : (m : Measure) (grain : Grain) (e : ElectionView) → IsSupport (support_in grain e) → (share : ℕ)
    → length e.voters * share ≤ in_parts grain (length e.voters) e.budget
    → is_over (support_in grain e) e.budget (outcome_of m grain e share).elected ≡ false
shares_not_over m grain e h share small =
    over_from_within (support_in grain e) e.budget (outcome_of m grain e share).elected
    (within_budget grain (length e.voters) e.budget (spent_on (support_in grain e) (outcome_of m grain e share).elected)
    (length (outcome_of m grain e share).elected)
    (let few = run_elects_few m (support_in grain e) h share in omega (arith, few, (support_form (support_in grain e) h).few_projects))
    (let within = run_within_shares m (support_in grain e) h share in omega (arith, within, small)))

-- the outcome at the opening share is never over
pub opening_not_over : (m : Measure) (grain : Grain) (e : ElectionView) → IsSupport (support_in grain e) → (step : ℕ) → is_over_after m grain e step 0 ≡ false
opening_not_over m grain e h step =
    let same : share_after grain e step 0 ≡ opening_share grain e = omega arith in
    shares_not_over m grain e h (share_after grain e step 0) (rw same (opening_within grain e))

none_found : (test : ℕ → Bool) (high : ℕ) → NoneInRange test 0 high → (o : Option ℕ) → MatchOption o (NoneInRange test 0 high) (IsFirstInRange test 0 high) → o ≡ None
none_found test high none None found = refl
none_found test high none (Some k) found = absurd (true≢false (sym found.passes ∙ none k (omega arith) found.below))

module _ (m : Measure) (grain : Grain) (e : ElectionView) (step limit : ℕ) where
  end_found : (raises : ℕ) → raises ≤ limit → ((j : ℕ) → j < raises → is_decisive m grain e step j ≡ false) → is_decisive m grain e step raises ≡ true → first_decisive m grain e step limit ≡ Some raises
  unfolding first_decisive
  end_found raises within tried ends =
      find_from_first (is_decisive m grain e step) (limit + 1) 0 (limit + 1) raises (omega arith) (record {
        from = omega arith;
        below = omega arith;
        passes = ends;
        first = λ j _ below. tried j below;
      })

  pub raises_spent : (tried_below : ℕ) → limit < tried_below → ((j : ℕ) → j < tried_below → is_decisive m grain e step j ≡ false) → add1_of m grain e step limit ≡ None
  unfolding first_decisive
  raises_spent tried_below all tried =
      ap (option_map (λ raises. if is_over_after m grain e step raises then raises - 1 else raises))
      (none_found (is_decisive m grain e step) (limit + 1) (λ j _ below. tried j (omega arith)) _ (find-range_with_len (is_decisive m grain e step) (limit + 1) 0 (limit + 1) (omega arith)))

  pub decided_before : (raises : ℕ) → raises ≤ limit → ((j : ℕ) → j < raises → is_decisive m grain e step j ≡ false) → is_over_after m grain e step raises ≡ true
      → add1_of m grain e step limit ≡ Some (raises - 1)
  decided_before raises within tried over =
      ap (option_map (λ n. if is_over_after m grain e step n then n - 1 else n)) (end_found raises within tried (or_left _ _ over))
      ∙ ap (λ n. Some n) (cond-true _ _ _ over)

  pub decided_here : (raises : ℕ) → raises ≤ limit → ((j : ℕ) → j < raises → is_decisive m grain e step j ≡ false) → is_over_after m grain e step raises ≡ false
      → is_exhausted_after m grain e step raises ≡ true → add1_of m grain e step limit ≡ Some raises
  decided_here raises within tried within_budget exhausted =
      ap (option_map (λ n. if is_over_after m grain e step n then n - 1 else n)) (end_found raises within tried (or_right _ _ exhausted))
      ∙ ap (λ n. Some n) (cond-false _ _ _ within_budget)

-- the outcome at a share, as one after raises of an election
pub outcome_moves : (m : Measure) (grain : Grain) (e : ElectionView) (s : SupportView) → s ≡ support_in grain e → (workers step raised opening share : ℕ)
    → opening ≡ opening_share grain e → share ≡ opening + raised * step → (o : OutcomeView) → IsOutcomeAt m s workers share raised o
    → IsOutcomeAt m (support_in grain e) workers (share_after grain e step raised) raised o
outcome_moves m grain e s same workers step raised opening share opening_is share_is o h =
    subst (λ n. IsOutcomeAt m (support_in grain e) workers n raised o) (share_is ∙ ap (λ n. n + raised * step) opening_is)
    (subst (λ (t : SupportView). IsOutcomeAt m t workers share raised o) same h)

-- the outcome after as many raises as the completion decides on
pub completion_at : (m : Measure) (grain : Grain) (e : ElectionView) (workers step limit raises : ℕ) → add1_of m grain e step limit ≡ Some raises → (o : OutcomeView)
    → IsOutcomeAt m (support_in grain e) workers (share_after grain e step raises) raises o → IsCompletion m grain e workers step limit o
completion_at m grain e workers step limit raises decided o h =
    let same : raises ≡ o.raised = sym (ap (λ (x : Settled). x.raised) h.settled_is) in
    record {
      decided = decided ∙ ap (λ n. Some n) same;
      ended = subst (λ n. IsOutcomeAt m (support_in grain e) workers (share_after grain e step n) n o) same h;
    }

-- the outcome that the completion decides on is not over
decided_not_over : (m : Measure) (grain : Grain) (e : ElectionView) → IsSupport (support_in grain e) → (step high : ℕ) → (o : Option ℕ)
    → MatchOption o (NoneInRange (is_decisive m grain e step) 0 high) (IsFirstInRange (is_decisive m grain e step) 0 high) → (raises : ℕ)
    → option_map (λ n. if is_over_after m grain e step n then n - 1 else n) o ≡ Some raises → is_over_after m grain e step raises ≡ false
decided_not_over m grain e h step high None found raises is = absurd (none-some raises is)
decided_not_over m grain e h step high (Some n) found raises is = elim (cases_Bool (is_over_after m grain e step n)) [
  | inl over ↦
      let before : raises ≡ n - 1 = same_Some _ _ (sym is ∙ ap (λ k. Some k) (cond-true _ _ _ over)) in
      elim (cases_eq n 0) [
        | inl none ↦ absurd (true≢false (sym over ∙ rw none (opening_not_over m grain e h step)))
        | inr some ↦ rw before (or_parts _ _ (found.first (n - 1) (omega arith) (omega arith))).0
      ]
  | inr not_over ↦
      let here : raises ≡ n = same_Some _ _ (sym is ∙ ap (λ k. Some k) (cond-false _ _ _ not_over)) in
      rw here not_over
]

pub add1_not_over : (m : Measure) (grain : Grain) (e : ElectionView) → IsSupport (support_in grain e) → (step limit raises : ℕ) → add1_of m grain e step limit ≡ Some raises → is_over_after m grain e step raises ≡ false
unfolding first_decisive
add1_not_over m grain e h step limit raises is =
    decided_not_over m grain e h step (limit + 1) _ (find-range_with_len (is_decisive m grain e step) (limit + 1) 0 (limit + 1) (omega arith)) raises is

pub within_from_not_over : (s : SupportView) (budget : ℕ) (elected : List ElectedView) → is_over s budget elected ≡ false → spent_on s elected ≤ budget
unfolding is_over
within_from_not_over s budget elected e = ltb-false budget (spent_on s elected) e

-- what is settled at a share at which the outcome is not over is within the budget, and has a price system
pub settled_within : (m : Measure) (grain : Grain) (e : ElectionView) (share raises : ℕ) → is_over (support_in grain e) e.budget (outcome_of m grain e share).elected ≡ false
    → (o : OutcomeView) → settled o ≡ settled_by share raises (outcome_of m grain e share) → spent_on (support_in grain e) o.elected ≤ e.budget
settled_within m grain e share raises not_over o is =
    rw (ap (λ (x : Settled). x.elected) is) (within_from_not_over (support_in grain e) e.budget (outcome_of m grain e share).elected not_over)

pub settled_priced : (m : Measure) (grain : Grain) (e : ElectionView) → IsSupport (support_in grain e) → (share raises : ℕ) (o : OutcomeView)
    → settled o ≡ settled_by share raises (outcome_of m grain e share) → HasPriceSystem (support_in grain e) o.share o.elected o.rests
settled_priced m grain e h share raises o is =
    rw (ap (λ (x : Settled). x.share) is, ap (λ (x : Settled). x.elected) is, ap (λ (x : Settled). x.rests) is)
    (run_has_price_system m (support_in grain e) h share)
