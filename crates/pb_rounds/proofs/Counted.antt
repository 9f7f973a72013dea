-- What a count promises of its outcome, from the outcome of a whole run.
use Rattle.std.proofs.Common.{◌≡◌, ◌≢◌, ℕ, ◌+◌, ◌*◌, ◌<◌, ◌≤◌, ◌^◌, get_or, inl, inr, take, List, Option, Bool, true, false, Some, None, sym, subst, ◌∙◌, ap, refl, length, arith}
use Rattle.std.specs.Prelude.{All, nat_lt, IfOk, IfErr, Result, Ok, Err, option_map, not, nat_le, ◌&&◌, if◌then◌else◌}
use Rattle.std.proofs.Math.Nat.{mul-le-mul_right}
use Rattle.std.proofs.lemmas.Bool.{and_parts, cases_lt, le-leb, le-ltb, lt-ltb, leb-false, leb-true, lt-leb, or_from, or_parts, true≢false}
use Rattle.std.proofs.lemmas.List.Elements.{All-map}
use Rattle.std.proofs.lemmas.List.Folds.{list_any_at, list_any_more, list_any_none}
use Rattle.std.proofs.lemmas.Option.{none-some, same_Some}
use Rattle.std.specs.List.{list_any}
use Rattle.pb_core.specs.Election.{ElectionView, IsElection, ProjectView}
use Rattle.pb_price.specs.Grain.{in_parts}
use Rattle.pb_price.specs.Price.{largest_share}
use Rattle.pb_price.specs.PriceFault.{is_worker_count}
use Rattle.pb_price.specs.Supporters.{SupportView, IsSupport, support_in}
use Rattle.pb_price.specs.declared.grain.Grain.{Grain}
use Rattle.pb_price.specs.declared.grain.Grain.TheVariants.{Hundredths}
use Rattle.pb_rounds.specs.Cheapest.{IsRun}
use Rattle.pb_rounds.specs.Completed.{AreSpent}
use Rattle.pb_rounds.specs.Count.{count_of, has_too_fine_cost, is_too_fine, opening_share, raises_of, settled_after, share_after, share_by, step_of}
use Rattle.pb_rounds.specs.Inner.Count.{IsCompletionFault}
use Rattle.pb_rounds.specs.Counted.{IsCountFault, IsCountOf}
use Rattle.pb_rounds.specs.CountFault.{largest_step, most_raises, refusal_of}
use Rattle.pb_rounds.specs.Outcome.{OutcomeView, Settled, settled, settled_by}
use Rattle.pb_rounds.specs.Inner.PriceSystem.{HasPriceSystem}
use Rattle.pb_rounds.specs.PricingRecord.{HasPricing}
use Rattle.pb_rounds.specs.Inner.RaiseEnds.{CanComplete, IsCompletion, IsOutcomeAt}
use Rattle.pb_rounds.specs.Run.{outcome_of, run_of}
use Rattle.pb_rounds.specs.declared.count_fault.CountFault.{CountFault}
use Rattle.pb_rounds.specs.declared.count_fault.CountFault.TheVariants.{WorkerCount, StepRange, RaisesRange, RaisesSpent, NoMemory, TooFine}
use Rattle.pb_rounds.specs.declared.measure.Measure.{Measure}
use Rattle.pb_rounds.specs.declared.options.Completion.{Completion}
use Rattle.pb_rounds.specs.declared.options.Completion.TheVariants.{Plain, Add1, NoShares}
use Rattle.pb_rounds.specs.declared.options.CountOptions.{CountOptions}
use Rattle.pb_rounds.proofs.Completing.{add1_not_over, parts_times, opening_of_hundredths, opening_within, settled_priced, settled_within, shares_not_over}
use Rattle.pb_rounds.proofs.PricedRounds.{one_more_priced}
use Rattle.pb_rounds.proofs.PricedRule.{has_pricing}
use Rattle.pb_rounds.proofs.RaisesEnd.{add1_completed, completed_is_decided, spent_is_undecided, undecided_is_spent}
use Rattle.pb_rounds.proofs.RunIs.{only_run, words_of_run}
use Rattle.pb_rounds.proofs.Settled.{settled_has_price_system}

-- what follows of an answer follows of a result
pub each_ok : {X F : Type 0} (P Q : X → Type 0) → ((x : X) → P x → Q x) → (r : Result X F) → IfOk r P → IfOk r Q
each_ok P Q follows (Ok x) h = follows x h
each_ok P Q follows (Err fault) h = tt

pub each_err : {X F : Type 0} (P Q : F → Type 0) → ((fault : F) → P fault → Q fault) → (r : Result X F) → IfErr r P → IfErr r Q
each_err P Q follows (Ok x) h = tt
each_err P Q follows (Err fault) h = follows fault h

-- the tests of the options, where none fails
all_in_range : (a b d : Bool)
    → (if not a then Some WorkerCount else if not b then Some StepRange else if not d then Some RaisesRange else None) ≡ None
    → (a ≡ true) × ((b ≡ true) × (d ≡ true))
all_in_range true true true h = (refl, (refl, refl))
all_in_range true true false h = cc
all_in_range true false d h = cc
all_in_range false b d h = cc

-- more than a number is the next one or more
pub above_or_from : (x y : ℕ) → nat_lt x y ≡ nat_le (x + 1) y
above_or_from x y = elim (cases_lt x y) [
  | inl less ↦ lt-ltb x y less ∙ sym (le-leb (x + 1) y (omega (arith, less)))
  | inr most ↦ le-ltb x y (omega (arith, most)) ∙ sym (lt-leb (x + 1) y (omega (arith, most)))
]

-- what can be counted so finely: costs
module _ (grain : Grain) (e : ElectionView) (fine : has_too_fine_cost grain e ≡ false) where
  pub costs_fit : All (λ p. in_parts grain (length e.voters) p.cost < 2 ^ 64) e.projects
  costs_fit k d below = elim (cases_lt (in_parts grain (length e.voters) (get_or e.projects k d).cost) (2 ^ 64)) [
    | inl less ↦ less
    | inr more ↦ absurd (true≢false (sym (list_any_at (λ p. nat_le (2 ^ 64) (in_parts grain (length e.voters) p.cost)) e.projects k d below
        (le-leb (2 ^ 64) (in_parts grain (length e.voters) (get_or e.projects k d).cost) (omega (arith, more)))) ∙ fine))
  ]

  pub support_fits : IsElection e → IsSupport (support_in grain e)
  support_fits h = (e, h, refl, All-map (λ cost. in_parts grain (length e.voters) cost < 2 ^ 64) (λ p. p.cost) e.projects costs_fit)

pub none_too_fine : (grain : Grain) (e : ElectionView) → All (λ p. in_parts grain (length e.voters) p.cost < 2 ^ 64) e.projects → has_too_fine_cost grain e ≡ false
none_too_fine grain e fit = list_any_none (λ p. nat_le (2 ^ 64) (in_parts grain (length e.voters) p.cost)) e.projects
    (λ k d below. lt-leb (2 ^ 64) (in_parts grain (length e.voters) (get_or e.projects k d).cost) (fit k d below))

-- a loop that looks at each cost, as the code has it
abbrev pub is_too_large : Grain → ElectionView → ProjectView → Bool
is_too_large grain e p = nat_le (2 ^ 64) (in_parts grain (length e.voters) p.cost)

module _ (grain : Grain) (e : ElectionView) (items : List ProjectView) (same : items ≡ e.projects) (i : ℕ) (below : i < length items) (p : ProjectView)
    (p_is : p ≡ get_or items i p) (parts cost : ℕ) (parts_is : parts ≡ in_parts grain (length e.voters) 1) (cost_is : cost ≡ p.cost)
    (test : Bool) (test_is : test ≡ nat_le (2 ^ 64) (parts * cost)) where
  test_here : test ≡ is_too_large grain e (get_or e.projects i p)
  test_here = test_is ∙ ap (λ n. nat_le (2 ^ 64) n) (ap (λ n. n * cost) parts_is ∙ parts_times grain (length e.voters) cost
      ∙ ap (in_parts grain (length e.voters)) (cost_is ∙ ap (λ (q : ProjectView). q.cost) (p_is ∙ ap (λ (ps : List ProjectView). get_or ps i p) same)))

  is_project : i < length e.projects
  is_project = subst (λ (ps : List ProjectView). i < length ps) same below

  pub one_too_large : test ≡ true → true ≡ has_too_fine_cost grain e
  one_too_large is = sym (list_any_at (is_too_large grain e) e.projects i p is_project (sym test_here ∙ is))

  pub none_too_large : list_any (is_too_large grain e) (take i e.projects) ≡ false → test ≡ false → list_any (is_too_large grain e) (take (i + 1) e.projects) ≡ false
  none_too_large before is = list_any_more (is_too_large grain e) e.projects i p is_project ∙ or_from _ _ before (sym test_here ∙ is)

-- and the largest share
module _ (e : ElectionView) (options : CountOptions) (fine : is_too_fine e options ≡ false) where
  pub no_too_fine_cost : has_too_fine_cost options.grain e ≡ false
  no_too_fine_cost = (or_parts _ _ fine).1

  share_fits : (c : Completion) → options.completion ≡ c → share_by c options.grain e (step_of e options) options.max_raises < 2 ^ 64
  share_fits c is = subst (λ k. share_by k options.grain e (step_of e options) options.max_raises < 2 ^ 64) is
      (leb-false (2 ^ 64) (share_by options.completion options.grain e (step_of e options) options.max_raises) (or_parts _ _ fine).0)

  pub plain_fits : options.completion ≡ Plain → share_after options.grain e (step_of e options) 0 ≤ largest_share
  plain_fits is = let below = share_fits Plain is in omega (arith, below)

  pub add1_fits : options.completion ≡ Add1 → share_after options.grain e (step_of e options) options.max_raises ≤ largest_share
  add1_fits is = let below = share_fits Add1 is in omega (arith, below)

-- with options in their ranges an election can be completed
pub can_complete : (e : ElectionView) (options : CountOptions) (s : SupportView) → s ≡ support_in options.grain e → refusal_of options ≡ None
    → (step : ℕ) → step ≡ step_of e options → (raises : ℕ) → raises ≤ options.max_raises → share_after options.grain e (step_of e options) raises ≤ largest_share
    → CanComplete e s step raises
can_complete e options s same in_range step step_is raises few small =
    let tests = all_in_range (is_worker_count options.workers) (nat_le 1 options.step && nat_le options.step largest_step) (nat_le options.max_raises most_raises) in_range in
    let grain : s.grain ≡ options.grain = ap (λ (t : SupportView). t.grain) same in
    subst (λ n. CanComplete e s n raises) (sym step_is) (record {
      few_raises = (let most = leb-true options.max_raises most_raises tests.1.1 in omega (arith, few, most));
      own_supporters = subst (λ (g : Grain). s ≡ support_in g e) (sym grain) same;
      small = subst (λ (g : Grain). share_after g e (step_of e options) raises ≤ largest_share) (sym grain) small;
    })

-- what a run, a completion and its faults are, by the money and the step of the options
module _ (e : ElectionView) (options : CountOptions) (s : SupportView) (same : s ≡ support_in options.grain e) (step : ℕ) (step_is : step ≡ step_of e options) where
  grain_is : s.grain ≡ options.grain
  grain_is = ap (λ (t : SupportView). t.grain) same

  pub run_as_counted : (m : Measure) (workers raises : ℕ) (o : OutcomeView) → IsOutcomeAt m s workers (share_after s.grain e step raises) raises o
      → IsOutcomeAt m (support_in options.grain e) workers (share_after options.grain e (step_of e options) raises) raises o
  run_as_counted m workers raises o h =
      subst (λ n. IsOutcomeAt m (support_in options.grain e) workers (share_after options.grain e n raises) raises o) step_is
      (subst (λ (t : SupportView). IsOutcomeAt m t workers (share_after t.grain e step raises) raises o) same h)

  pub completion_as_counted : (m : Measure) (workers limit : ℕ) (o : OutcomeView) → IsCompletion m s.grain e workers step limit o
      → IsCompletion m options.grain e workers (step_of e options) limit o
  completion_as_counted m workers limit o h =
      subst (λ n. IsCompletion m options.grain e workers n limit o) step_is (subst (λ (g : Grain). IsCompletion m g e workers step limit o) grain_is h)

  pub fault_as_counted : (m : Measure) (limit : ℕ) (fault : CountFault) → IsCompletionFault m s.grain e step limit fault
      → IsCompletionFault m options.grain e (step_of e options) limit fault
  fault_as_counted m limit fault h =
      subst (λ n. IsCompletionFault m options.grain e n limit fault) step_is (subst (λ (g : Grain). IsCompletionFault m g e step limit fault) grain_is h)

-- the step of options in their ranges is small
pub step_small : (options : CountOptions) → refusal_of options ≡ None → options.step ≤ largest_step
step_small options in_range =
    let tests = all_in_range (is_worker_count options.workers) (nat_le 1 options.step && nat_le options.step largest_step) (nat_le options.max_raises most_raises) in_range in
    leb-true options.step largest_step (and_parts _ _ tests.1.0).1

-- with shares the share is the opening one, raised
pub share_with_add1 : (options : CountOptions) → options.completion ≡ Add1 → (e : ElectionView) (raises : ℕ)
    → share_by options.completion options.grain e (step_of e options) raises ≡ share_after options.grain e (step_of e options) raises
share_with_add1 options add1 e raises = ap (λ c. share_by c options.grain e (step_of e options) raises) add1

-- and without them it is no larger
pub share_within : (c : Completion) (grain : Grain) (e : ElectionView) (step raises : ℕ) → share_by c grain e step raises ≤ opening_share grain e + raises * step
share_within Plain grain e step raises = omega arith
share_within Add1 grain e step raises = omega arith
share_within NoShares grain e step raises = omega arith

-- in hundredths nothing is too large
pub hundredths_fit : (e : ElectionView) (options : CountOptions) → IsElection e → refusal_of options ≡ None → options.grain ≡ Hundredths → is_too_fine e options ≡ false
hundredths_fit e options h in_range whole = rw whole (or_from _ _
    (lt-leb (2 ^ 64) (share_by options.completion Hundredths e options.step options.max_raises)
    (let within = share_within options.completion Hundredths e options.step options.max_raises in
    let tests = all_in_range (is_worker_count options.workers) (nat_le 1 options.step && nat_le options.step largest_step) (nat_le options.max_raises most_raises) in_range in
    let few = leb-true options.max_raises most_raises tests.1.1 in
    let low : options.max_raises * options.step ≤ most_raises * options.step = mul-le-mul_right options.step few in
    let opening = opening_of_hundredths e h.budget_bounded in
    omega (arith, within, low, opening, step_small options in_range)))
    (none_too_fine Hundredths e (λ k d below. (let small = (h.are_projects k d below).affordable in omega (arith, small)))))

-- what too fine means, in its words
pub fine_in_words : (e : ElectionView) (options : CountOptions) → is_too_fine e options ≡ false
    → (share_by options.completion options.grain e (step_of e options) options.max_raises < 2 ^ 64)
    × All (λ p. in_parts options.grain (length e.voters) p.cost < 2 ^ 64) e.projects
fine_in_words e options fine = (share_fits e options fine options.completion refl, costs_fit options.grain e (no_too_fine_cost e options fine))

pub words_are_fine : (e : ElectionView) (options : CountOptions) → (share_by options.completion options.grain e (step_of e options) options.max_raises < 2 ^ 64)
    × All (λ p. in_parts options.grain (length e.voters) p.cost < 2 ^ 64) e.projects → is_too_fine e options ≡ false
words_are_fine e options (share, costs) =
    or_from _ _ (lt-leb (2 ^ 64) (share_by options.completion options.grain e (step_of e options) options.max_raises) share) (none_too_fine options.grain e costs)

module _ (e : ElectionView) (options : CountOptions) (o : OutcomeView) where
  priced_at_share : (share raised : ℕ) → IsOutcomeAt options.measure (support_in options.grain e) options.workers share raised o
      → HasPricing options.measure (support_in options.grain e) options.workers o.share o.elected o.priced
  priced_at_share share raised h =
      subst (λ (x : Settled). HasPricing options.measure (support_in options.grain e) options.workers x.share x.elected o.priced) (sym h.settled_is)
      (has_pricing options.measure (support_in options.grain e) h.is_support options.workers share o.priced h.priced)

  run_at : (share raised : ℕ) → IsOutcomeAt options.measure (support_in options.grain e) options.workers share raised o
      → IsRun options.measure (support_in options.grain e) o.share o.elected o.rests
  run_at share raised h =
      subst (λ (x : Settled). IsRun options.measure (support_in options.grain e) x.share x.elected x.rests) (sym h.settled_is)
      (words_of_run options.measure (support_in options.grain e) share h.is_support)

  -- a count that raises no share, where the shares are together within the budget
  unraised_counted : (refusal_of options ≡ None) × (is_too_fine e options ≡ false) → options.completion ≢ Add1 → (share : ℕ) → share_by options.completion options.grain e (step_of e options) 0 ≡ share
      → length e.voters * share ≤ in_parts options.grain (length e.voters) e.budget → IsOutcomeAt options.measure (support_in options.grain e) options.workers share 0 o → IsCountOf e options o
  unraised_counted in_range unraised share share_is small h = record {
    in_range = in_range;
    run_is = run_at share 0 h;
    priced = priced_at_share share 0 h;
    within_budget = settled_within options.measure options.grain e share 0 (shares_not_over options.measure options.grain e h.is_support share small) o h.settled_is;
    share_is = ap (λ (x : Settled). x.share) h.settled_is ∙ sym share_is
        ∙ ap (λ n. share_by options.completion options.grain e (step_of e options) n) (sym (ap (λ (x : Settled). x.raised) h.settled_is));
    unraised = λ _. ap (λ (x : Settled). x.raised) h.settled_is;
    completed = λ add1. absurd (unraised add1);
    price_system = settled_priced options.measure options.grain e h.is_support share 0 o h.settled_is;
  }

  -- the count at the opening share
  pub plain_counted : (refusal_of options ≡ None) × (is_too_fine e options ≡ false) → options.completion ≡ Plain
      → IsOutcomeAt options.measure (support_in options.grain e) options.workers (share_after options.grain e (step_of e options) 0) 0 o → IsCountOf e options o
  plain_counted in_range plain h =
      let same : share_after options.grain e (step_of e options) 0 ≡ opening_share options.grain e = omega arith in
      unraised_counted in_range (λ add1. absurd (cc (plain, add1))) (share_after options.grain e (step_of e options) 0) (ap (λ c. share_by c options.grain e (step_of e options) 0) plain ∙ sym same)
      (rw same (opening_within options.grain e)) h

  -- the count without shares
  pub no_shares_counted : (refusal_of options ≡ None) × (is_too_fine e options ≡ false) → options.completion ≡ NoShares → (s : SupportView) → s ≡ support_in options.grain e
      → IsOutcomeAt options.measure s options.workers 0 0 o → IsCountOf e options o
  no_shares_counted in_range none s same h =
      unraised_counted in_range (λ add1. absurd (cc (none, add1))) 0 (ap (λ c. share_by c options.grain e (step_of e options) 0) none) (omega arith)
      (subst (λ (t : SupportView). IsOutcomeAt options.measure t options.workers 0 0 o) same h)

  -- the count that is completed by raises
  pub add1_counted : (refusal_of options ≡ None) × (is_too_fine e options ≡ false) → options.completion ≡ Add1
      → IsCompletion options.measure options.grain e options.workers (step_of e options) options.max_raises o → IsCountOf e options o
  add1_counted in_range add1 h = let share = share_after options.grain e (step_of e options) o.raised in record {
    in_range = in_range;
    run_is = run_at share o.raised h.ended;
    priced = priced_at_share share o.raised h.ended;
    within_budget = settled_within options.measure options.grain e share o.raised
        (add1_not_over options.measure options.grain e h.ended.is_support (step_of e options) options.max_raises o.raised h.decided) o h.ended.settled_is;
    share_is = ap (λ (x : Settled). x.share) h.ended.settled_is ∙ sym (share_with_add1 options add1 e o.raised);
    unraised = λ unraised. absurd (unraised add1);
    completed = λ _. add1_completed options.measure options.grain e h.ended.is_support (step_of e options) options.max_raises o.raised h.decided;
    price_system = settled_priced options.measure options.grain e h.ended.is_support share o.raised o h.ended.settled_is;
  }

-- why a count that is completed by raises gives no outcome
pub add1_fault : (e : ElectionView) (options : CountOptions) → IsSupport (support_in options.grain e) → (refusal_of options ≡ None) × (is_too_fine e options ≡ false) → options.completion ≡ Add1 → (fault : CountFault)
    → IsCompletionFault options.measure options.grain e (step_of e options) options.max_raises fault → IsCountFault e options fault
add1_fault e options support in_range add1 WorkerCount h = absurd h
add1_fault e options support in_range add1 StepRange h = absurd h
add1_fault e options support in_range add1 RaisesRange h = absurd h
add1_fault e options support in_range add1 RaisesSpent h = (in_range.0, in_range.1, add1, undecided_is_spent options.measure options.grain e (step_of e options) options.max_raises support h)
add1_fault e options support in_range add1 NoMemory h = in_range
add1_fault e options support in_range add1 TooFine h = absurd h

-- the count as it is computed
count_by : (e : ElectionView) (options : CountOptions) (c : Completion) → options.completion ≡ c → (raises : Option ℕ)
    → raises_of c options.measure options.grain e (step_of e options) options.max_raises ≡ raises
    → count_of e options ≡ option_map (settled_after options.completion options.measure options.grain e (step_of e options)) raises
count_by e options c is raises raises_are =
    let after = settled_after options.completion options.measure options.grain e (step_of e options) in
    ap (λ k. option_map after (raises_of k options.measure options.grain e (step_of e options) options.max_raises)) is ∙ ap (option_map after) raises_are

-- an outcome that is promised is the computed one
raised_as : (e : ElectionView) (options : CountOptions) (o : OutcomeView) → IsCountOf e options o → (c : Completion) → options.completion ≡ c
    → raises_of c options.measure options.grain e (step_of e options) options.max_raises ≡ Some o.raised
raised_as e options o h Plain is = ap (λ n. Some n) (sym (h.unraised (λ add1. absurd (cc (is, add1)))))
raised_as e options o h NoShares is = ap (λ n. Some n) (sym (h.unraised (λ add1. absurd (cc (is, add1)))))
raised_as e options o h Add1 is = completed_is_decided options.measure options.grain e (step_of e options) options.max_raises o.raised (h.completed is)

-- the outcome that is promised, as the computed run gives it
pub settled_run : (e : ElectionView) (options : CountOptions) (o : OutcomeView) → IsCountOf e options o
    → settled o ≡ settled_by o.share o.raised (outcome_of options.measure options.grain e o.share)
settled_run e options o h =
    ap (settled_by o.share o.raised) (only_run options.measure (support_in options.grain e) o.share (record { elected = o.elected; rests = o.rests }) h.run_is)

pub is_computed : (e : ElectionView) (options : CountOptions) (o : OutcomeView) → IsCountOf e options o → count_of e options ≡ Some (settled o)
is_computed e options o h =
    count_by e options options.completion refl (Some o.raised) (raised_as e options o h options.completion refl)
    ∙ ap (λ n. Some (settled_by n o.raised (outcome_of options.measure options.grain e n))) (sym h.share_is)
    ∙ ap (λ (x : Settled). Some x) (sym (settled_run e options o h))

pub one_outcome : (e : ElectionView) (options : CountOptions) (first second : OutcomeView) → IsCountOf e options first → IsCountOf e options second
    → first ≡ record second { priced = first.priced }
one_outcome e options first second of_first of_second =
    ap (λ (s : Settled). record { share = s.share; raised = s.raised; elected = s.elected; rests = s.rests; priced = first.priced })
    (same_Some _ _ (sym (is_computed e options first of_first) ∙ is_computed e options second of_second))

-- where the raises are spent no outcome is computed, and the other way round
pub spent_is_none : (e : ElectionView) (options : CountOptions) → IsCountFault e options RaisesSpent → count_of e options ≡ None
spent_is_none e options h =
    count_by e options Add1 h.2 None (spent_is_undecided options.measure options.grain e (step_of e options) options.max_raises h.3)

none_is_settled : {X Y : Type 0} (f : X → Y) (o : Option X) → option_map f o ≡ None → o ≡ None
none_is_settled f None e = refl
none_is_settled f (Some x) e = absurd (none-some _ (sym e))

none_raised : (e : ElectionView) (options : CountOptions) → IsSupport (support_in options.grain e) → (c : Completion) → options.completion ≡ c
    → raises_of c options.measure options.grain e (step_of e options) options.max_raises ≡ None
    → (options.completion ≡ Add1) × AreSpent options.measure options.grain e (step_of e options) options.max_raises
none_raised e options support Plain is none = absurd (none-some _ (sym none))
none_raised e options support NoShares is none = absurd (none-some _ (sym none))
none_raised e options support Add1 is none = (is, undecided_is_spent options.measure options.grain e (step_of e options) options.max_raises support none)

pub none_is_spent : (e : ElectionView) (options : CountOptions) → IsSupport (support_in options.grain e) → refusal_of options ≡ None → is_too_fine e options ≡ false → count_of e options ≡ None → IsCountFault e options RaisesSpent
none_is_spent e options support in_range fine none =
    let spent = none_raised e options support options.completion refl (none_is_settled (settled_after options.completion options.measure options.grain e (step_of e options)) _ none) in
    (in_range, fine, spent.0, spent.1)

-- what a run at a share promises of its outcome
pub record IsShared (m : Measure) (grain : Grain) (e : ElectionView) (workers share : ℕ) (o : OutcomeView) : Type 0 where
  pub outcome : (o.share ≡ share) × (o.raised ≡ 0) × IsRun m (support_in grain e) share o.elected o.rests
  pub priced : HasPricing m (support_in grain e) workers share o.elected o.priced
  pub one_more : length o.priced ≡ length o.elected + 1
  pub price_system : HasPriceSystem (support_in grain e) share o.elected o.rests

pub shared_from_run : (m : Measure) (grain : Grain) (e : ElectionView) (s : SupportView) → s ≡ support_in grain e → (workers share : ℕ) (o : OutcomeView)
    → IsOutcomeAt m s workers share 0 o → IsShared m grain e workers share o
shared_from_run m grain e s same workers share o h = record {
  outcome = (
    ap (λ (x : Settled). x.share) h.settled_is,
    ap (λ (x : Settled). x.raised) h.settled_is,
    subst (λ (x : Settled). IsRun m (support_in grain e) share x.elected x.rests) (sym h.settled_is)
        (subst (λ (t : SupportView). IsRun m t share (run_of m s share).elected (run_of m s share).rests) same (words_of_run m s share h.is_support)),
  );
  priced = subst (λ (x : Settled). HasPricing m (support_in grain e) workers share x.elected o.priced) (sym h.settled_is)
      (subst (λ (t : SupportView). HasPricing m t workers share (run_of m s share).elected o.priced) same
      (has_pricing m s h.is_support workers share o.priced h.priced));
  one_more = one_more_priced m s workers share 0 o h.settled_is h.priced;
  price_system = settled_has_price_system m grain e s same h.is_support share 0 o h.settled_is;
}
