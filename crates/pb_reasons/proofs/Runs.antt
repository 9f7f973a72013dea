-- How many runs a count rests on, and that a count can make them.
use Rattle.std.proofs.Common.{◌≡◌, ◌≢◌, ◌≤◌, ◌<◌, ◌+◌, ◌-◌, ◌*◌, ◌∙◌, ℕ, Bool, true, false, None, Option, Some, ap, arith, inl, inr, is_some, refl, subst, sym}
use Rattle.std.specs.Prelude.{if◌then◌else◌, nat_le, not}
use Rattle.std.proofs.lemmas.Bool.{cases_eq, le-leb, leb-true}
use Rattle.std.proofs.lemmas.Option.{none-some}
use Rattle.pb_core.specs.Election.{ElectionView}
use Rattle.pb_price.specs.Price.{largest_share}
use Rattle.pb_price.specs.Supporters.{support_in}
use Rattle.pb_rounds.specs.Cheapest.{IsRun}
use Rattle.pb_rounds.specs.Completed.{GoesOn, IsCompleted, IsExhausted}
use Rattle.pb_rounds.specs.Count.{count_of, is_too_fine, opening_share, share_by, step_of}
use Rattle.pb_rounds.specs.CountFault.{most_raises, refusal_of}
use Rattle.pb_rounds.specs.Counted.{IsCountFault, IsCountOf}
use Rattle.pb_rounds.specs.Outcome.{OutcomeView, Settled}
use Rattle.pb_rounds.specs.declared.count_fault.CountFault.TheVariants.{WorkerCount, StepRange, RaisesRange, RaisesSpent}
use Rattle.pb_rounds.specs.declared.options.Completion.{Completion}
use Rattle.pb_rounds.specs.declared.options.Completion.TheVariants.{Plain, Add1, NoShares}
use Rattle.pb_rounds.specs.declared.options.CountOptions.{CountOptions}
use Rattle.pb_rounds.proofs.Counted.{fine_in_words, is_computed, none_is_spent, share_with_add1, spent_is_none, words_are_fine}
use Rattle.pb_rounds.proofs.RaisesEnd.{completed_is_decided, spent_is_undecided}
use Rattle.pb_reasons.specs.AllTies.{runs_of}
use Rattle.pb_reasons.specs.CountedElection.{CountedElectionView, IsCountedElection}
use Rattle.pb_reasons.proofs.AllTies.{few_raises, small_run_of, small_share}

-- a smaller limit of raises is in its range too
still_in_range : (a b c d : Bool) → (c ≡ true → d ≡ true)
    → (if not a then Some WorkerCount else if not b then Some StepRange else if not c then Some RaisesRange else None) ≡ None
    → (if not a then Some WorkerCount else if not b then Some StepRange else if not d then Some RaisesRange else None) ≡ None
still_in_range true true true d less h = rw (less refl) refl
still_in_range true true false d less h = cc
still_in_range true false c d less h = cc
still_in_range false b c d less h = cc

module _ (x : CountedElectionView) (is : IsCountedElection x) where
  abbrev e : ElectionView
  e = x.election

  abbrev o : OutcomeView
  o = x.counted.outcome

  abbrev options : CountOptions
  options = x.rule.options

  -- with no more raises than the answered one has
  abbrev fewer : CountOptions
  fewer = record options { max_raises = o.raised }

  abbrev computed : Option Settled
  computed = count_of e fewer

  few : o.raised ≤ options.max_raises
  few = few_raises e options o is.is_count options.completion refl

  in_range : refusal_of fewer ≡ None
  in_range =
      still_in_range _ _ (nat_le options.max_raises most_raises) (nat_le o.raised most_raises)
      (λ least. le-leb o.raised most_raises (let most = leb-true options.max_raises most_raises least in omega (arith, most, few))) is.is_count.in_range.0

  -- and nothing is too fine then
  fine : is_too_fine e fewer ≡ false
  fine =
      let within = small_run_of e options is.is_count.in_range.1 o.raised few in
      words_are_fine e fewer (omega (arith, within), (fine_in_words e options is.is_count.in_range.1).1)

  run_after : options.completion ≡ Add1 → IsRun options.measure (support_in options.grain e) (opening_share options.grain e + o.raised * step_of e options) o.elected o.rests
  run_after add1 =
      subst (λ share. IsRun options.measure (support_in options.grain e) share o.elected o.rests) (is.is_count.share_is ∙ share_with_add1 options add1 e o.raised) is.is_count.run_is

  counted_so : (options.completion ≡ Add1 → IsCompleted options.measure options.grain e (step_of e options) o.raised o.raised) → IsCountOf e fewer o
  counted_so completed = let h = is.is_count in record {
    in_range = (in_range, fine);
    share_is = h.share_is;
    run_is = h.run_is;
    unraised = h.unraised;
    completed = completed;
    within_budget = h.within_budget;
    price_system = h.price_system;
    priced = h.priced;
  }

  fewer_go_on : options.completion ≡ Add1 → (raises : ℕ) → raises < o.raised → GoesOn options.measure options.grain e (step_of e options) raises
  fewer_go_on add1 = (is.is_count.completed add1).fewer_go_on

  ended_here : (add1 : options.completion ≡ Add1) → IsExhausted (support_in options.grain e) e.budget o.elected → IsCompleted options.measure options.grain e (step_of e options) o.raised o.raised
  ended_here add1 exhausted = record {
    within_limit = omega arith;
    fewer_go_on = fewer_go_on add1;
    ends = inl (o.elected, o.rests, run_after add1, exhausted);
  }

  spent_here : (add1 : options.completion ≡ Add1) → (¬ IsExhausted (support_in options.grain e) e.budget o.elected) → IsCountFault e fewer RaisesSpent
  spent_here add1 not_exhausted = (
    in_range,
    fine,
    add1,
    λ raises within. elim (cases_eq raises o.raised) [
      | inl same ↦ subst (GoesOn options.measure options.grain e (step_of e options)) (sym same)
          (o.elected, o.rests, run_after add1, ((λ over. absurd (omega (arith, over, is.is_count.within_budget))), not_exhausted))
      | inr other ↦ fewer_go_on add1 raises (omega (arith, within, other))
    ],
  )

  -- the runs where the answered one ends the raises, and where it does not
  pub last_runs : (options.completion ≡ Add1 → IsExhausted (support_in options.grain e) e.budget o.elected) → runs_of x ≡ o.raised + 1
  last_runs exhausted =
      ap (λ (c : Option Settled). o.raised + (if is_some c then 1 else 2)) (is_computed e fewer o (counted_so (λ add1. ended_here add1 (exhausted add1))))

  pub more_runs : options.completion ≡ Add1 → (¬ IsExhausted (support_in options.grain e) e.budget o.elected) → runs_of x ≡ o.raised + 2
  more_runs add1 not_exhausted =
      ap (λ (c : Option Settled). o.raised + (if is_some c then 1 else 2)) (spent_is_none e fewer (spent_here add1 not_exhausted))

  -- each has no more raises than the options allow
  run_by : (c : Option Settled) → computed ≡ c → (run : ℕ) → run < o.raised + (if is_some c then 1 else 2) → run ≤ options.max_raises
  run_by (Some s) now run below = omega (arith, below, few)
  run_by None now run below =
      let fault = none_is_spent e fewer is.is_count.run_is.is_support in_range fine now in
      let completed = is.is_count.completed fault.2 in
      elim completed.ends [
        | inl ended ↦
            absurd (none-some _ (sym (spent_is_undecided options.measure options.grain e (step_of e options) o.raised fault.3)
            ∙ completed_is_decided options.measure options.grain e (step_of e options) o.raised o.raised
            (record { within_limit = omega arith; fewer_go_on = fewer_go_on fault.2; ends = inl ended })))
        | inr over ↦ omega (arith, below, over.1)
      ]

  pub run_allowed : (run : ℕ) → run < runs_of x → run ≤ options.max_raises
  run_allowed run below = run_by computed refl run below

  -- only where shares are raised is a run that is not the first
  run_first : (c : Option Settled) → computed ≡ c → options.completion ≢ Add1 → (run : ℕ) → run < o.raised + (if is_some c then 1 else 2) → run ≡ 0
  run_first (Some s) now none run below = let least = is.is_count.unraised none in omega (arith, below, least)
  run_first None now none run below = absurd (none (none_is_spent e fewer is.is_count.run_is.is_support in_range fine now).2)

  pub only_first : options.completion ≢ Add1 → (run : ℕ) → run < runs_of x → run ≡ 0
  only_first none run below = run_first computed refl none run below

  -- ---- the share of a run

  pub small_run : (run : ℕ) → run < runs_of x → share_by options.completion options.grain e (step_of e options) run ≤ largest_share
  small_run run below = small_run_of e options is.is_count.in_range.1 run (run_allowed run below)

  -- where shares are not raised there is the first run alone
  still : options.completion ≢ Add1 → (opening : ℕ) → o.share ≡ opening
      → (o.raised * step_of e options ≤ o.share) × ((run : ℕ) → run < runs_of x → o.share - o.raised * step_of e options + run * step_of e options ≡ opening)
  still apart opening share =
      let none : o.raised ≡ 0 = is.is_count.unraised apart in
      let zero_is : o.raised * step_of e options ≡ 0 = ap (λ n. n * step_of e options) none ∙ omega arith in (
        omega (arith, zero_is),
        λ run below.
            let first : run * step_of e options ≡ 0 = ap (λ n. n * step_of e options) (only_first apart run below) ∙ omega arith in
            omega (arith, share, zero_is, first),
      )

  share_parts : (c : Completion) → options.completion ≡ c → o.share ≡ share_by c options.grain e (step_of e options) o.raised
      → (o.raised * step_of e options ≤ o.share)
      × ((run : ℕ) → run < runs_of x → o.share - o.raised * step_of e options + run * step_of e options ≡ share_by c options.grain e (step_of e options) run)
  share_parts Plain now share = still (λ add1. absurd (cc (now, add1))) (opening_share options.grain e) share
  share_parts Add1 now share = (omega (arith, share), λ run below. omega (arith, share))
  share_parts NoShares now share = still (λ add1. absurd (cc (now, add1))) 0 share

  share_now : o.share ≡ share_by options.completion options.grain e (step_of e options) o.raised
  share_now = is.is_count.share_is

  pub raised_within : o.raised * step_of e options ≤ o.share
  raised_within = (share_parts options.completion refl share_now).0

  pub share_of_run : (run : ℕ) → run < runs_of x → o.share - o.raised * step_of e options + run * step_of e options ≡ share_by options.completion options.grain e (step_of e options) run
  share_of_run = (share_parts options.completion refl share_now).1

  -- no amount of raises is above the largest share
  pub small_amounts : o.raised * step_of e options ≤ largest_share
  small_amounts = omega (arith, raised_within, small_share e options o is.is_count)

  pub small_amount : (run : ℕ) → run < runs_of x → run * step_of e options ≤ largest_share
  small_amount run below = omega (arith, share_of_run run below, small_run run below)
