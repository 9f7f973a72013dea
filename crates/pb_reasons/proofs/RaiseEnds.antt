-- Why the raises of a count ended.
use Rattle.std.proofs.Common.{◌≡◌, ℕ, ◌+◌, ◌*◌, ◌<◌, ◌≤◌, ◌^◌, Bool, true, false, not, List, [], ◌∷◌, ◌++◌, length, map, get_or, take, cond, refl, sym, subst, ◌∙◌, ap, inl, inr, arith}
use Rattle.std.specs.Prelude.{All, filter}
use Rattle.std.proofs.lemmas.Bool.{true≢false}
use Rattle.std.proofs.lemmas.List.{append-nil, map-append}
use Rattle.std.proofs.lemmas.List.Elements.{filter_more}
use Rattle.std.proofs.Math.Nat.{mul-le-mul_right}
use Rattle.pb_core.specs.Election.{ElectionView, IsElection}
use Rattle.pb_rounds.specs.MostVotes.{is_taken}
use Rattle.pb_price.specs.Price.{largest_share}
use Rattle.pb_price.specs.Supporters.{SupportView, support_in, support_of}
use Rattle.pb_price.specs.declared.grain.Grain.{Grain}
use Rattle.pb_rounds.proofs.Counted.{add1_fits, share_with_add1}
use Rattle.pb_rounds.proofs.RunIs.{only_run}
use Rattle.pb_rounds.proofs.TrialRounds.{spent_small}
use Rattle.pb_rounds.specs.Cheapest.{IsRun}
use Rattle.pb_rounds.specs.Completed.{After, GoesOn, IsExhausted}
use Rattle.pb_rounds.specs.Count.{opening_share, spent_on, step_of}
use Rattle.pb_rounds.specs.Counted.{IsCountOf}
use Rattle.pb_rounds.specs.Outcome.{OutcomeView}
use Rattle.pb_rounds.specs.Run.{ElectedView, RunView, is_elected}
use Rattle.pb_rounds.specs.declared.measure.Measure.{Measure}
use Rattle.pb_rounds.specs.declared.options.Completion.TheVariants.{Add1}
use Rattle.pb_rounds.specs.declared.options.CountOptions.{CountOptions}
use Rattle.pb_reasons.specs.RaiseEnd.{IsRaiseEnd}
use Rattle.pb_reasons.specs.declared.raise_end.NextRaise.{NextRaise}
use Rattle.pb_reasons.specs.declared.raise_end.RaiseEnd.TheVariants.{Over}
use Rattle.pb_reasons.proofs.AllWinners.{elected_are_taken}
use Rattle.pb_reasons.proofs.ElectedPlaces.{AreProjects, run_elects_projects}

-- those of the elected that are not taken, with one more
pub one_kept : (p : ElectedView → Bool) (elected : List ElectedView) (i : ℕ) (w : ElectedView) → i < length elected → w ≡ get_or elected i w → p w ≡ true
    → map (λ v. v.place) (filter p (take (i + 1) elected)) ≡ map (λ v. v.place) (filter p (take i elected)) ++ w.place ∷ []
one_kept p elected i w below here kept =
    let place : ElectedView → ℕ = λ v. v.place in
    ap (map place) (filter_more p elected i w below ∙ ap (λ b. filter p (take i elected) ++ cond b (get_or elected i w ∷ []) []) (ap p (sym here) ∙ kept))
    ∙ map-append place (filter p (take i elected)) (get_or elected i w ∷ [])
    ∙ ap (λ (v : ElectedView). map place (filter p (take i elected)) ++ v.place ∷ []) (sym here)

pub one_left_out : (p : ElectedView → Bool) (elected : List ElectedView) (i : ℕ) (w : ElectedView) → i < length elected → w ≡ get_or elected i w → p w ≡ false
    → map (λ v. v.place) (filter p (take (i + 1) elected)) ≡ map (λ v. v.place) (filter p (take i elected))
one_left_out p elected i w below here out =
    ap (map (λ v. v.place))
    (filter_more p elected i w below ∙ ap (λ b. filter p (take i elected) ++ cond b (get_or elected i w ∷ []) []) (ap p (sym here) ∙ out)
    ∙ append-nil (filter p (take i elected)))

-- who is not elected is not taken
pub not_elected_are_free : (now : List ElectedView) (taken : List ℕ) → taken ≡ map (λ w. w.place) now → (next : List ElectedView)
    → map (λ w. w.place) (filter (λ w. not (is_taken taken w.place)) next) ≡ map (λ w. w.place) (filter (λ w. not (is_elected now w.place)) next)
not_elected_are_free now taken are [] = refl
not_elected_are_free now taken are (w ∷ next) =
    let place : ElectedView → ℕ = λ v. v.place in
    let same : is_taken taken w.place ≡ is_elected now w.place = ap (λ l. is_taken l w.place) are ∙ sym (elected_are_taken now w.place) in
    let later = not_elected_are_free now taken are next in
    kept_same (is_taken taken w.place) (is_elected now w.place) same later
  where
    kept_same : (b c : Bool) → b ≡ c
        → map (λ w. w.place) (filter (λ w. not (is_taken taken w.place)) next) ≡ map (λ w. w.place) (filter (λ w. not (is_elected now w.place)) next)
        → map (λ w. w.place) (cond (not b) (w ∷ filter (λ w. not (is_taken taken w.place)) next) (filter (λ w. not (is_taken taken w.place)) next))
        ≡ map (λ w. w.place) (cond (not c) (w ∷ filter (λ w. not (is_elected now w.place)) next) (filter (λ w. not (is_elected now w.place)) next))
    kept_same true true e later = later
    kept_same false false e later = ap (λ l. w.place ∷ l) later
    kept_same true false e later = absurd (true≢false e)
    kept_same false true e later = absurd (true≢false (sym e))

-- whom a run elects are projects of the election, and what they cost together is below the bound of 64 bits
pub record CanBeSummed (e : ElectionView) (elected : List ElectedView) : Type 0 where
  pub known : All (λ w. w.place < length e.projects) elected
  pub fits : spent_on (support_of e) elected < 2 ^ 64

pub run_can_be_summed : (m : Measure) (grain : Grain) (e : ElectionView) (share : ℕ) (elected : List ElectedView) (rests : List ℕ) → IsElection e
    → IsRun m (support_in grain e) share elected rests → CanBeSummed e elected
run_can_be_summed m grain e share elected rests h run =
    let computed = only_run m (support_in grain e) share (record { elected = elected; rests = rests }) run in
    let are : AreProjects e elected = subst (AreProjects e) (sym (ap (λ (r : RunView). r.elected) computed)) (run_elects_projects m grain e share) in
    record {
      known = are.known;
      fits = omega (arith, spent_small (support_in grain e) run.is_support elected, are.few, h.few_projects);
    }

-- two runs at one share elect the same
pub same_elected : (m : Measure) (s : SupportView) (share : ℕ) (one two : RunView) → IsRun m s share one.elected one.rests → IsRun m s share two.elected two.rests
    → one.elected ≡ two.elected
same_elected m s share one two of_one of_two = ap (λ (r : RunView). r.elected) (only_run m s share one of_one ∙ sym (only_run m s share two of_two))

module _ (e : ElectionView) (options : CountOptions) (o : OutcomeView) (h : IsCountOf e options o) where
  -- with Add1 the share is the opening one, raised
  pub raised_share_is : options.completion ≡ Add1 → o.share ≡ opening_share options.grain e + o.raised * step_of e options
  raised_share_is add1 = h.share_is ∙ share_with_add1 options add1 e o.raised

  -- what holds of whom a run after so many raises elects, holds of whom this run at its share elects
  pub such_are : (raises share : ℕ) (run : RunView) (IsSuch : List ElectedView → Type 0) → share ≡ opening_share options.grain e + raises * step_of e options
      → IsRun options.measure (support_in options.grain e) share run.elected run.rests → After options.measure options.grain e (step_of e options) raises IsSuch → IsSuch run.elected
  such_are raises share run IsSuch share_is is (elected, rests, words, such) =
      let here = subst (λ (n : ℕ). IsRun options.measure (support_in options.grain e) n run.elected run.rests) share_is is in
      subst IsSuch (same_elected options.measure (support_in options.grain e) _ (record { elected = elected; rests = rests }) run words here) such

  next_of : GoesOn options.measure options.grain e (step_of e options) o.raised × (o.raised < options.max_raises)
      × After options.measure options.grain e (step_of e options) (o.raised + 1) (λ elected. e.budget < spent_on (support_in options.grain e) elected)
      → (o.raised < options.max_raises) × After options.measure options.grain e (step_of e options) (o.raised + 1) (λ elected. e.budget < spent_on (support_in options.grain e) elected)
  next_of (goes_on, below, over) = (below, over)

  -- one raise more than those of a completed count that is not exhausted is allowed, and is over the budget
  pub next_is_over : options.completion ≡ Add1 → ¬ IsExhausted (support_in options.grain e) e.budget o.elected
      → (o.raised < options.max_raises) × After options.measure options.grain e (step_of e options) (o.raised + 1) (λ elected. e.budget < spent_on (support_in options.grain e) elected)
  next_is_over add1 not_yet = elim (h.completed add1).ends [
    | inl now ↦ absurd (not_yet (such_are o.raised o.share (record { elected = o.elected; rests = o.rests }) (IsExhausted (support_in options.grain e) e.budget) (raised_share_is add1) h.run_is now))
    | inr next ↦ next_of next
  ]

  next_share_is : options.completion ≡ Add1 → o.share + step_of e options ≡ opening_share options.grain e + (o.raised + 1) * step_of e options
  next_share_is add1 = omega (arith, raised_share_is add1)

  pub next_share_small : options.completion ≡ Add1 → ¬ IsExhausted (support_in options.grain e) e.budget o.elected → o.share + step_of e options ≤ largest_share
  next_share_small add1 not_yet =
      let below = (next_is_over add1 not_yet).0 in
      let few : o.raised + 1 ≤ options.max_raises = omega (arith, below) in
      let more = mul-le-mul_right (step_of e options) few in
      omega (arith, next_share_is add1, add1_fits e options h.in_range.1 add1, more)

  -- the end that is told of one run more
  pub over_is_told : options.completion ≡ Add1 → ¬ IsExhausted (support_in options.grain e) e.budget o.elected → (next : RunView)
      → IsRun options.measure (support_in options.grain e) (o.share + step_of e options) next.elected next.rests
      → (raise : NextRaise) → raise.share ≡ o.share + step_of e options → raise.cost ≡ spent_on (support_of e) next.elected
      → raise.only_then.items ≡ map (λ w. w.place) (filter (λ w. not (is_elected o.elected w.place)) next.elected)
      → raise.no_more.items ≡ map (λ w. w.place) (filter (λ w. not (is_elected next.elected w.place)) o.elected)
      → IsRaiseEnd e options o (Over raise)
  over_is_told add1 not_yet next run raise share cost only_then no_more =
      let over = such_are (o.raised + 1) _ next (λ elected. e.budget < spent_on (support_in options.grain e) elected) (next_share_is add1) run (next_is_over add1 not_yet).1 in
      let here = subst (λ (n : ℕ). IsRun options.measure (support_in options.grain e) n next.elected next.rests) (next_share_is add1) run in
      (add1, not_yet, share, omega (arith, over, cost), (next.elected, next.rests, here, (cost, only_then, no_more)))
