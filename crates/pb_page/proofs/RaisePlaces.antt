-- The projects that a raise more would elect, and those that it would elect no more, are projects of the election.
use Rattle.std.proofs.Common.{◌≡◌, ◌∙◌, ◌∷◌, ◌++◌, Bool, ℕ, suc, ◌<◌, List, ap, arith, drop, drop-cons, get_or, length, not, subst, sym, take}
use Rattle.std.specs.Prelude.{All, ⊤, filter}
use Rattle.std.proofs.lemmas.List.{length-map, take-append-drop}
use Rattle.std.proofs.lemmas.List.Elements.{All-filter, All-map}
use Rattle.pb_core.specs.Election.{ElectionView}
use Rattle.pb_price.specs.Supporters.{support_in}
use Rattle.pb_price.specs.declared.grain.Grain.{Grain}
use Rattle.pb_reasons.specs.RaiseEnd.{IsRaiseEnd}
use Rattle.pb_reasons.specs.declared.raise_end.RaiseEnd.{RaiseEnd}
use Rattle.pb_reasons.specs.declared.raise_end.RaiseEnd.TheVariants.{Plain, Exhausted, Over}
use Rattle.pb_rounds.specs.Cheapest.{IsRun}
use Rattle.pb_rounds.specs.MostVotes.{is_taken}
use Rattle.pb_rounds.specs.Outcome.{OutcomeView}
use Rattle.pb_rounds.specs.Run.{ElectedView, is_elected}
use Rattle.pb_rounds.specs.declared.measure.Measure.{Measure}
use Rattle.pb_rounds.specs.declared.options.CountOptions.{CountOptions}
use Rattle.pb_page.specs.Inner.Counted.{KnowsPlaces}
use Rattle.pb_page.specs.Page.{beside}

pub beside_are_known : (e : ElectionView) (taken places : List ℕ) → All (λ place. place < length e.projects) places
    → All (λ place. place < length e.projects) (beside taken places)
beside_are_known e taken places known = All-filter (λ place. not (is_taken taken place)) (λ place. place < length e.projects) places known

-- a run elects projects of the election
run_is_known : (m : Measure) (grain : Grain) (e : ElectionView) (share : ℕ) (elected : List ElectedView) (rests : List ℕ)
    → IsRun m (support_in grain e) share elected rests → All (λ w. w.place < length e.projects) elected
run_is_known m grain e share elected rests run = λ k d below.
    let count : length (support_in grain e).costs ≡ length e.projects = simp length-map in
    let here : elected ≡ take k elected ++ get_or elected k d ∷ drop (suc k) elected =
    sym (take-append-drop k elected) ∙ ap (λ (l : List ElectedView). take k elected ++ l) (drop-cons elected k d below) in
    omega (arith, count, (run.cheapest (take k elected) (get_or elected k d) (drop (suc k) elected) here).was_left.0)

-- what a raise more would change, by cases
abbrev Changes : ElectionView → RaiseEnd → Type 0
Changes e Plain = ⊤
Changes e Exhausted = ⊤
Changes e (Over next) = All (λ place. place < length e.projects) next.only_then.items
    × All (λ place. place < length e.projects) next.no_more.items

changes_are_known : (e : ElectionView) (options : CountOptions) (o : OutcomeView) (end : RaiseEnd) → All (λ w. w.place < length e.projects) o.elected
    → IsRaiseEnd e options o end → Changes e end
changes_are_known e options o Plain known h = tt
changes_are_known e options o Exhausted known h = tt
changes_are_known e options o (Over next) known (add1, not_yet, share, over, (elected, rests, run, (cost, only_then, no_more))) =
    let by_run = run_is_known options.measure options.grain e _ elected rests run in
    let IsKnown : ℕ → Type 0 = λ place. place < length e.projects in
    let place : ElectedView → ℕ = λ w. w.place in
    let is_new : ElectedView → Bool = λ w. not (is_elected o.elected w.place) in
    let is_gone : ElectedView → Bool = λ w. not (is_elected elected w.place) in
    let Known : List ℕ → Type 0 = λ places. All IsKnown places in (
      subst Known (sym only_then) (All-map IsKnown place (filter is_new elected) (All-filter is_new (λ w. IsKnown w.place) elected by_run)),
      subst Known (sym no_more) (All-map IsKnown place (filter is_gone o.elected) (All-filter is_gone (λ w. IsKnown w.place) o.elected known)),
    )

pub places_are_known : (e : ElectionView) (options : CountOptions) (o : OutcomeView) (end : RaiseEnd) → All (λ w. w.place < length e.projects) o.elected
    → IsRaiseEnd e options o end → KnowsPlaces e end
places_are_known e options o end known h = λ next is. subst (Changes e) is (changes_are_known e options o end known h)
