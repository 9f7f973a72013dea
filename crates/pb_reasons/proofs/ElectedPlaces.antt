-- The outcome of a count elects projects of the election, at most as many as there are.
use Rattle.std.proofs.Common.{◌≡◌, ℕ, zero, suc, ◌<◌, ◌≤◌, List, [], length, true, Option, Some, None, refl, sym, ◌∙◌, ap, arith}
use Rattle.std.specs.Prelude.{All, AllPairs, option_map, replicate}
use Rattle.std.specs.List.{range_with_len}
use Rattle.std.specs.Option.{option_map_or}
use Rattle.std.proofs.lemmas.Bool.{true≢false}
use Rattle.std.proofs.lemmas.List.{length-map}
use Rattle.std.proofs.lemmas.List.Kept.{AllPairs-cons}
use Rattle.std.proofs.lemmas.List.Elements.{All-cons, All-nil}
use Rattle.std.proofs.lemmas.Option.{none-some, same_Some}
use Rattle.pb_core.specs.Election.{ElectionView}
use Rattle.pb_price.specs.Price.{due}
use Rattle.pb_price.specs.Supporters.{SupportView, supporters_at, support_in}
use Rattle.pb_price.specs.declared.grain.Grain.{Grain}
use Rattle.pb_rounds.proofs.BestKey.{best_is_key}
use Rattle.pb_rounds.proofs.Listed.{RisesWithin-below, is_listed-without_same, listed-below, listed_from_without, range_rises}
use Rattle.pb_rounds.specs.Count.{count_of, raises_of, share_by, step_of}
use Rattle.pb_rounds.specs.Key.{KeyView}
use Rattle.pb_rounds.specs.Outcome.{Settled, settled_by}
use Rattle.pb_rounds.specs.Inner.Listed.{is_listed}
use Rattle.pb_rounds.specs.Run.{ElectedView, best_of, charged, elected_by, outcome_of, run_from, run_of, then_run, without}
use Rattle.pb_rounds.specs.declared.measure.Measure.{Measure}
use Rattle.pb_rounds.specs.declared.options.CountOptions.{CountOptions}
use Rattle.pb_reasons.specs.Inner.Told.{AreApart}

-- at most this many are elected, all from those that were left, and no two are the same
pub record IsDrawn (rounds : ℕ) (left : List ℕ) (elected : List ElectedView) : Type 0 where
  pub few : length elected ≤ rounds
  pub listed : All (λ w. is_listed left w.place ≡ true) elected
  pub apart : AllPairs AreApart elected

none_drawn : (rounds : ℕ) (left : List ℕ) → IsDrawn rounds left []
none_drawn rounds left = record { few = omega arith; listed = All-nil (λ w. is_listed left w.place ≡ true); apart = λ i j d before below. absurd (omega arith) }

run_is_drawn : (m : Measure) (s : SupportView) (rounds : ℕ) (rests left : List ℕ) → IsDrawn rounds left (run_from m s rounds rests left).elected
unfolding run_from
run_is_drawn m s zero rests left = none_drawn zero left
run_is_drawn m s (suc rounds) rests left = by_best (best_of m s rests left) refl (run_is_drawn m s rounds)
  where
    by_best : (best : Option KeyView) → best_of m s rests left ≡ best
        → ((rests left : List ℕ) → IsDrawn rounds left (run_from m s rounds rests left).elected)
        → IsDrawn (suc rounds) left (option_map_or (λ b. then_run (elected_by s rests b) (run_from m s rounds (charged (supporters_at s b.place) (due b.price) rests) (without b.place left))) best (record { elected = []; rests = rests })).elected
    by_best None e later = none_drawn (suc rounds) left
    by_best (Some b) e later =
        let drawn = later (charged (supporters_at s b.place) (due b.price) rests) (without b.place left) in
        record {
          few = omega (arith, drawn.few);
          listed = All-cons (λ w. is_listed left w.place ≡ true) _ _ (best_is_key m s rests left b e).is_left
              (λ k d below. listed_from_without left b.place _ (drawn.listed k d below));
          apart = AllPairs-cons AreApart _ _
              (λ k d below same. true≢false (sym (drawn.listed k d below) ∙ ap (is_listed (without b.place left)) (sym same) ∙ is_listed-without_same left b.place)) drawn.apart;
        }

-- the elected are projects of the election, at most as many as there are
pub record AreProjects (e : ElectionView) (elected : List ElectedView) : Type 0 where
  pub known : All (λ w. w.place < length e.projects) elected
  pub few : length elected ≤ length e.projects
  pub apart : AllPairs AreApart elected

pub run_elects_projects : (m : Measure) (grain : Grain) (e : ElectionView) (share : ℕ) → AreProjects e (outcome_of m grain e share).elected
unfolding run_of
run_elects_projects m grain e share =
    let s = support_in grain e in
    let n = length s.costs in
    let count : n ≡ length e.projects = simp length-map in
    let drawn = run_is_drawn m s n (replicate s.voters share) (range_with_len 0 n) in
    record {
      known = λ k d below. omega (arith, listed-below (range_with_len 0 n) n _ (RisesWithin-below _ 0 n (range_rises 0 n n (omega arith))) (drawn.listed k d below));
      few = omega (arith, drawn.few);
      apart = drawn.apart;
    }

settled_elects_projects : (m : Measure) (grain : Grain) (e : ElectionView) (shares : ℕ → ℕ) (raises : Option ℕ) (o : Settled)
    → option_map (λ r. settled_by (shares r) r (outcome_of m grain e (shares r))) raises ≡ Some o → AreProjects e o.elected
settled_elects_projects m grain e shares None o same = absurd (none-some _ same)
settled_elects_projects m grain e shares (Some raises) o same =
    rw (← ap (λ (o : Settled). o.elected) (same_Some _ _ same)) (run_elects_projects m grain e (shares raises))

pub count_elects_projects : (e : ElectionView) (options : CountOptions) (o : Settled) → count_of e options ≡ Some o → AreProjects e o.elected
count_elects_projects e options o counted = settled_elects_projects options.measure options.grain e (share_by options.completion options.grain e (step_of e options))
    (raises_of options.completion options.measure options.grain e (step_of e options) options.max_raises) o counted
