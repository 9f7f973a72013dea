-- How far a run has come: what is elected, followed by a run from here, is the whole run.
use Rattle.std.proofs.Common.{◌≡◌, ℕ, zero, suc, ◌<◌, ◌≤◌, List, [], ◌∷◌, ◌++◌, length, replicate, Some, None, refl, sym, ◌∙◌, ap, arith}
use Rattle.std.specs.List.{range_with_len}
use Rattle.std.specs.Option.{option_map_or}
use Rattle.std.proofs.lemmas.List.{append-nil, append_assoc, length_push, length-replicate}
use Rattle.std.proofs.lemmas.List.Elements.{All-from_get_or, All-replicate}
use Rattle.std.proofs.lemmas.List.FromFn.{length-range_with_len}
use Rattle.pb_price.specs.Supporters.{SupportView, supporters_at}
use Rattle.pb_price.specs.Price.{AreRests, due, largest_share}
use Rattle.pb_rounds.specs.declared.measure.Measure.{Measure}
use Rattle.pb_rounds.specs.Key.{KeyView}
pub use Rattle.pb_rounds.specs.Inner.Progress.{Progress, after}
use Rattle.pb_rounds.specs.Outcome.{OutcomeView, settled, settled_by}
use Rattle.pb_rounds.specs.Run.{ElectedView, RunView, best_of, charged, elected_by, then_run, run_from, run_of, without}
use Rattle.pb_rounds.proofs.BestKey.{best_is_key}
use Rattle.pb_rounds.proofs.Charged.{charged_at, length-charged}
use Rattle.pb_rounds.proofs.Listed.{range_rises, RisesWithin-without, length-without_one}

-- a round that elects, and a round that does not
pub run_from-some : (m : Measure) (s : SupportView) (rests left : List ℕ) (b : KeyView) → best_of m s rests left ≡ Some b → (n : ℕ)
    → run_from m s (suc n) rests left ≡ then_run (elected_by s rests b) (run_from m s n (charged (supporters_at s b.place) (due b.price) rests) (without b.place left))
unfolding run_from
run_from-some m s rests left b e n =
    ap (λ best. option_map_or (λ b. then_run (elected_by s rests b) (run_from m s n (charged (supporters_at s b.place) (due b.price) rests) (without b.place left)))
    best (record { elected = []; rests = rests })) e

pub run_from-none : (m : Measure) (s : SupportView) (rests left : List ℕ) → best_of m s rests left ≡ None → (n : ℕ) → run_from m s n rests left ≡ record { elected = []; rests = rests }
unfolding run_from
run_from-none m s rests left e zero = refl
run_from-none m s rests left e (suc n) =
    ap (λ best. option_map_or (λ b. then_run (elected_by s rests b) (run_from m s n (charged (supporters_at s b.place) (due b.price) rests) (without b.place left)))
    best (record { elected = []; rests = rests })) e

-- rests do not rise
pub AreRests-charged : (voters : ℕ) (supporters : List ℕ) (price : ℕ) (rests : List ℕ) → AreRests voters rests → AreRests voters (charged supporters price rests)
AreRests-charged voters supporters price rests h = record {
  one_each = length-charged supporters price rests ∙ h.one_each;
  bounded = All-from_get_or (λ rest. rest ≤ largest_share) (charged supporters price rests) 0 (λ k below.
      let within : k < length rests = rw (sym (length-charged supporters price rests)) below in
      let bound = h.bounded k 0 within in
      omega (arith, charged_at supporters price rests k, bound));
}

pub progress_open : (m : Measure) (s : SupportView) (share raised : ℕ) → share ≤ largest_share
    → Progress m s share raised (range_with_len 0 (length s.costs))
    (record { share = share; raised = raised; elected = []; rests = replicate s.voters share; priced = [] })
unfolding run_of
progress_open m s share raised h = record {
  share_is = refl;
  raised_is = refl;
  whole = rw (length-range_with_len 0 (length s.costs)) refl;
  rests_are = record { one_each = length-replicate s.voters share; bounded = All-replicate (λ rest. rest ≤ largest_share) s.voters share h };
  rises = range_rises 0 (length s.costs) (length s.costs) (omega arith);
  counted = rw (length-range_with_len 0 (length s.costs)) (omega arith);
}

after-then : (elected : List ElectedView) (w : ElectedView) (run : RunView) → after elected (then_run w run) ≡ after (elected ++ w ∷ []) run
after-then elected w run =
    ap (λ all. record { elected = all; rests = run.rests }) (sym (append_assoc elected (w ∷ []) run.elected))

-- one round more that elects
pub progress_more : (m : Measure) (s : SupportView) (share raised : ℕ) (left : List ℕ) (o : OutcomeView) → Progress m s share raised left o
    → (b : KeyView) → best_of m s o.rests left ≡ Some b
    → Progress m s share raised (without b.place left)
    (record {
      share = o.share;
      raised = o.raised;
      elected = o.elected ++ elected_by s o.rests b ∷ [];
      rests = charged (supporters_at s b.place) (due b.price) o.rests;
      priced = o.priced;
    })
progress_more m s share raised left o h b e =
    let found = best_is_key m s o.rests left b e in
    let one_less = length-without_one left 0 (length s.costs) b.place h.rises found.is_left in
    let one_more = length_push o.elected (elected_by s o.rests b) in
    let rounds : length left ≡ suc (length (without b.place left)) = omega arith in
    record {
      share_is = h.share_is;
      raised_is = h.raised_is;
      whole = h.whole ∙ ap (λ n. after o.elected (run_from m s n o.rests left)) rounds
          ∙ ap (after o.elected) (run_from-some m s o.rests left b e (length (without b.place left)))
          ∙ after-then o.elected (elected_by s o.rests b) (run_from m s (length (without b.place left)) (charged (supporters_at s b.place) (due b.price) o.rests) (without b.place left));
      rests_are = AreRests-charged s.voters (supporters_at s b.place) (due b.price) o.rests h.rests_are;
      rises = RisesWithin-without left 0 (length s.costs) b.place h.rises;
      counted = omega (arith, h.counted, one_less, one_more);
    }

-- the round that elects nothing
pub progress_end : (m : Measure) (s : SupportView) (share raised : ℕ) (left : List ℕ) (o : OutcomeView) → Progress m s share raised left o
    → best_of m s o.rests left ≡ None → settled o ≡ settled_by share raised (run_of m s share)
progress_end m s share raised left o h e =
    let here : run_of m s share ≡ record { elected = o.elected; rests = o.rests } = h.whole
    ∙ ap (after o.elected) (run_from-none m s o.rests left e (length left))
    ∙ ap (λ elected. record { elected = elected; rests = o.rests }) (append-nil o.elected) in
    ap (λ share. record { share = share; raised = o.raised; elected = o.elected; rests = o.rests }) h.share_is
    ∙ ap (λ raised. record { share = share; raised = raised; elected = o.elected; rests = o.rests }) h.raised_is
    ∙ ap (settled_by share raised) (sym here)
