-- Every run has a price system.
use Rattle.std.proofs.Common.{◌≡◌, ◌≢◌, ℕ, zero, suc, ◌+◌, ◌<◌, ◌≤◌, min, List, [], ◌∷◌, length, Option, Some, None, true, refl, sym, subst, ap, ◌∙◌, arith}
use Rattle.std.specs.Prelude.{All, sum, sum_by, ◌*◌, replicate, slice_index}
use Rattle.std.specs.List.{AllZip, range_with_len}
use Rattle.std.proofs.lemmas.List.{length-replicate, get_or-replicate}
use Rattle.std.proofs.lemmas.List.FromFn.{length-range_with_len}
use Rattle.std.proofs.lemmas.List.Folds.{sum_by-replicate}
use Rattle.std.specs.Option.{option_map_or}
use Rattle.std.proofs.lemmas.Bool.{false_from_ne_true, cond-true, cond-false, true≢false}
use Rattle.std.proofs.lemmas.List.Elements.{All-head, All-tail}
use Rattle.std.proofs.lemmas.List.Sums.{sum_by-cons}
use Rattle.pb_price.specs.Grain.{in_parts}
use Rattle.pb_price.specs.Supporters.{SupportView, IsSupport, supporters_at, cost_at, cost_in_parts}
use Rattle.pb_price.specs.Price.{due, paid_at, total_rest, price_at}
use Rattle.pb_price.proofs.Prices.{is_price_from_at, no_price_at}
use Rattle.pb_price.proofs.SupporterLists.{cost_positive, few_supporters, support_form}
use Rattle.pb_rounds.specs.declared.measure.Measure.{Measure}
use Rattle.pb_rounds.specs.Key.{KeyView}
use Rattle.pb_rounds.specs.Inner.Listed.{is_listed}
use Rattle.pb_rounds.specs.Run.{ElectedView, RunView, best_of, charged, elected_by, payment_of, run_from, run_of, then_run, without}
use Rattle.pb_rounds.specs.Count.{spent_on}
use Rattle.pb_rounds.specs.Payments.{paid_in_turn, payments_of}
use Rattle.pb_rounds.specs.Inner.PriceSystem.{HasPriceSystem}
use Rattle.pb_rounds.specs.PriceSystem.{PaysFor, IsPriceSystem}
use Rattle.pb_rounds.proofs.Charged.{payment_at, charged_at, length-payments_of, length-charged, payment-within_price, payment-within_rest, sum-payments_of, sum-charged}
use Rattle.pb_rounds.proofs.Collecting.{collected_in, nothing_spent, one_more_spent, slack}
use Rattle.pb_rounds.proofs.Listed.{RisesWithin, rises_within, contains_from_listed, listed_from_contains, is_listed-without, length-without, listed_from_without, listed-below, RisesWithin-below, range_rises, is_listed-range}
use Rattle.pb_rounds.proofs.BestKey.{IsKey, best_is_key, no_price_without_best}

pub paid_in_turn-nil : (s : SupportView) (rests : List ℕ) → [] ≡ paid_in_turn s rests []
unfolding paid_in_turn
paid_in_turn-nil s rests = refl

pub paid_in_turn-cons : (s : SupportView) (rests : List ℕ) (w : ElectedView) (elected : List ElectedView)
    → paid_in_turn s rests (w ∷ elected) ≡ payments_of (supporters_at s w.place) w.price rests
    ∷ paid_in_turn s (charged (supporters_at s w.place) w.price rests) elected
unfolding paid_in_turn
paid_in_turn-cons s rests w elected = refl

-- payments that explain the election of these from these rests to those, with these projects left at first
pub record Explains (s : SupportView) (before left : List ℕ) (run : RunView) (payments : List (List ℕ)) : Type 0 where
  pub one_each : length run.rests ≡ s.voters
  pub in_turn : payments ≡ paid_in_turn s before run.elected
  pub paid : AllZip (PaysFor s run.rests) run.elected payments
  pub endowed : (v : ℕ) → sum_by (λ row. slice_index row v) payments + slice_index run.rests v ≡ slice_index before v
  pub too_expensive : (place : ℕ) → is_listed left place ≡ true → All (λ w. w.place ≢ place) run.elected
      → total_rest (supporters_at s place) run.rests < cost_in_parts s place
  -- what is spent and what is left is no more than what was there, but for less than a part of each voter for each elected
  pub within : in_parts s.grain s.voters (spent_on s run.elected) + sum run.rests ≤ sum before + slack s.grain s.voters (length run.elected)
  pub few : length run.elected ≤ length left

abbrev pub IsExplained : SupportView → List ℕ → List ℕ → RunView → Type 0
IsExplained s before left run = (payments : List (List ℕ)) × Explains s before left run payments

-- what a run needs
pub record IsRound (s : SupportView) (rests left : List ℕ) : Type 0 where
  pub one_each : length rests ≡ s.voters
  pub known : (place : ℕ) → is_listed left place ≡ true → place < length s.costs

pub supporters_rise : (s : SupportView) → IsSupport s → (place : ℕ) → place < length s.costs → RisesWithin 0 s.voters (supporters_at s place)
supporters_rise s h place below =
    let form = support_form s h in
    rises_within (supporters_at s place) 0 s.voters (λ _. omega arith)
    (form.supporters_known place [] (rw form.paired below)) (form.supporters_rise place [] (rw form.paired below))

-- the payments for one winner
winner_paid : (m : Measure) (s : SupportView) → IsSupport s → (rests left : List ℕ) → IsRound s rests left
    → (b : KeyView) → IsKey m s rests left b → (after : List ℕ)
    → ((v : ℕ) → slice_index after v ≤ slice_index (charged (supporters_at s b.place) (due b.price) rests) v)
    → PaysFor s after (elected_by s rests b) (payments_of (supporters_at s b.place) (due b.price) rests)
winner_paid m s h rests left round b found after less =
    let supporters = supporters_at s b.place in
    let below = round.known b.place found.is_left in
    let some = cost_positive s h b.place below in
    let price = is_price_from_at s rests b.place some (Some b.price) (sym found.is_price) in
    record {
      one_each = length-payments_of supporters (due b.price) rests ∙ round.one_each;
      by_supporters = λ v other. payment_at supporters (due b.price) rests v
          ∙ cond-false _ _ _ (false_from_ne_true _ (λ e. other (contains_from_listed supporters v e)));
      within_price = λ v. rw (payment_at supporters (due b.price) rests v) (payment-within_price supporters (due b.price) rests v);
      collected = sum-payments_of supporters (due b.price) rests (rw round.one_each (supporters_rise s h b.place below));
      covered = collected_in s.grain supporters rests (cost_in_parts s b.place) b.price some price;
      spent = λ v among short.
          let paid : payment_of supporters (due b.price) rests v ≡ min (slice_index rests v) (due b.price) = cond-true _ _ _ (listed_from_contains supporters v among) in
          omega (arith, paid, less v, charged_at supporters (due b.price) rests v, payment_at supporters (due b.price) rests v);
    }

explained_none : (s : SupportView) (rests left : List ℕ) → IsRound s rests left
    → ((place : ℕ) → is_listed left place ≡ true → price_at s rests place ≡ None)
    → IsExplained s rests left (record { elected = []; rests = rests })
explained_none s rests left round none = (
  [],
  record {
    one_each = round.one_each;
    in_turn = paid_in_turn-nil s rests;
    paid = tt;
    endowed = λ v. omega arith;
    too_expensive = λ place among _. no_price_at s rests place (none place among);
    within = nothing_spent s.grain s.voters (sum rests);
    few = omega arith;
  },
)

explained_some : (m : Measure) (s : SupportView) → IsSupport s → (rests left : List ℕ) → IsRound s rests left
    → (b : KeyView) → IsKey m s rests left b → (run : RunView)
    → IsExplained s (charged (supporters_at s b.place) (due b.price) rests) (without b.place left) run
    → IsExplained s rests left (then_run (elected_by s rests b) run)
explained_some m s h rests left round b found run (payments, later) =
    let supporters = supporters_at s b.place in
    let row = payments_of supporters (due b.price) rests in
    let winner = winner_paid m s h rests left round b found run.rests (λ v. let e = later.endowed v in omega arith) in (
      row ∷ payments,
      record {
        one_each = later.one_each;
        in_turn = ap (λ rows. row ∷ rows) later.in_turn
            ∙ sym (paid_in_turn-cons s rests (elected_by s rests b) run.elected);
        paid = (winner, later.paid);
        endowed = λ v.
            omega (
              arith,
              sum_by-cons (λ r. slice_index r v) row payments,
              later.endowed v,
              charged_at supporters (due b.price) rests v,
              payment_at supporters (due b.price) rests v,
              payment-within_rest supporters (due b.price) rests v,
            );
        too_expensive = λ place among others.
            let other : place ≢ b.place = λ e. All-head (λ w. w.place ≢ place) (elected_by s rests b) run.elected others (sym e) in
            later.too_expensive place (is_listed-without left b.place place other ∙ among)
            (All-tail (λ w. w.place ≢ place) (elected_by s rests b) run.elected others);
        within = one_more_spent s.grain s.voters (cost_at s b.place) (spent_on s run.elected) (sum run.rests) (sum rests)
            (sum (charged supporters (due b.price) rests)) (paid_at supporters rests (due b.price)) (length supporters) (length run.elected)
            (sum_by-cons (λ w. cost_at s w.place) (elected_by s rests b) run.elected) later.within
            (omega (arith, sum-charged supporters (due b.price) rests, winner.collected)) winner.covered (few_supporters s h b.place (round.known b.place found.is_left));
        few = let less = length-without left b.place found.is_left in omega (arith, less, later.few);
      },
    )

next_round : (s : SupportView) (rests left : List ℕ) → IsRound s rests left → (b : KeyView)
    → IsRound s (charged (supporters_at s b.place) (due b.price) rests) (without b.place left)
next_round s rests left round b = record {
  one_each = length-charged (supporters_at s b.place) (due b.price) rests ∙ round.one_each;
  known = λ place among. round.known place (listed_from_without left b.place place among);
}

explained_step : (m : Measure) (s : SupportView) → IsSupport s → (rests left : List ℕ) → IsRound s rests left
    → (n : ℕ) → length left ≤ suc n
    → ((rests left : List ℕ) → IsRound s rests left → length left ≤ n → IsExplained s rests left (run_from m s n rests left))
    → (o : Option KeyView) → best_of m s rests left ≡ o
    → IsExplained s rests left
    (option_map_or (λ b. then_run (elected_by s rests b) (run_from m s n (charged (supporters_at s b.place) (due b.price) rests) (without b.place left)))
    o (record { elected = []; rests = rests }))
explained_step m s h rests left round n short later None e =
    explained_none s rests left round (no_price_without_best m s rests left e)
explained_step m s h rests left round n short later (Some b) e =
    let found = best_is_key m s rests left b e in
    explained_some m s h rests left round b found _
    (later _ _ (next_round s rests left round b) (let less = length-without left b.place found.is_left in omega arith))

-- a run that has a round for each project left has a price system
pub run_is_explained : (m : Measure) (s : SupportView) → IsSupport s → (n : ℕ) (rests left : List ℕ) → IsRound s rests left
    → length left ≤ n → IsExplained s rests left (run_from m s n rests left)
unfolding run_from
run_is_explained m s h zero rests [] round short = explained_none s rests [] round (λ place among. absurd (true≢false (sym among)))
run_is_explained m s h zero rests (place ∷ left) round short = absurd (omega arith)
run_is_explained m s h (suc n) rests left round short =
    explained_step m s h rests left round n short (run_is_explained m s h n) (best_of m s rests left) refl

opening_round : (s : SupportView) (share : ℕ) → IsRound s (replicate s.voters share) (range_with_len 0 (length s.costs))
opening_round s share = record {
  one_each = length-replicate s.voters share;
  known = λ place among. listed-below (range_with_len 0 (length s.costs)) (length s.costs) place
      (RisesWithin-below _ 0 (length s.costs) (range_rises 0 (length s.costs) (length s.costs) (omega arith))) among;
}

opening_explained : (m : Measure) (s : SupportView) → IsSupport s → (share : ℕ)
    → IsExplained s (replicate s.voters share) (range_with_len 0 (length s.costs)) (run_of m s share)
unfolding run_of
opening_explained m s h share =
    run_is_explained m s h (length s.costs) (replicate s.voters share) (range_with_len 0 (length s.costs)) (opening_round s share)
    (rw (length-range_with_len 0 (length s.costs)) (omega arith))

-- what each voter pays in turn is a price system of a run
pub run_is_paid_in_turn : (m : Measure) (s : SupportView) → IsSupport s → (share : ℕ)
    → IsPriceSystem s share (run_of m s share).elected (run_of m s share).rests (paid_in_turn s (replicate s.voters share) (run_of m s share).elected)
run_is_paid_in_turn m s h share =
    let found = opening_explained m s h share in
    subst (IsPriceSystem s share (run_of m s share).elected (run_of m s share).rests) found.1.in_turn
    (record {
      paid = found.1.paid;
      endowed = λ v below. found.1.endowed v ∙ get_or-replicate s.voters v share 0 below;
      too_expensive = λ place below others. found.1.too_expensive place (is_listed-range 0 (length s.costs) place (omega arith) (omega arith)) others;
    })

-- every run has a price system
pub run_has_price_system : (m : Measure) (s : SupportView) → IsSupport s → (share : ℕ) → HasPriceSystem s share (run_of m s share).elected (run_of m s share).rests
run_has_price_system m s h share =
    (paid_in_turn s (replicate s.voters share) (run_of m s share).elected, run_is_paid_in_turn m s h share)

-- no run spends more than everybody's share, but for less than a part of each voter for each elected
pub run_within_shares : (m : Measure) (s : SupportView) → IsSupport s → (share : ℕ)
    → in_parts s.grain s.voters (spent_on s (run_of m s share).elected) ≤ s.voters * share + slack s.grain s.voters (length (run_of m s share).elected)
run_within_shares m s h share =
    let found = opening_explained m s h share in
    omega (arith, found.1.within, sum_by-replicate (λ x. x) s.voters share)

-- and it elects no more than there are projects
pub run_elects_few : (m : Measure) (s : SupportView) → IsSupport s → (share : ℕ) → length (run_of m s share).elected ≤ length s.costs
run_elects_few m s h share =
    let found = opening_explained m s h share in
    omega (arith, found.1.few, length-range_with_len 0 (length s.costs))

-- what is left after a run is one rest for each voter
pub run_has_rests : (m : Measure) (s : SupportView) → IsSupport s → (share : ℕ) → length (run_of m s share).rests ≡ s.voters
run_has_rests m s h share = (opening_explained m s h share).1.one_each
