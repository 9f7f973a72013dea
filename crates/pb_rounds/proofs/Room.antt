-- A share that leaves room decides nothing, and so does every lower one.
use Rattle.std.proofs.Common.{◌≡◌, ◌≢◌, ℕ, zero, suc, ◌+◌, ◌*◌, ◌<◌, ◌≤◌, List, [], ◌∷◌, length, replicate, Option, Some, None, true, false, cond, refl, sym, subst, ◌∙◌, ap, inl, inr, arith}
use Rattle.std.specs.Prelude.{All, MatchOption, ◌⊎◌, ⊤, slice_index, sum_by}
use Rattle.std.specs.List.{range_with_len}
use Rattle.std.specs.Option.{option_map_or}
use Rattle.std.proofs.lemmas.Bool.{true≢false, cases_Bool, cases_eq, cases_lt, cond-true, cond-false, eq-eqb, ne_eqb, le-leb, lt-leb, leb-true, or_from, false_from_ne_true}
use Rattle.std.proofs.Math.Nat.{mul-le-mul_left, mul-le-mul_right}
use Rattle.std.proofs.lemmas.Option.{none-some}
use Rattle.std.proofs.lemmas.List.{get_or-replicate, get_or_past, length-replicate}
use Rattle.std.proofs.lemmas.List.Elements.{All-nil, All-cons}
use Rattle.std.proofs.lemmas.List.Sums.{sum_by-cons, sum_by_push, sum_by-le-sum_by}
use Rattle.pb_core.specs.Election.{ElectionView}
use Rattle.pb_core.specs.Money.{largest_money}
use Rattle.pb_price.specs.Price.{PriceView, due, largest_share, price_at, total_rest}
use Rattle.pb_price.specs.Supporters.{SupportView, cost_at, cost_in_parts, supporters_at, support_in}
use Rattle.pb_price.specs.declared.grain.Grain.{Grain}
use Rattle.pb_price.proofs.Prices.{no_price_at_from_short}
use Rattle.pb_rounds.specs.declared.measure.Measure.{Measure}
use Rattle.pb_rounds.specs.Completed.{IsExhausted}
use Rattle.pb_rounds.specs.Count.{elected_after, is_decisive, opening_share, share_after, spent_on}
use Rattle.pb_rounds.specs.Inner.Reach.{LeavesRoom, is_within_reach}
use Rattle.pb_rounds.specs.Key.{KeyView}
use Rattle.pb_rounds.specs.Inner.Listed.{is_listed}
use Rattle.pb_rounds.specs.Run.{ElectedView, best_of, charged, elected_by, outcome_of, run_from, run_of, then_run, without}
use Rattle.pb_rounds.proofs.BestKey.{best_is_key}
use Rattle.pb_rounds.proofs.Charged.{charged_at}
use Rattle.pb_rounds.proofs.Exhausted.{over_from_within}
use Rattle.pb_rounds.proofs.Listed.{range-push}
use Rattle.pb_rounds.proofs.RaisesEnd.{exhausted_from_test}

abbrev pub AtMost : ℕ → List ℕ → Type 0
AtMost share rests = (v : ℕ) → slice_index rests v ≤ share

-- what a project counts for at a share
abbrev pub reach_cost : SupportView → ℕ → ℕ → ℕ
reach_cost s share place = cond (is_within_reach s share place) (cost_at s place) 0

total_within : (supporters rests : List ℕ) (share : ℕ) → AtMost share rests → total_rest supporters rests ≤ length supporters * share
total_within [] rests share h = omega arith
total_within (v ∷ vs) rests share h =
    let others = total_within vs rests share h in
    let here = h v in
    omega (arith, sum_by-cons (λ v. slice_index rests v) v vs, others, here)

-- what has a price is within reach
priced_within_reach : (s : SupportView) (rests : List ℕ) (share place : ℕ) (price : PriceView) → AtMost share rests → price_at s rests place ≡ Some price
    → is_within_reach s share place ≡ true
priced_within_reach s rests share place price h e = elim (cases_lt (total_rest (supporters_at s place) rests) (cost_in_parts s place)) [
  | inl short ↦ absurd (none-some price (sym (no_price_at_from_short s rests place short) ∙ e))
  | inr covers ↦
      let most = total_within (supporters_at s place) rests share h in
      le-leb (cost_in_parts s place) (length (supporters_at s place) * share) (omega (arith, covers, most))
]

sum_without : (f : ℕ → ℕ) (xs : List ℕ) (m : ℕ) → sum_by f (without m xs) ≤ sum_by f xs
sum_without f [] m = omega arith
sum_without f (x ∷ xs) m = elim (cases_eq x m) [
  | inl same ↦ rw (eq-eqb x m same) (omega (arith, sum_without f xs m, sum_by-cons f x xs))
  | inr other ↦ rw (ne_eqb x m other) (omega (arith, sum_without f xs m, sum_by-cons f x xs, sum_by-cons f x (without m xs)))
]

sum_with : (f : ℕ → ℕ) (xs : List ℕ) (m : ℕ) → is_listed xs m ≡ true → f m + sum_by f (without m xs) ≤ sum_by f xs
sum_with f [] m e = absurd (true≢false (sym e))
sum_with f (x ∷ xs) m e = elim (cases_eq x m) [
  | inl same ↦ rw (eq-eqb x m same) (let at = ap f same in omega (arith, at, sum_without f xs m, sum_by-cons f x xs))
  | inr other ↦
      let later : is_listed xs m ≡ true = rw (ne_eqb x m other) at e in
      rw (ne_eqb x m other) (omega (arith, sum_with f xs m later, sum_by-cons f x xs, sum_by-cons f x (without m xs)))
]

-- only what is within reach is elected, and it costs together at most what all that is left within reach costs
pub record IsReached (s : SupportView) (share : ℕ) (left : List ℕ) (elected : List ElectedView) : Type 0 where
  pub spent : spent_on s elected ≤ sum_by (reach_cost s share) left
  pub others : (place : ℕ) → is_within_reach s share place ≡ false → All (λ w. w.place ≢ place) elected

reached_none : (s : SupportView) (share : ℕ) (left : List ℕ) → IsReached s share left []
reached_none s share left = record { spent = omega arith; others = λ place _. All-nil (λ w. w.place ≢ place) }

reached_step : (m : Measure) (s : SupportView) (share n : ℕ) (rests left : List ℕ) → AtMost share rests
    → ((rests left : List ℕ) → AtMost share rests → IsReached s share left (run_from m s n rests left).elected)
    → (o : Option KeyView) → best_of m s rests left ≡ o
    → IsReached s share left
    (option_map_or (λ b. then_run (elected_by s rests b) (run_from m s n (charged (supporters_at s b.place) (due b.price) rests) (without b.place left)))
    o (record { elected = []; rests = rests })).elected
reached_step m s share n rests left h later None e = reached_none s share left
reached_step m s share n rests left h later (Some b) e =
    let found = best_is_key m s rests left b e in
    let near = priced_within_reach s rests share b.place b.price h found.is_price in
    let after = later (charged (supporters_at s b.place) (due b.price) rests) (without b.place left)
    (λ v. let r = h v in let c = charged_at (supporters_at s b.place) (due b.price) rests v in omega (arith, r, c)) in
    let counts : reach_cost s share b.place ≡ cost_at s b.place = cond-true _ _ _ near in
    let all = sum_with (reach_cost s share) left b.place found.is_left in
    record {
      spent = omega (
        arith,
        sum_by-cons (λ w. cost_at s w.place) (elected_by s rests b)
            (run_from m s n (charged (supporters_at s b.place) (due b.price) rests) (without b.place left)).elected,
        after.spent,
        counts,
        all,
      );
      others = λ place far. All-cons (λ w. w.place ≢ place) (elected_by s rests b) _
          (λ same. true≢false (sym near ∙ ap (is_within_reach s share) same ∙ far)) (after.others place far);
    }

run_reaches : (m : Measure) (s : SupportView) (share n : ℕ) (rests left : List ℕ) → AtMost share rests → IsReached s share left (run_from m s n rests left).elected
unfolding run_from
run_reaches m s share zero rests left h = reached_none s share left
run_reaches m s share (suc n) rests left h = reached_step m s share n rests left h (run_reaches m s share n) (best_of m s rests left) refl

open_within : (voters share v : ℕ) → slice_index (replicate voters share) v ≤ share
open_within voters share v = elim (cases_lt v voters) [
  | inl within ↦ let here = get_or-replicate voters v share 0 within in omega arith
  | inr past ↦ let none = get_or_past (replicate voters share) v 0 (let len = length-replicate voters share in omega arith) in omega arith
]

pub outcome_reaches : (m : Measure) (s : SupportView) (share : ℕ) → IsReached s share (range_with_len 0 (length s.costs)) (run_of m s share).elected
unfolding run_of
outcome_reaches m s share = run_reaches m s share (length s.costs) (replicate s.voters share) (range_with_len 0 (length s.costs)) (open_within s.voters share)

module _ (m : Measure) (s : SupportView) (budget share : ℕ) (h : LeavesRoom s budget share) where
  room_not_over : spent_on s (run_of m s share).elected ≤ budget
  room_not_over = let all = (outcome_reaches m s share).spent in let room = h.room in omega (arith, all, room)

  room_not_exhausted : ¬ IsExhausted s budget (run_of m s share).elected
  room_not_exhausted ends =
      let reached = outcome_reaches m s share in
      let more = ends.no_room h.place (h.known, reached.others h.place h.beyond) h.supported in
      let all = reached.spent in
      let room = h.room in
      omega (arith, more, all, room)

-- the law
pub room_decides_nothing : (m : Measure) (grain : Grain) (e : ElectionView) (share : ℕ) → LeavesRoom (support_in grain e) e.budget share
    → (¬ (e.budget < spent_on (support_in grain e) (outcome_of m grain e share).elected)) × (¬ IsExhausted (support_in grain e) e.budget (outcome_of m grain e share).elected)
room_decides_nothing m grain e share h = (
  (λ over. let within = room_not_over m (support_in grain e) e.budget share h in omega (arith, over, within)),
  room_not_exhausted m (support_in grain e) e.budget share h,
)

-- the same as the code has it
pub room_goes_on : (m : Measure) (grain : Grain) (e : ElectionView) (step raises : ℕ) (s : SupportView) → s ≡ support_in grain e → (budget : ℕ) → budget ≡ e.budget
    → (opening : ℕ) → opening ≡ opening_share grain e → LeavesRoom s budget (opening + raises * step) → is_decisive m grain e step raises ≡ false
room_goes_on m grain e step raises s same budget budget_is opening opening_is h =
    let here : LeavesRoom (support_in grain e) e.budget (share_after grain e step raises) =
    subst (λ (t : SupportView). LeavesRoom t e.budget (share_after grain e step raises)) same
    (subst (λ n. LeavesRoom s n (share_after grain e step raises)) budget_is
    (subst (λ n. LeavesRoom s budget (n + raises * step)) opening_is h)) in
    or_from _ _ (over_from_within (support_in grain e) e.budget (elected_after m grain e step raises) (room_not_over m (support_in grain e) e.budget (share_after grain e step raises) here))
    (false_from_ne_true _ (λ ends. room_not_exhausted m (support_in grain e) e.budget (share_after grain e step raises) here
    (exhausted_from_test (support_in grain e) e.budget (elected_after m grain e step raises) ends)))

-- as the share grows, what is within reach stays so
reach_stays : (s : SupportView) (low high place : ℕ) → low ≤ high → is_within_reach s low place ≡ true → is_within_reach s high place ≡ true
reach_stays s low high place h e =
    let covered = leb-true (cost_in_parts s place) (length (supporters_at s place) * low) e in
    let more = mul-le-mul_left (length (supporters_at s place)) h in
    le-leb (cost_in_parts s place) (length (supporters_at s place) * high) (omega (arith, covered, more))

reach_more : (s : SupportView) (low high place : ℕ) → low ≤ high → reach_cost s low place ≤ reach_cost s high place
reach_more s low high place h = elim (cases_Bool (is_within_reach s low place)) [
  | inl near ↦
      let before = cond-true (is_within_reach s low place) (cost_at s place) 0 near in
      let after = cond-true (is_within_reach s high place) (cost_at s place) 0 (reach_stays s low high place h near) in
      omega (arith, before, after)
  | inr far ↦ let before = cond-false (is_within_reach s low place) (cost_at s place) 0 far in omega (arith, before)
]

pub lower_leaves_room : (s : SupportView) (budget low high : ℕ) → low ≤ high → LeavesRoom s budget high → LeavesRoom s budget low
lower_leaves_room s budget low high less h = record {
  place = h.place;
  known = h.known;
  supported = h.supported;
  beyond = false_from_ne_true _ (λ near. true≢false (sym (reach_stays s low high h.place less near) ∙ h.beyond));
  room =
      let all = sum_by-le-sum_by (reach_cost s low) (reach_cost s high) (range_with_len 0 (length s.costs)) (λ place. reach_more s low high place less) in
      let room = h.room in
      omega (arith, all, room);
}

-- fewer raises make no larger share
pub raised_within : (opening step most middle : ℕ) → middle ≤ most → opening + most * step ≤ largest_share → opening + middle * step ≤ largest_share
raised_within opening step most middle few small = let fewer = mul-le-mul_right step few in omega (arith, fewer, small)

-- the search for the first raise that does not leave room
pub room_so_far : (s : SupportView) (budget opening step middle share : ℕ) → share ≡ opening + middle * step → LeavesRoom s budget share
    → (raises : ℕ) → raises < middle + 1 → LeavesRoom s budget (opening + raises * step)
room_so_far s budget opening step middle share share_is h raises below =
    let few : raises ≤ middle = omega arith in
    let more = mul-le-mul_right step few in
    lower_leaves_room s budget (opening + raises * step) share (omega (arith, share_is, more)) h

-- the projects seen so far, as the code sums them up
pub record IsBeyond (s : SupportView) (share seen cost : ℕ) : Type 0 where
  pub place : ℕ
  pub known : place < seen
  pub supported : 0 < length (supporters_at s place)
  pub beyond : is_within_reach s share place ≡ false
  pub costs : cost_at s place ≡ cost

pub record AreSeen (s : SupportView) (share seen within : ℕ) (least : Option ℕ) : Type 0 where
  pub sum_is : within ≡ sum_by (reach_cost s share) (range_with_len 0 seen)
  pub small : within ≤ seen * largest_money
  pub found : MatchOption least ⊤ (IsBeyond s share seen)

later_beyond : (s : SupportView) (share seen : ℕ) (least : Option ℕ) → MatchOption least ⊤ (IsBeyond s share seen) → MatchOption least ⊤ (IsBeyond s share (seen + 1))
later_beyond s share seen None h = tt
later_beyond s share seen (Some cost) h = record { place = h.place; known = (let below = h.known in omega arith); supported = h.supported; beyond = h.beyond; costs = h.costs }

module _ (s : SupportView) (share seen within : ℕ) (least : Option ℕ) (h : AreSeen s share seen within least) (cost : ℕ) (cost_is : cost ≡ cost_at s seen)
    (parts : ℕ) (parts_is : parts ≡ cost_in_parts s seen) (count : ℕ) (count_is : count ≡ length (supporters_at s seen)) where
  one_more : sum_by (reach_cost s share) (range_with_len 0 (seen + 1)) ≡ sum_by (reach_cost s share) (range_with_len 0 seen) + reach_cost s share seen
  one_more = ap (sum_by (reach_cost s share)) (range-push seen) ∙ sum_by_push (reach_cost s share) (range_with_len 0 seen) seen

  pub near_more : parts ≤ count * share → cost ≤ largest_money → AreSeen s share (seen + 1) (within + cost) least
  near_more near bound =
      let test : is_within_reach s share seen ≡ true = le-leb _ _ (rw (parts_is, count_is) at near) in
      let counts = cond-true (is_within_reach s share seen) (cost_at s seen) 0 test in
      record {
        sum_is = omega (arith, one_more, counts, h.sum_is, cost_is);
        small = (let small = h.small in omega (arith, small, bound));
        found = later_beyond s share seen least h.found;
      }

  module _ (far : count * share < parts) where
    far_test : is_within_reach s share seen ≡ false
    far_test = lt-leb _ _ (rw (parts_is, count_is) at far)

    pub far_more : (next : Option ℕ) → (next ≡ least) ⊎ ((0 < count) × (next ≡ Some cost)) → AreSeen s share (seen + 1) within next
    far_more next is =
        let counts = cond-false (is_within_reach s share seen) (cost_at s seen) 0 far_test in
        record {
          sum_is = omega (arith, one_more, counts, h.sum_is);
          small = (let small = h.small in omega (arith, small));
          found = elim is [
            | inl same ↦ rw same (later_beyond s share seen least h.found)
            | inr here ↦ rw here.1 (record { place = seen; known = omega arith; supported = rw count_is at here.0; beyond = far_test; costs = sym cost_is })
          ];
        }
