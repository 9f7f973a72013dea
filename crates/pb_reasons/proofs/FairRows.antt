-- Each row of fairness says that too little was left.
use Rattle.std.proofs.Common.{◌≡◌, ◌≢◌, ℕ, zero, suc, ◌+◌, ◌*◌, ◌<◌, ◌≤◌, max, Bool, true, false, not, ◌&&◌, List, [], ◌∷◌, length, get_or, refl, sym, ◌∙◌, ap, arith}
use Rattle.std.specs.Prelude.{◌==◌, All, filter, fold, nat_lt}
use Rattle.std.specs.List.{range_with_len}
use Rattle.std.proofs.lemmas.Bool.{and_parts, eqb-false, ltb-true, or_parts}
use Rattle.std.proofs.lemmas.Grind.{div_ceil_times}
use Rattle.std.proofs.lemmas.List.{length-map}
use Rattle.std.proofs.lemmas.List.Elements.{All-cons, All-filter, All-nil, filter_passes}
use Rattle.pb_price.specs.Supporters.{cost_in_parts, support_in, support_of, supporters_at}
use Rattle.pb_rounds.proofs.FairToGroups.{run_is_fair_to_groups}
use Rattle.pb_rounds.proofs.Listed.{RisesWithin-below, range_rises}
use Rattle.pb_rounds.specs.Cheapest.{IsLeft}
use Rattle.pb_rounds.specs.Fairness.{paid_within}
use Rattle.pb_rounds.specs.MostVotes.{is_taken, votes_at}
use Rattle.pb_rounds.specs.Run.{ElectedView, is_elected}
use Rattle.pb_reasons.proofs.AllWinners.{selected_are_winners}
use Rattle.pb_reasons.specs.Counted.{winners_of}
use Rattle.pb_reasons.specs.CountedElection.{CountedElectionView, IsCountedElection}
use Rattle.pb_reasons.specs.Fairness.{losers, needed, spent}

-- the most is at least each
most_grows : (f : ℕ → ℕ) (least : ℕ) (xs : List ℕ) → least ≤ fold (λ most x. max most (f x)) least xs
most_grows f least [] = omega arith
most_grows f least (x ∷ xs) = let more = most_grows f (max least (f x)) xs in omega (arith, more)

pub at_most_the_most : (f : ℕ → ℕ) (least : ℕ) (xs : List ℕ) (k x : ℕ) → k < length xs → get_or xs k x ≡ x → f x ≤ fold (λ most x. max most (f x)) least xs
at_most_the_most f least [] k x below here = absurd (omega (arith, below))
at_most_the_most f least (y ∷ ys) zero x below here =
    let same : f y ≡ f x = ap f here in
    let more = most_grows f (max least (f y)) ys in
    omega (arith, same, more)
at_most_the_most f least (y ∷ ys) (suc k) x below here = at_most_the_most f (max least (f y)) ys k x (omega (arith, below)) here

not_true : (b : Bool) → not b ≡ true → b ≡ false
not_true true e = sym e
not_true false e = refl

all_kept : (xs : List ℕ) → filter (λ x. true) xs ≡ xs
all_kept [] = refl
all_kept (x ∷ xs) = ap (λ ys. x ∷ ys) (all_kept xs)

none_is_it : (elected : List ElectedView) (place : ℕ) → is_elected elected place ≡ false → All (λ w. w.place ≢ place) elected
none_is_it [] place none = All-nil (λ w. w.place ≢ place)
none_is_it (w ∷ elected) place none =
    let parts = or_parts (w.place == place) (is_elected elected place) none in
    All-cons (λ w. w.place ≢ place) w elected (eqb-false w.place place parts.0) (none_is_it elected place parts.1)

module _ (c : CountedElectionView) (is : IsCountedElection c) where
  loser_is_fair : (place : ℕ) → place < length c.election.projects → 0 < votes_at (support_of c.election) place
      → is_taken (winners_of c.counted) place ≡ false
      → c.counted.outcome.share < spent c.rule.options.measure (support_in c.rule.options.grain c.election) c.counted.outcome place + needed (support_in c.rule.options.grain c.election) place
  loser_is_fair place known some free =
      let s = support_in c.rule.options.grain c.election in
      let o = c.counted.outcome in
      let m = c.rule.options.measure in
      let supporters = supporters_at s place in
      let all : filter (λ v. true) supporters ≡ supporters = all_kept supporters in
      let unselected = or_parts (is_elected o.elected place) (is_taken c.counted.added place) (selected_are_winners c.counted place ∙ free) in
      let costs : length s.costs ≡ length c.election.projects = simp length-map in
      let left : IsLeft s o.elected place = (rw costs known, none_is_it o.elected place unselected.0) in
      let bounds = div_ceil_times (cost_in_parts s place) (votes_at s place) some in
      let covers : cost_in_parts s place ≤ length (filter (λ v. true) supporters) * needed s place = rw all (omega (arith, bounds)) in
      let (k, voter, below, here, above) = run_is_fair_to_groups m s o.share o.elected o.rests is.is_count.run_is place (needed s place) (λ v. true) left covers in
      let most = at_most_the_most (λ v. paid_within m s o.share o.elected place (needed s place) v) 0 supporters k voter (rw all at below) (rw all at here) in
      omega (arith, most, above)

  pub rows_are_fair : All (λ place. c.counted.outcome.share < spent c.rule.options.measure (support_in c.rule.options.grain c.election) c.counted.outcome place + needed (support_in c.rule.options.grain c.election) place)
      (losers c.election c.counted)
  rows_are_fair = λ k d below.
      let s = support_of c.election in
      let n = length c.election.projects in
      let test : ℕ → Bool = λ place. nat_lt 0 (votes_at s place) && not (is_taken (winners_of c.counted) place) in
      let place = get_or (losers c.election c.counted) k d in
      let passes = and_parts (nat_lt 0 (votes_at s place)) (not (is_taken (winners_of c.counted) place)) (filter_passes test (range_with_len 0 n) k d below) in
      let known = All-filter test (λ p. p < n) (range_with_len 0 n) (RisesWithin-below (range_with_len 0 n) 0 n (range_rises 0 n n (omega arith))) k d below in
      loser_is_fair place known (ltb-true 0 (votes_at s place) passes.0) (not_true (is_taken (winners_of c.counted) place) passes.1)
