-- What a table of fairness is made of, in the words of its law.
use Rattle.std.proofs.Common.{◌≡◌, ℕ, zero, suc, ◌+◌, ◌*◌, ◌<◌, ◌≤◌, ◌⊎◌, max, Bool, true, false, cond, not, ◌&&◌, List, [], ◌∷◌, length, get_or, Contains, refl, ◌∙◌, ap, inl, inr, arith}
use Rattle.std.specs.Prelude.{All, filter, fold, nat_lt}
use Rattle.std.specs.List.{Any, range_with_len}
use Rattle.std.specs.List.Sorted.{IsStrictlyIncreasing}
use Rattle.std.proofs.lemmas.Bool.{and_from, and_parts, cases_lt, lt-ltb, ltb-true, not-true}
use Rattle.std.proofs.lemmas.Grind.{div_ceil_times}
use Rattle.std.proofs.lemmas.List.Elements.{All-contains, All-filter, filter_passes}
use Rattle.std.proofs.lemmas.List.FromFn.{get_or-range_with_len, length-range_with_len}
use Rattle.std.proofs.lemmas.List.Kept.{IsStrictlyIncreasing-filter}
use Rattle.std.proofs.Math.Nat.{mul-le-mul_left, mul-suc, mul_comm}
use Rattle.pb_core.specs.Election.{ElectionView}
use Rattle.pb_price.specs.Supporters.{SupportView, cost_in_parts, support_of, supporters_at}
use Rattle.pb_rounds.proofs.Listed.{RisesWithin-below, range_rises}
use Rattle.pb_rounds.specs.Fairness.{paid_within}
use Rattle.pb_rounds.specs.MostVotes.{is_taken, votes_at}
use Rattle.pb_rounds.specs.Outcome.{OutcomeView}
use Rattle.pb_rounds.specs.declared.measure.Measure.{Measure}
use Rattle.pb_reasons.proofs.FairRows.{at_most_the_most}
use Rattle.pb_reasons.specs.Counted.{CountedView, winners_of}
use Rattle.pb_reasons.specs.Fairness.{losers, needed, spent}

-- a filter keeps what passes
kept_by : (p : ℕ → Bool) (y x : ℕ) (kept : List ℕ) (b : Bool) → Contains kept x → Contains (cond b (y ∷ kept) kept) x
kept_by p y x kept true found = (suc found.0, omega (arith, found.1), found.2)
kept_by p y x kept false found = found

filter_keeps : (p : ℕ → Bool) (xs : List ℕ) (x : ℕ) → Contains xs x → p x ≡ true → Contains (filter p xs) x
filter_keeps p [] x found passes = absurd (omega (arith, found.1))
filter_keeps p (y ∷ ys) x (zero, below, here) passes = rw (ap p here ∙ passes) (zero, omega arith, here)
filter_keeps p (y ∷ ys) x (suc k, below, here) passes =
    kept_by p y x (filter p ys) (p y) (filter_keeps p ys x (k, omega (arith, below), here) passes)

rises : (a n : ℕ) → IsStrictlyIncreasing (range_with_len a n)
rises a n k h =
    let short : k + 1 < n = omega (arith, length-range_with_len a n) in
    let here = get_or-range_with_len a n k 0 (omega arith) in
    let next = get_or-range_with_len a n (k + 1) 0 short in
    omega (arith, here, next)

in_range : (n k : ℕ) → k < n → Contains (range_with_len 0 n) k
in_range n k below =
    (k, omega (arith, below, length-range_with_len 0 n), get_or-range_with_len 0 n k k below ∙ omega arith)

module _ (e : ElectionView) (c : CountedView) where
  abbrev test : ℕ → Bool
  test place = nat_lt 0 (votes_at (support_of e) place) && not (is_taken (winners_of c) place)

  pub losers_rise : IsStrictlyIncreasing (losers e c)
  losers_rise = IsStrictlyIncreasing-filter test (range_with_len 0 (length e.projects)) (rises 0 (length e.projects))

  pub loser_lost : (place : ℕ) → Contains (losers e c) place
      → (place < length e.projects) × (0 < votes_at (support_of e) place) × (is_taken (winners_of c) place ≡ false)
  loser_lost place found =
      let n = length e.projects in
      let all = range_with_len 0 n in
      let known = All-filter test (λ p. p < n) all (RisesWithin-below all 0 n (range_rises 0 n n (omega arith))) in
      let passes = and_parts (nat_lt 0 (votes_at (support_of e) place)) (not (is_taken (winners_of c) place))
      (All-contains (λ p. test p ≡ true) (losers e c) place (filter_passes test all) found) in (
        All-contains (λ p. p < n) (losers e c) place known found,
        ltb-true 0 (votes_at (support_of e) place) passes.0,
        not-true (is_taken (winners_of c) place) passes.1,
      )

  pub lost_is_loser : (place : ℕ) → (place < length e.projects) × (0 < votes_at (support_of e) place) × (is_taken (winners_of c) place ≡ false)
      → Contains (losers e c) place
  lost_is_loser place (known, some, lost) =
      filter_keeps test (range_with_len 0 (length e.projects)) place (in_range (length e.projects) place known)
      (and_from _ _ (lt-ltb 0 (votes_at (support_of e) place) some) (ap not lost))

-- the least amount that pays for a project where each supporter gives as much
module _ (s : SupportView) (place : ℕ) (some : 0 < votes_at s place) where
  pub needed_pays : cost_in_parts s place ≤ votes_at s place * needed s place
  needed_pays =
      let bounds = div_ceil_times (cost_in_parts s place) (votes_at s place) some in
      let turned = mul_comm (needed s place) (votes_at s place) in
      omega (arith, bounds, turned)

  pub less_is_short : (less : ℕ) → less < needed s place → votes_at s place * less < cost_in_parts s place
  less_is_short less below =
      let bounds = div_ceil_times (cost_in_parts s place) (votes_at s place) some in
      let turned = mul_comm (needed s place) (votes_at s place) in
      let one = mul-suc (votes_at s place) less in
      let more : votes_at s place * suc less ≤ votes_at s place * needed s place = mul-le-mul_left (votes_at s place) (omega (arith, below)) in
      omega (arith, bounds, turned, one, more)

-- the most is that of one, or as it was at first
module _ (f : ℕ → ℕ) where
  abbrev IsReached : ℕ → List ℕ → ℕ → Type 0
  IsReached least xs most = (most ≡ least) ⊎ Any (λ x. f x ≡ most) xs

  by_the_first : (least x : ℕ) (xs : List ℕ) (most : ℕ) → most ≡ max least (f x) → IsReached least (x ∷ xs) most
  by_the_first least x xs most is = elim (cases_lt least (f x)) [
    | inl less ↦ inr (zero, x, omega arith, refl, omega (arith, is, less))
    | inr more ↦ inl (omega (arith, is, more))
  ]

  by_the_rest : (least x : ℕ) (xs : List ℕ) (most : ℕ) → IsReached (max least (f x)) xs most → IsReached least (x ∷ xs) most
  by_the_rest least x xs most (inl is) = by_the_first least x xs most is
  by_the_rest least x xs most (inr (k, y, below, here, is)) = inr (suc k, y, omega (arith, below), here, is)

  reached : (least : ℕ) (xs : List ℕ) → IsReached least xs (fold (λ most x. max most (f x)) least xs)
  reached least [] = inl refl
  reached least (x ∷ xs) = by_the_rest least x xs (fold (λ most y. max most (f y)) (max least (f x)) xs) (reached (max least (f x)) xs)

module _ (m : Measure) (s : SupportView) (o : OutcomeView) (place : ℕ) where
  abbrev paid : ℕ → ℕ
  paid voter = paid_within m s o.share o.elected place (needed s place) voter

  pub spent_is_most : All (λ voter. paid voter ≤ spent m s o place) (supporters_at s place)
  spent_is_most k d below = at_most_the_most paid 0 (supporters_at s place) k (get_or (supporters_at s place) k d) below (here (supporters_at s place) k d below)
    where
      here : (xs : List ℕ) (k d : ℕ) → k < length xs → get_or xs k (get_or xs k d) ≡ get_or xs k d
      here [] k d below = absurd (omega (arith, below))
      here (x ∷ xs) zero d below = refl
      here (x ∷ xs) (suc k) d below = here xs k d (omega (arith, below))

  pub spent_by_one : (spent m s o place ≡ 0) ⊎ Any (λ voter. paid voter ≡ spent m s o place) (supporters_at s place)
  spent_by_one = reached paid 0 (supporters_at s place)
