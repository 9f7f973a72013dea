-- Which ties are told of all runs and of the added, and in which order, in the words of their law.
use Rattle.std.proofs.Common.{◌≡◌, ◌≢◌, ◌≤◌, ◌<◌, ◌+◌, ◌∙◌, ◌++◌, ◌∷◌, ◌⊎◌, [], ℕ, zero, suc, All, AllPairs, Bool, true, false, Contains, List, None, ap, append-nil, arith, get_or, inl, inr, is_some, length, map, refl, subst, sym, take}
use Rattle.std.specs.Prelude.{◌==◌, filter, flat_map, if◌then◌else◌, slice_index}
use Rattle.std.specs.List.{range_with_len}
use Rattle.std.specs.List.Sorted.{IsStrictlyIncreasing}
use Rattle.std.proofs.lemmas.Bool.{cases_eq, eq-eqb, eqb-true, ne_eqb}
use Rattle.std.proofs.lemmas.List.{get_or-map, get_or_default, length-map}
use Rattle.std.proofs.lemmas.List.Elements.{All-append, All-contains, All-map, Contains-append_cases, Contains-append_left, Contains-append_right, filter-append, filter_passes}
use Rattle.std.proofs.lemmas.List.FromFn.{get_or-range_with_len, length-range_with_len}
use Rattle.std.proofs.lemmas.List.Kept.{AllPairs-cons, AllPairs-filter, AllPairs-from_increasing}
use Rattle.std.proofs.lemmas.Option.{slice_get_within}
use Rattle.pb_core.specs.Election.{ProjectView}
use Rattle.pb_core.specs.Order.{position_in}
use Rattle.pb_core.proofs.Members.{in_range, range_below, range_rises}
use Rattle.pb_core.proofs.Orders.{order_known}
use Rattle.pb_price.specs.Supporters.{SupportView, support_in, support_of}
use Rattle.pb_rounds.specs.Count.{count_of, share_by, step_of}
use Rattle.pb_rounds.specs.Run.{ElectedView, outcome_of}
use Rattle.pb_rounds.specs.declared.options.CountOptions.{CountOptions}
use Rattle.pb_reasons.specs.AllTies.{added_ties, all_ties, run_ties, runs_of, told_as}
use Rattle.pb_reasons.specs.CountedElection.{CountedElectionView, IsCountedElection, in_file}
use Rattle.pb_reasons.specs.Ties.{ties_in, ties_with_added}
use Rattle.pb_reasons.specs.declared.tie.Tie.{Tie}
use Rattle.pb_reasons.specs.declared.told_tie.ToldTie.{ToldTie}
use Rattle.pb_reasons.proofs.Far.{filter_same, none_pass}
use Rattle.pb_reasons.proofs.Sorted.{place_back, position_known}
use Rattle.pb_reasons.proofs.TieWords.{from_map, is_kept, others_of_added_rise, others_of_round_rise, tie_of_added, tie_of_round, to_map, was_there}

-- ---- members of lists that are put together

later_member : {X : Type 0} (x y : X) (xs : List X) → Contains xs y → Contains (x ∷ xs) y
later_member x y xs (k, below, here) = (suc k, omega (arith, below), here)

all_members : {X : Type 0} (P : X → Type 0) (xs : List X) → ((x : X) → Contains xs x → P x) → All P xs
all_members P xs each = λ i d below. each (get_or xs i d) (i, below, get_or_default xs i (get_or xs i d) d below)

module _ {X Y : Type 0} (f : X → List Y) where
  from_each : (xs : List X) (y : Y) → Contains (flat_map f xs) y → (x : X) × Contains xs x × Contains (f x) y
  from_each [] y (k, below, here) = absurd (omega (arith, below))
  from_each (x ∷ xs) y among = elim (Contains-append_cases (f x) (flat_map f xs) y among) [
    | inl first ↦ (x, (zero, omega arith, refl), first)
    | inr later ↦ let (z, there, inside) = from_each xs y later in (z, later_member x z xs there, inside)
  ]

  to_each : (xs : List X) (x : X) (y : Y) → Contains xs x → Contains (f x) y → Contains (flat_map f xs) y
  to_each [] x y (k, below, here) inside = absurd (omega (arith, below))
  to_each (z ∷ xs) x y (zero, below, here) inside =
      Contains-append_left (f z) (flat_map f xs) y (subst (λ (w : X). Contains (f w) y) (sym here) inside)
  to_each (z ∷ xs) x y (suc k, below, here) inside =
      Contains-append_right (f z) (flat_map f xs) y (to_each xs x y (k, omega (arith, below), here) inside)

-- ---- the order of lists that are put together

module _ {Y : Type 0} (R : Y → Y → Type 0) where
  pairs_append : (xs ys : List Y) → AllPairs R xs → AllPairs R ys → ((y z : Y) → Contains xs y → Contains ys z → R y z) → AllPairs R (xs ++ ys)
  pairs_append [] ys first second between = second
  pairs_append (x ∷ xs) ys first second between =
      AllPairs-cons R x (xs ++ ys)
      (All-append (R x) xs ys (λ k d below. first zero (suc k) d (omega arith) (omega (arith, below)))
      (all_members (R x) ys (λ z among. between x z (zero, omega arith, refl) among)))
      (pairs_append xs ys (λ i j d less below. first (suc i) (suc j) d (omega (arith, less)) (omega (arith, below))) second
      (λ y z there among. between y z (later_member x y xs there) among))

  pairs_map : {X : Type 0} (f : X → Y) (xs : List X) → AllPairs (λ x z. R (f x) (f z)) xs → AllPairs R (map f xs)
  pairs_map f [] pairs = λ i j d less below. absurd (omega (arith, less, below))
  pairs_map f (x ∷ xs) pairs =
      AllPairs-cons R (f x) (map f xs)
      (All-map (R (f x)) f xs (λ k d below. pairs zero (suc k) d (omega arith) (omega (arith, below))))
      (pairs_map f xs (λ i j d less below. pairs (suc i) (suc j) d (omega (arith, less)) (omega (arith, below))))

module _ {X Y : Type 0} (S : X → X → Type 0) (R : Y → Y → Type 0) (f : X → List Y) where
  pairs_of_each : (xs : List X) → AllPairs S xs → ((x : X) → AllPairs R (f x))
      → ((x z : X) → S x z → (y w : Y) → Contains (f x) y → Contains (f z) w → R y w) → AllPairs R (flat_map f xs)
  pairs_of_each [] apart each between = λ i j d less below. absurd (omega (arith, less, below))
  pairs_of_each (x ∷ xs) apart each between =
      pairs_append R (f x) (flat_map f xs) (each x)
      (pairs_of_each xs (λ i j d less below. apart (suc i) (suc j) d (omega (arith, less)) (omega (arith, below))) each between)
      (λ y w among later.
      let (z, there, inside) = from_each f xs w later in
      let first : All (S x) xs = λ k d below. apart zero (suc k) d (omega arith) (omega (arith, below)) in
      between x z (All-contains (S x) xs z first there) y w among inside)

range_in_order : (n : ℕ) → AllPairs (λ j k. j < k) (range_with_len 0 n)
range_in_order n = AllPairs-from_increasing (range_with_len 0 n) (range_rises n)

-- ---- those of one run

all_pass : {Y : Type 0} (ys : List Y) → filter (λ y. true) ys ≡ ys
all_pass [] = refl
all_pass {Y = Y} (y ∷ ys) = ap (λ (zs : List Y). y ∷ zs) (all_pass ys)

module _ (run : ℕ) where
  abbrev is_of : ToldTie → Bool
  is_of t = t.run == run

  kept_whole : (ts : List ToldTie) → All (λ (t : ToldTie). t.run ≡ run) ts → filter is_of ts ≡ ts
  kept_whole ts all = filter_same is_of (λ t. true) ts (λ i d below. eq-eqb (get_or ts i d).run run (all i d below)) ∙ all_pass ts

  module _ (f : ℕ → List ToldTie) (of : (k : ℕ) → All (λ (t : ToldTie). t.run ≡ k) (f k)) where
    others_out : (k : ℕ) → k ≢ run → filter is_of (f k) ≡ []
    others_out k other =
        filter_same is_of (λ t. false) (f k) (λ i d below. ne_eqb (get_or (f k) i d).run run (λ same. other (sym (of k i d below) ∙ same)))
        ∙ none_pass (f k)

    abbrev kept_from : (from n : ℕ) → List ToldTie
    kept_from from n = filter is_of (flat_map f (range_with_len from n))

    none_from : (from n : ℕ) → run < from → kept_from from n ≡ []
    none_from from zero past = refl
    none_from from (suc n) past =
        filter-append is_of (f from) (flat_map f (range_with_len (from + 1) n))
        ∙ ap (λ (ts : List ToldTie). ts ++ kept_from (from + 1) n) (others_out from (λ same. omega (arith, same, past)))
        ∙ none_from (from + 1) n (omega (arith, past))

    one_from : (from n : ℕ) → from ≤ run → run < from + n → kept_from from n ≡ f run
    one_from from zero low high = absurd (omega (arith, low, high))
    one_from from (suc n) low high = elim (cases_eq from run) [
      | inl same ↦
          filter-append is_of (f from) (flat_map f (range_with_len (from + 1) n))
          ∙ ap (λ (ts : List ToldTie). filter is_of (f from) ++ ts) (none_from (from + 1) n (omega (arith, same)))
          ∙ append-nil (filter is_of (f from))
          ∙ kept_whole (f from) (λ i d below. of from i d below ∙ same)
          ∙ ap f same
      | inr other ↦
          filter-append is_of (f from) (flat_map f (range_with_len (from + 1) n))
          ∙ ap (λ (ts : List ToldTie). ts ++ kept_from (from + 1) n) (others_out from other)
          ∙ one_from (from + 1) n (omega (arith, low, other)) (omega (arith, high))
    ]

-- ---- the members

module _ (x : CountedElectionView) where
  abbrev options : CountOptions
  options = x.rule.options

  abbrev s : SupportView
  s = support_in options.grain x.election

  abbrev share_of : ℕ → ℕ
  share_of run = share_by options.completion options.grain x.election (step_of x.election options) run

  abbrev elected_of : ℕ → List ElectedView
  elected_of run = (outcome_of options.measure options.grain x.election (share_of run)).elected

  abbrev ties_of : (run round : ℕ) → List Tie
  ties_of run round = ties_in options.measure s (share_of run) (elected_of run) round

  abbrev ties_at : ℕ → List Tie
  ties_at number =
      ties_with_added (support_of x.election) (record x.counted { added = take (number + 1) x.counted.added }) (slice_index x.counted.added number)

  many : length s.costs ≡ length x.election.projects
  many = length-map x.election.projects (λ (p : ProjectView). p.cost)

  module _ (run number : ℕ) (ties : List Tie) where
    abbrev put : Tie → ToldTie
    put t = record { run = run; number = number; tie = t }

    abbrev with_project : ℕ → List Tie
    with_project place = filter (λ (t : Tie). t.other == place) ties

    abbrev IsTold : ToldTie → Type 0
    IsTold t = (t.run ≡ run) × (t.number ≡ number) × Contains ties t.tie

    from_told : (t : ToldTie) → Contains (told_as x run number ties) t → IsTold t
    from_told t among =
        let (tie, within, is_put) = from_map put t.tie (flat_map with_project (in_file x)) t among in
        let (place, known, here) = from_each with_project (in_file x) tie within in (
          sym (ap (λ (r : ToldTie). r.run) is_put),
          sym (ap (λ (r : ToldTie). r.number) is_put),
          subst (λ (u : Tie). Contains ties u) (ap (λ (r : ToldTie). r.tie) is_put) (was_there (λ (u : Tie). u.other == place) ties tie here),
        )

  -- a tie of a round
  in_round : (run round : ℕ) (t : Tie) → Contains (ties_of run round) t
      → (round < length (elected_of run)) × (t.other < length x.election.projects) × (is_some t.round ≡ true)
  in_round run round t among =
      let (w, at, (place, known, tied, same)) = tie_of_round options.measure s (share_of run) (elected_of run) round t among in
      let other : t.other ≡ place = ap (λ (u : Tie). u.other) same in
      (slice_get_within (elected_of run) round w at, omega (arith, other, known, many), ap (λ (u : Tie). is_some u.round) same)

  abbrev rows_of : (run round : ℕ) → List ToldTie
  rows_of run round = told_as x run (round + 1) (ties_of run round)

  abbrev IsOfRun : ℕ → ToldTie → Type 0
  IsOfRun run t = (t.run ≡ run) × ((round : ℕ) × (t.number ≡ round + 1) × Contains (ties_of run round) t.tie)

  from_run : (run : ℕ) (t : ToldTie) → Contains (run_ties x run) t → IsOfRun run t
  from_run run t among =
      let (round, listed, here) = from_each (rows_of run) (range_with_len 0 (length (elected_of run))) t among in
      let (of_run, numbered, tied) = from_told run (round + 1) (ties_of run round) t here in
      (of_run, (round, numbered, tied))

  run_has_round : (run : ℕ) (t : ToldTie) → Contains (run_ties x run) t → is_some t.tie.round ≡ true
  run_has_round run t among =
      let (of_run, (round, numbered, tied)) = from_run run t among in
      let (below, known, has) = in_round run round t.tie tied in has

  -- a tie of an added project
  in_added : (number : ℕ) (t : Tie) → Contains (ties_at number) t → (t.other < length x.election.projects) × (t.round ≡ None)
  in_added number t among =
      let (place, known, lost, votes, costs, same) =
      tie_of_added (support_of x.election) (record x.counted { added = take (number + 1) x.counted.added }) (slice_index x.counted.added number) t among in
      let other : t.other ≡ place = ap (λ (u : Tie). u.other) same in
      (omega (arith, other, known, length-map x.election.projects (λ (p : ProjectView). p.cost)), ap (λ (u : Tie). u.round) same)

  abbrev added_rows_of : ℕ → List ToldTie
  added_rows_of number = told_as x x.counted.outcome.raised (number + 1) (ties_at number)

  abbrev IsOfAdded : ToldTie → Type 0
  IsOfAdded t = (t.run ≡ x.counted.outcome.raised)
      × ((number : ℕ) × (number < length x.counted.added) × (t.number ≡ number + 1) × Contains (ties_at number) t.tie)

  from_added : (t : ToldTie) → Contains (added_ties x) t → IsOfAdded t
  from_added t among =
      let (number, listed, here) = from_each added_rows_of (range_with_len 0 (length x.counted.added)) t among in
      let (of_run, numbered, tied) = from_told x.counted.outcome.raised (number + 1) (ties_at number) t here in
      let below = All-contains (λ k. k < length x.counted.added) (range_with_len 0 (length x.counted.added)) number (range_below (length x.counted.added)) listed in
      (of_run, (number, below, numbered, tied))

  added_has_none : (t : ToldTie) → Contains (added_ties x) t → t.tie.round ≡ None
  added_has_none t among =
      let (of_run, (number, below, numbered, tied)) = from_added t among in
      let (known, none) = in_added number t.tie tied in none

  -- ---- those of the answered run, and of the added

  below_runs : (b : Bool) → x.counted.outcome.raised < x.counted.outcome.raised + (if b then 1 else 2)
  below_runs true = omega arith
  below_runs false = omega arith

  pub answered_are : filter (λ (t : ToldTie). t.run == x.counted.outcome.raised) (all_ties x) ≡ run_ties x x.counted.outcome.raised ++ added_ties x
  unfolding all_ties
  answered_are =
      let raised = x.counted.outcome.raised in
      let runs = flat_map (run_ties x) (range_with_len 0 (runs_of x)) in
      filter-append (is_of raised) runs (added_ties x)
      ∙ ap (λ (ts : List ToldTie). ts ++ filter (is_of raised) (added_ties x))
      (one_from raised (run_ties x)
      (λ k. all_members (λ (t : ToldTie). t.run ≡ k) (run_ties x k) (λ t among. (from_run k t among).0))
      0 (runs_of x) (omega arith) (omega (arith, below_runs (is_some (count_of x.election (record options { max_raises = raised }))))))
      ∙ ap (λ (ts : List ToldTie). run_ties x raised ++ ts)
      (kept_whole raised (added_ties x) (all_members (λ (t : ToldTie). t.run ≡ raised) (added_ties x) (λ t among. (from_added t among).0)))

  -- ---- which are told

  abbrev IsTieOfAll : ToldTie → Type 0
  IsTieOfAll t = ((t.run < runs_of x) × ((round : ℕ) × (t.number ≡ round + 1) × Contains (ties_of t.run round) t.tie)) ⊎ IsOfAdded t

  pub from_all : (t : ToldTie) → Contains (all_ties x) t → IsTieOfAll t
  unfolding all_ties
  from_all t among = elim (Contains-append_cases (flat_map (run_ties x) (range_with_len 0 (runs_of x))) (added_ties x) t among) [
    | inl early ↦
        let (run, listed, here) = from_each (run_ties x) (range_with_len 0 (runs_of x)) t early in
        let (of_run, (round, numbered, tied)) = from_run run t here in
        let known = All-contains (λ k. k < runs_of x) (range_with_len 0 (runs_of x)) run (range_below (runs_of x)) listed in
        inl (
          subst (λ k. k < runs_of x) (sym of_run) known,
          (round, numbered, subst (λ k. Contains (ties_of k round) t.tie) (sym of_run) tied),
        )
    | inr late ↦ inr (from_added t late)
  ]

  module _ (is : IsCountedElection x) where
    to_told : (run number : ℕ) (ties : List Tie) (t : ToldTie) → IsTold run number ties t → t.tie.other < length x.election.projects
        → Contains (told_as x run number ties) t
    to_told run number ties t (of_run, numbered, among) known =
        let n = length x.election.projects in
        let other = t.tie.other in
        let place = slice_index x.order other in
        let within : other < length x.order = omega (arith, known, is.one_each) in
        let below : place < n = omega (arith, order_known x.order is.is_order other 0 within, is.one_each) in
        let listed : Contains (in_file x) other =
        subst (λ p. Contains (in_file x) p) (place_back x.order is.is_order other within)
        (to_map (position_in x.order) (range_with_len 0 n) place (in_range n place below)) in
        let is_put : put run number ties t.tie ≡ t = λ i. record { run = sym of_run i; number = sym numbered i; tie = t.tie } in
        subst (λ (u : ToldTie). Contains (told_as x run number ties) u) is_put
        (to_map (put run number ties) (flat_map (with_project run number ties) (in_file x)) t.tie
        (to_each (with_project run number ties) (in_file x) other t.tie listed
        (is_kept (λ (u : Tie). u.other == other) ties t.tie among (eq-eqb other other refl))))

    to_run : (run : ℕ) (t : ToldTie) → IsOfRun run t → Contains (run_ties x run) t
    to_run run t (of_run, (round, numbered, tied)) =
        let (below, known, has) = in_round run round t.tie tied in
        to_each (rows_of run) (range_with_len 0 (length (elected_of run))) round t (in_range (length (elected_of run)) round below)
        (to_told run (round + 1) (ties_of run round) t (of_run, numbered, tied) known)

    to_added : (t : ToldTie) → IsOfAdded t → Contains (added_ties x) t
    to_added t (of_run, (number, below, numbered, tied)) =
        let (known, none) = in_added number t.tie tied in
        to_each added_rows_of (range_with_len 0 (length x.counted.added)) number t (in_range (length x.counted.added) number below)
        (to_told x.counted.outcome.raised (number + 1) (ties_at number) t (of_run, numbered, tied) known)

    pub to_all : (t : ToldTie) → IsTieOfAll t → Contains (all_ties x) t
    unfolding all_ties
    to_all t is_one =
        let runs = flat_map (run_ties x) (range_with_len 0 (runs_of x)) in
        elim is_one [
          | inl (known, (round, numbered, tied)) ↦
              Contains-append_left runs (added_ties x) t
              (to_each (run_ties x) (range_with_len 0 (runs_of x)) t.run t (in_range (runs_of x) t.run known)
              (to_run t.run t (refl, (round, numbered, tied))))
          | inr late ↦ Contains-append_right runs (added_ties x) t (to_added t late)
        ]

    -- ---- in which order

    abbrev InFile : ℕ → ℕ → Type 0
    InFile p q = slice_index x.order p < slice_index x.order q

    abbrev IsBefore : ToldTie → ToldTie → Type 0
    IsBefore t u = ((is_some t.tie.round ≡ true) × (u.tie.round ≡ None))
        ⊎ ((is_some t.tie.round ≡ is_some u.tie.round) × ((t.run < u.run) ⊎ ((t.run ≡ u.run)
        × ((t.number < u.number) ⊎ ((t.number ≡ u.number) × InFile t.tie.other u.tie.other)))))

    places_rise : AllPairs InFile (in_file x)
    places_rise =
        let n = length x.election.projects in
        pairs_map InFile (position_in x.order) (range_with_len 0 n)
        (λ i j d less below.
        let short : j < n = omega (arith, below, length-range_with_len 0 n) in
        let shorter : i < n = omega (arith, less, short) in
        let first = get_or-range_with_len 0 n i d shorter in
        let second = get_or-range_with_len 0 n j d short in
        let one = (position_known x.order is.is_order (get_or (range_with_len 0 n) i d) (omega (arith, first, shorter, is.one_each))).1 in
        let other = (position_known x.order is.is_order (get_or (range_with_len 0 n) j d) (omega (arith, second, short, is.one_each))).1 in
        omega (arith, one, other, first, second, less))

    module _ (run number : ℕ) (ties : List Tie) (rises : IsStrictlyIncreasing (map (λ (t : Tie). t.other) ties))
        (kind : Bool) (alike : (t : Tie) → Contains ties t → is_some t.round ≡ kind) where
      others_rise : AllPairs (λ (t u : Tie). t.other < u.other) ties
      others_rise = λ i j d less below.
          let others = map (λ (t : Tie). t.other) ties in
          let more = AllPairs-from_increasing others rises i j d.other less (omega (arith, below, length-map ties (λ (t : Tie). t.other))) in
          let first = get_or-map (λ (t : Tie). t.other) ties i d d.other (omega (arith, less, below)) in
          let second = get_or-map (λ (t : Tie). t.other) ties j d d.other below in
          omega (arith, more, first, second)

      -- no two are with one project
      one_with_project : (place : ℕ) → AllPairs (λ (t u : Tie). IsBefore (put run number ties t) (put run number ties u)) (with_project run number ties place)
      one_with_project place = λ i j d less below.
          let test : Tie → Bool = λ t. t.other == place in
          let kept = filter test ties in
          let more = AllPairs-filter (λ (t u : Tie). t.other < u.other) test ties others_rise i j d less below in
          let first = eqb-true (get_or kept i d).other place (filter_passes test ties i d (omega (arith, less, below))) in
          let second = eqb-true (get_or kept j d).other place (filter_passes test ties j d below) in
          absurd (omega (arith, more, first, second))

      is_with : (place : ℕ) (t : Tie) → Contains (with_project run number ties place) t → t.other ≡ place
      is_with place t among =
          let test : Tie → Bool = λ u. u.other == place in
          eqb-true t.other place (All-contains (λ (u : Tie). test u ≡ true) (filter test ties) t (filter_passes test ties) among)

      is_alike : (place : ℕ) (t : Tie) → Contains (with_project run number ties place) t → is_some t.round ≡ kind
      is_alike place t among = alike t (was_there (λ (u : Tie). u.other == place) ties t among)

      told_in_order : AllPairs IsBefore (told_as x run number ties)
      told_in_order =
          pairs_map IsBefore (put run number ties) (flat_map (with_project run number ties) (in_file x))
          (pairs_of_each InFile (λ (t u : Tie). IsBefore (put run number ties t) (put run number ties u)) (with_project run number ties) (in_file x) places_rise
          one_with_project
          (λ p q less t u at_p at_q.
          let first = ap (slice_index x.order) (is_with p t at_p) in
          let second = ap (slice_index x.order) (is_with q u at_q) in
          inr (is_alike p t at_p ∙ sym (is_alike q u at_q), inr (refl, inr (refl, omega (arith, less, first, second))))))

    round_alike : (run round : ℕ) (t : Tie) → Contains (ties_of run round) t → is_some t.round ≡ true
    round_alike run round t among = let (below, known, has) = in_round run round t among in has

    rounds_in_order : (run : ℕ) → AllPairs IsBefore (run_ties x run)
    rounds_in_order run =
        pairs_of_each (λ j k. j < k) IsBefore (rows_of run) (range_with_len 0 (length (elected_of run))) (range_in_order (length (elected_of run)))
        (λ round. told_in_order run (round + 1) (ties_of run round)
        (others_of_round_rise options.measure s (share_of run) (elected_of run) round) true (round_alike run round))
        (λ j k less t u at_j at_k.
        let (run_t, number_t, tied_t) = from_told run (j + 1) (ties_of run j) t at_j in
        let (run_u, number_u, tied_u) = from_told run (k + 1) (ties_of run k) u at_k in
        inr (
          round_alike run j t.tie tied_t ∙ sym (round_alike run k u.tie tied_u),
          inr (run_t ∙ sym run_u, inl (omega (arith, less, number_t, number_u))),
        ))

    runs_in_order : AllPairs IsBefore (flat_map (run_ties x) (range_with_len 0 (runs_of x)))
    runs_in_order =
        pairs_of_each (λ j k. j < k) IsBefore (run_ties x) (range_with_len 0 (runs_of x)) (range_in_order (runs_of x)) rounds_in_order
        (λ j k less t u at_j at_k.
        let (run_t, of_t) = from_run j t at_j in
        let (run_u, of_u) = from_run k u at_k in
        inr (run_has_round j t at_j ∙ sym (run_has_round k u at_k), inl (omega (arith, less, run_t, run_u))))

    added_alike : (number : ℕ) (t : Tie) → Contains (ties_at number) t → is_some t.round ≡ false
    added_alike number t among = let (known, none) = in_added number t among in ap is_some none

    added_in_order : AllPairs IsBefore (added_ties x)
    added_in_order =
        let c = x.counted in
        pairs_of_each (λ j k. j < k) IsBefore added_rows_of (range_with_len 0 (length c.added)) (range_in_order (length c.added))
        (λ number. told_in_order c.outcome.raised (number + 1) (ties_at number)
        (others_of_added_rise (support_of x.election) (record c { added = take (number + 1) c.added }) (slice_index c.added number)) false (added_alike number))
        (λ j k less t u at_j at_k.
        let (run_t, number_t, tied_t) = from_told c.outcome.raised (j + 1) (ties_at j) t at_j in
        let (run_u, number_u, tied_u) = from_told c.outcome.raised (k + 1) (ties_at k) u at_k in
        inr (
          added_alike j t.tie tied_t ∙ sym (added_alike k u.tie tied_u),
          inr (run_t ∙ sym run_u, inl (omega (arith, less, number_t, number_u))),
        ))

    pub all_in_order : AllPairs IsBefore (all_ties x)
    unfolding all_ties
    all_in_order =
        let runs = flat_map (run_ties x) (range_with_len 0 (runs_of x)) in
        pairs_append IsBefore runs (added_ties x) runs_in_order added_in_order
        (λ t u early late.
        let (run, listed, here) = from_each (run_ties x) (range_with_len 0 (runs_of x)) t early in
        inl (run_has_round run t here, added_has_none u late))
