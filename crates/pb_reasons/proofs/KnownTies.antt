-- The projects of all ties are projects of the election.
use Rattle.std.proofs.Common.{◌<◌, ◌+◌, ◌∷◌, [], ℕ, zero, suc, Bool, List, Option, None, Some, IfSome, All, arith, get_or, length, map, replicate, slice_get, slice_index, subst, sym, take}
use Rattle.std.specs.Prelude.{◌==◌, filter, flat_map}
use Rattle.std.specs.List.{range_with_len}
use Rattle.std.specs.Option.{option_map_or}
use Rattle.std.proofs.lemmas.Bool.{eqb-true}
use Rattle.std.proofs.lemmas.List.Elements.{All-append, All-filter, All-head, All-map, All-nil, All-tail, filter_passes}
use Rattle.std.proofs.lemmas.List.FromFn.{get_or-range_with_len, length-range_with_len}
use Rattle.pb_core.specs.Order.{position_in}
use Rattle.pb_price.specs.Supporters.{support_in, support_of}
use Rattle.pb_rounds.specs.Cheapest.{rests_after}
use Rattle.pb_rounds.specs.Count.{share_by, step_of}
use Rattle.pb_rounds.specs.Run.{ElectedView, outcome_of}
use Rattle.pb_reasons.specs.AllTies.{added_ties, all_ties, run_ties, runs_of, told_as}
use Rattle.pb_reasons.specs.CountedElection.{CountedElectionView, IsCountedElection, in_file}
use Rattle.pb_reasons.specs.Inner.AllTies.{IsTieOf, round_ties, ties_at_added}
use Rattle.pb_reasons.specs.Ties.{is_tied, ties_in, ties_with_added}
use Rattle.pb_reasons.specs.declared.tie.Tie.{Tie}
use Rattle.pb_reasons.specs.declared.told_tie.ToldTie.{ToldTie}
use Rattle.pb_reasons.proofs.ElectedPlaces.{run_elects_projects}
use Rattle.pb_reasons.proofs.Results.{counted_is_result, result_is_added}
use Rattle.pb_reasons.proofs.Sorted.{position_known}

module _ {X Y : Type 0} (P : Y → Type 0) (f : X → List Y) where
  all_of_each : (xs : List X) → All (λ x. All P (f x)) xs → All P (flat_map f xs)
  all_of_each [] h = All-nil P
  all_of_each (x ∷ xs) h =
      All-append P (f x) (flat_map f xs) (All-head (λ x. All P (f x)) x xs h) (all_of_each xs (All-tail (λ x. All P (f x)) x xs h))

got_known : {X : Type 0} (P : X → Type 0) (xs : List X) (i : ℕ) → All P xs → IfSome (slice_get xs i) P
got_known P [] i h = tt
got_known P (x ∷ xs) zero h = All-head P x xs h
got_known P (x ∷ xs) (suc i) h = got_known P xs i (All-tail P x xs h)

-- what all of a list with some more after the first have, at this index
at_index : (P : ℕ → Type 0) (xs : List ℕ) (i : ℕ) → i < length xs → All P xs → P (slice_index xs i)
at_index P xs i below h = h i 0 below

module _ (x : CountedElectionView) (is : IsCountedElection x) where
  abbrev n : ℕ
  n = length x.election.projects

  abbrev IsKnown : ToldTie → Type 0
  IsKnown t = IsTieOf x.election t.tie

  position_of : (k d : ℕ) → k < length (range_with_len 0 n) → position_in x.order (get_or (range_with_len 0 n) k d) < n
  position_of k d below =
      let short : k < n = omega (arith, below, length-range_with_len 0 n) in
      let at = (position_known x.order is.is_order (get_or (range_with_len 0 n) k d) (omega (arith, get_or-range_with_len 0 n k d short, short, is.one_each))).0 in
      omega (arith, at, is.one_each)

  in_file_known : All (λ place. place < n) (in_file x)
  in_file_known = All-map (λ place. place < n) (position_in x.order) (range_with_len 0 n) position_of

  module _ (ties : List Tie) (chosen : All (λ t. t.winner < n) ties) where
    abbrev at : ℕ → List Tie
    at place = filter (λ (t : Tie). t.other == place) ties

    at_known : (place : ℕ) → place < n → All (IsTieOf x.election) (at place)
    at_known place below k d within = (
      All-filter (λ (t : Tie). t.other == place) (λ t. t.winner < n) ties chosen k d within,
      subst (λ other. other < n) (sym (eqb-true _ _ (filter_passes (λ (t : Tie). t.other == place) ties k d within))) below,
    )

    told_known : (run number : ℕ) → All IsKnown (told_as x run number ties)
    told_known run number =
        All-map IsKnown (λ t. record { run = run; number = number; tie = t }) (flat_map at (in_file x))
        (all_of_each (IsTieOf x.election) at (in_file x) (λ k d below. at_known (get_or (in_file x) k d) (in_file_known k d below)))

  chosen_known : (round : Option ℕ) (winner : ℕ) (others : List ℕ) → winner < n
      → All (λ (t : Tie). t.winner < n) (map (λ place. record { round = round; winner = winner; other = place }) others)
  chosen_known round winner others below =
      All-map (λ (t : Tie). t.winner < n) (λ place. record { round = round; winner = winner; other = place }) others (λ k d within. below)

  of_winner : (round : ℕ) (test : ElectedView → ℕ → Bool) (places : List ℕ) (o : Option ElectedView) → IfSome o (λ w. w.place < n)
      → All (λ (t : Tie). t.winner < n)
      (option_map_or (λ w. map (λ place. record { round = Some (round + 1); winner = w.place; other = place }) (filter (test w) places)) o [])
  of_winner round test places None h = All-nil (λ (t : Tie). t.winner < n)
  of_winner round test places (Some w) h = chosen_known (Some (round + 1)) w.place (filter (test w) places) h

  round_known : (run share : ℕ) (elected : List ElectedView) (round : ℕ) → All (λ w. w.place < n) elected → All IsKnown (round_ties x run share elected round)
  round_known run share elected round all =
      let s = support_in x.rule.options.grain x.election in
      let m = x.rule.options.measure in
      told_known (ties_in m s share elected round)
      (of_winner round (is_tied m s (take (round + 1) elected) (rests_after s (replicate s.voters share) (take round elected))) (range_with_len 0 (length s.costs))
      (slice_get elected round) (got_known (λ (w : ElectedView). w.place < n) elected round all))
      run (round + 1)

  run_known : (run : ℕ) → All IsKnown (run_ties x run)
  run_known run =
      let grain = x.rule.options.grain in
      let share = share_by x.rule.options.completion grain x.election (step_of x.election x.rule.options) run in
      let elected = (outcome_of x.rule.options.measure grain x.election share).elected in
      all_of_each IsKnown (round_ties x run share elected) (range_with_len 0 (length elected))
      (λ k d below. round_known run share elected (get_or (range_with_len 0 (length elected)) k d)
      (run_elects_projects x.rule.options.measure grain x.election share).known)

  pub added_are_known : All (λ place. place < n) x.counted.added
  added_are_known = (result_is_added x.election x.counted is.is_election (counted_is_result x is)).known

  one_added_known : (number : ℕ) → number < length x.counted.added → All IsKnown (ties_at_added x number)
  one_added_known number below =
      let winner = slice_index x.counted.added number in
      told_known (ties_with_added (support_of x.election) (record x.counted { added = take (number + 1) x.counted.added }) winner)
      (chosen_known None winner _ (at_index (λ place. place < n) x.counted.added number below added_are_known))
      x.counted.outcome.raised (number + 1)

  -- both projects of each tie
  pub all_known : All IsKnown (all_ties x)
  unfolding all_ties
  all_known =
      let many = length x.counted.added in
      All-append IsKnown (flat_map (run_ties x) (range_with_len 0 (runs_of x))) (added_ties x)
      (all_of_each IsKnown (run_ties x) (range_with_len 0 (runs_of x)) (λ k d below. run_known (get_or (range_with_len 0 (runs_of x)) k d)))
      (all_of_each IsKnown (ties_at_added x) (range_with_len 0 many)
      (λ k d below.
      let short : k < many = omega (arith, below, length-range_with_len 0 many) in
      one_added_known (get_or (range_with_len 0 many) k d) (omega (arith, short, get_or-range_with_len 0 many k d short))))
