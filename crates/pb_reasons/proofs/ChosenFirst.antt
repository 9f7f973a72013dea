-- Of each tie that is told the chosen project comes before the other one in the order of ties.
use Rattle.std.proofs.Common.{◌≡◌, ◌≢◌, ◌∙◌, ◌<◌, ◌+◌, ◌-◌, ℕ, Bool, true, false, not, List, [], ◌∷◌, ◌++◌, Option, None, Some, ap, append_assoc, arith, drop, get_or, length, map, refl, replicate, slice_index, subst, sym, take}
use Rattle.std.specs.Prelude.{◌==◌, ◌||◌, All, filter, flat_map}
use Rattle.std.specs.List.{range_with_len}
use Rattle.std.specs.Option.{option_map_or}
use Rattle.std.proofs.lemmas.Bool.{and_parts, eqb-false, eqb-true, false≢true, not-true, or_parts}
use Rattle.std.proofs.lemmas.List.{drop_more, get_or_default, length-map, take-append-drop, take_more}
use Rattle.std.proofs.lemmas.List.Elements.{All-append, All-filter, All-head, All-map, All-nil, All-tail, All-take, filter_passes}
use Rattle.std.proofs.lemmas.List.Folds.{list_any-append}
use Rattle.pb_core.specs.Election.{ProjectView}
use Rattle.pb_core.specs.Order.{position_in}
use Rattle.pb_core.proofs.Members.{range_below}
use Rattle.pb_price.proofs.Prices.{is_price_from_at}
use Rattle.pb_price.proofs.SupporterLists.{cost_positive}
use Rattle.pb_price.specs.Price.{PriceView, price_at}
use Rattle.pb_price.specs.Supporters.{SupportView, support_in, support_of}
use Rattle.pb_rounds.proofs.Added.{election_is_filled}
use Rattle.pb_rounds.proofs.Filled.{rule_from_filled}
use Rattle.pb_rounds.proofs.RunIs.{words_of_run}
use Rattle.pb_rounds.specs.Cheapest.{IsRun, rests_after}
use Rattle.pb_rounds.specs.Count.{share_by, spent_on, step_of}
use Rattle.pb_rounds.specs.MostVotes.{IsMostVotesFirst, is_taken, most_votes_first, votes_at}
use Rattle.pb_rounds.specs.Outcome.{OutcomeView}
use Rattle.pb_rounds.specs.Run.{ElectedView, RunView, is_elected, outcome_of}
use Rattle.pb_rounds.specs.declared.measure.Measure.{Measure}
use Rattle.pb_rounds.specs.declared.rule.FillUp.{FillUp}
use Rattle.pb_rounds.specs.declared.rule.FillUp.TheVariants.{Nothing, MostVotes}
use Rattle.pb_reasons.specs.AllTies.{added_ties, all_ties, answered_ties, run_ties, runs_of}
use Rattle.pb_reasons.specs.Counted.{CountedView, counted}
use Rattle.pb_reasons.specs.CountedElection.{CountedElectionView, IsCountedElection}
use Rattle.pb_reasons.specs.Inner.AllTies.{is_equal_to, round_ties, ties_at_added, told_with, with_other}
use Rattle.pb_reasons.specs.Inner.Rounds.{is_as_good}
use Rattle.pb_reasons.specs.Ties.{is_tied}
use Rattle.pb_reasons.specs.declared.told_tie.ToldTie.{ToldTie}
use Rattle.pb_reasons.proofs.Far.{told_of}
use Rattle.pb_reasons.proofs.RoundTies.{added_rows, round_rows, run_rows}
use Rattle.pb_reasons.proofs.Sorted.{position_known}
use Rattle.pb_reasons.proofs.TieOrder.{as_good_is_later, first_is_before, others_from}

abbrev IsChosenFirst : ToldTie → Type 0
IsChosenFirst r = r.tie.winner < r.tie.other

all_of_each : {X : Type 0} (f : X → List ToldTie) (xs : List X) → All (λ x. All IsChosenFirst (f x)) xs → All IsChosenFirst (flat_map f xs)
all_of_each f [] all = All-nil IsChosenFirst
all_of_each f (x ∷ xs) all =
    All-append IsChosenFirst (f x) (flat_map f xs) (All-head (λ x. All IsChosenFirst (f x)) x xs all)
    (all_of_each f xs (All-tail (λ x. All IsChosenFirst (f x)) x xs all))

all_in_range : (f : ℕ → List ToldTie) (n : ℕ) → ((k : ℕ) → k < n → All IsChosenFirst (f k)) → All IsChosenFirst (flat_map f (range_with_len 0 n))
all_in_range f n each =
    all_of_each f (range_with_len 0 n) (λ i d below. each (get_or (range_with_len 0 n) i d) (range_below n i d below))

split_at : {X : Type 0} (xs : List X) (i : ℕ) (x : X) → i < length xs → x ≡ get_or xs i x → xs ≡ take i xs ++ x ∷ drop (i + 1) xs
split_at {X = X} xs i x below x_is =
    sym (take-append-drop i xs)
    ∙ ap (λ (zs : List X). take i xs ++ zs) (drop_more xs i x below ∙ ap (λ (y : X). y ∷ drop (i + 1) xs) (sym x_is))

front_is : {X : Type 0} (xs : List X) (i : ℕ) (x : X) → i < length xs → x ≡ get_or xs i x → take (i + 1) xs ≡ take i xs ++ x ∷ []
front_is {X = X} xs i x below x_is = take_more xs i x below ∙ ap (λ (y : X). take i xs ++ y ∷ []) (sym x_is)

module _ (x : CountedElectionView) (is : IsCountedElection x) where
  abbrev s : SupportView
  s = support_in x.rule.options.grain x.election

  -- the same for most votes first, which counts in hundredths
  abbrev u : SupportView
  u = support_of x.election

  abbrev m : Measure
  m = x.rule.options.measure

  abbrev o : OutcomeView
  o = x.counted.outcome

  many : length s.costs ≡ length x.election.projects
  many = length-map x.election.projects (λ (p : ProjectView). p.cost)

  told_later : (first : ToldTie) (test : ℕ → Bool)
      → ((position : ℕ) → position < length x.election.projects → test position ≡ true → first.tie.winner < position)
      → All IsChosenFirst (told_with x first test)
  told_later first test later =
      let n = length x.election.projects in
      let kept = filter (λ k. test (position_in x.order k)) (range_with_len 0 n) in
      All-map IsChosenFirst (λ k. with_other first (position_in x.order k)) kept
      (λ i d below.
      let place = get_or kept i d in
      let known : place < n = All-filter (λ k. test (position_in x.order k)) (λ k. k < n) (range_with_len 0 n) (range_below n) i d below in
      let at = position_known x.order is.is_order place (omega (arith, known, is.one_each)) in
      later (position_in x.order place) (omega (arith, at.0, is.one_each))
      (filter_passes (λ k. test (position_in x.order k)) (range_with_len 0 n) i d below))

  -- ---- in a run

  module _ (run share : ℕ) (elected : List ElectedView) (rests : List ℕ) (words : IsRun m s share elected rests) where
    abbrev rests_at : ℕ → List ℕ
    rests_at i = rests_after s (replicate s.voters share) (take i elected)

    module _ (i : ℕ) (w : ElectedView) (below : i < length elected) (w_is : w ≡ get_or elected i w) where
      by_price : (position : ℕ) → position < length x.election.projects → is_elected (take (i + 1) elected) position ≡ false → (answer : Option PriceView)
          → price_at s (rests_at i) position ≡ answer → option_map_or (is_as_good m s w position) answer false ≡ true → w.place < position
      by_price position known free None priced good = absurd (false≢true good)
      by_price position known free (Some price) priced good =
          let front = take i elected in
          let both =
          or_parts (is_elected front position) ((w.place == position) || false)
          (sym (list_any-append (λ (v : ElectedView). v.place == position) front (w ∷ []))
          ∙ (ap (λ (ws : List ElectedView). is_elected ws position) (sym (front_is elected i w below w_is)) ∙ free)) in
          let apart : position ≢ w.place = λ same. eqb-false w.place position (or_parts (w.place == position) false both.1).0 (sym same) in
          let was = words.cheapest front w (drop (i + 1) elected) (split_at elected i w below w_is) in
          as_good_is_later m s w position price
          (was.cheapest position price (omega (arith, known, many), others_from front position both.0) apart
          (is_price_from_at s (rests_at i) position (cost_positive s words.is_support position (omega (arith, known, many))) (Some price) (sym priced))) good

      tied_later : (position : ℕ) → position < length x.election.projects → is_tied m s (take (i + 1) elected) (rests_at i) w position ≡ true → w.place < position
      tied_later position known tied =
          let parts = and_parts (not (is_elected (take (i + 1) elected) position)) _ tied in
          by_price position known (not-true (is_elected (take (i + 1) elected) position) parts.0) (price_at s (rests_at i) position) refl parts.1

      round_later : All IsChosenFirst (round_ties x run share elected i)
      round_later =
          let test = is_tied m s (take (i + 1) elected) (rests_at i) w in
          let first : ToldTie = record { run = run; number = i + 1; tie = record { round = Some (i + 1); winner = w.place; other = w.place } } in
          subst (All IsChosenFirst) (sym (told_of x first test (length s.costs) is many) ∙ round_rows x is run share elected i w below w_is (rests_at i) refl)
          (told_later first test tied_later)

  run_later : (run : ℕ) → All IsChosenFirst (run_ties x run)
  run_later run =
      let share = share_by x.rule.options.completion x.rule.options.grain x.election (step_of x.election x.rule.options) run in
      let result : RunView = outcome_of m x.rule.options.grain x.election share in
      let words = words_of_run m s share is.is_count.run_is.is_support in
      let nobody : ElectedView = record { place = 0; price = 0; exact = record { amount = 0; payers = 1 }; collected = 0 } in
      subst (All IsChosenFirst) (run_rows x is run share result.elected result.rests words refl)
      (all_in_range (round_ties x run share result.elected) (length result.elected)
      (λ i below. round_later run share result.elected result.rests words i (get_or result.elected i nobody) below (get_or_default result.elected i nobody _ below)))

  -- ---- among the added

  abbrev places : List ℕ
  places = map (λ (w : ElectedView). w.place) o.elected

  abbrev left : ℕ
  left = x.election.budget - spent_on u o.elected

  added_by : (fill_up : FillUp) → x.rule.fill_up ≡ fill_up → (number : ℕ) → number < length x.counted.added → IsMostVotesFirst u places left x.counted.added
  added_by Nothing now number below =
      let none = ap (λ (c : CountedView). length c.added) is.is_filled_up ∙ ap (λ (f : FillUp). length (counted x.election f o).added) now in
      absurd (omega (arith, below, none))
  added_by MostVotes now number below =
      let added_is = ap (λ (c : CountedView). c.added) is.is_filled_up ∙ ap (λ (f : FillUp). (counted x.election f o).added) now in
      subst (IsMostVotesFirst u places left) (sym added_is)
      (rule_from_filled u places left (most_votes_first u places left) (election_is_filled x.election places left is.is_election))

  equal_later : (number winner : ℕ) → number < length x.counted.added → winner ≡ get_or x.counted.added number winner → (position : ℕ)
      → is_equal_to u (places ++ take (number + 1) x.counted.added) winner position ≡ true → winner < position
  equal_later number winner below winner_is position equal =
      let added = x.counted.added in
      let front = take number added in
      let rule = added_by x.rule.fill_up refl number below in
      let parts = and_parts (not (is_taken (places ++ take (number + 1) added) position)) _ equal in
      let same = and_parts (votes_at u position == votes_at u winner) _ parts.1 in
      let all : places ++ take (number + 1) added ≡ (places ++ front) ++ winner ∷ [] =
      ap (λ (xs : List ℕ). places ++ xs) (front_is added number winner below winner_is) ∙ sym (append_assoc places front (winner ∷ [])) in
      let both =
      or_parts (is_taken (places ++ front) position) ((winner == position) || false)
      (sym (list_any-append (λ p. p == position) (places ++ front) (winner ∷ []))
      ∙ (ap (λ (xs : List ℕ). is_taken xs position) (sym all) ∙ not-true (is_taken (places ++ take (number + 1) added) position) parts.0)) in
      first_is_before u (places ++ front) _ winner position (rule.first front winner (drop (number + 1) added) (split_at added number winner below winner_is)) both.0
      (eqb-false winner position (or_parts (winner == position) false both.1).0) (eqb-true _ _ same.0) (eqb-true _ _ same.1)

  added_later : (number : ℕ) → number < length x.counted.added → All IsChosenFirst (ties_at_added x number)
  added_later number below =
      let added = x.counted.added in
      let winner = slice_index added number in
      let taken = places ++ take (number + 1) added in
      let first : ToldTie = record { run = o.raised; number = number + 1; tie = record { round = None; winner = winner; other = winner } } in
      subst (All IsChosenFirst) (sym (told_of x first (is_equal_to u taken winner) (length u.costs) is many) ∙ added_rows x is number winner taken refl refl)
      (told_later first (is_equal_to u taken winner)
      (λ position known. equal_later number winner below (get_or_default added number 0 winner below) position))

  all_added_later : All IsChosenFirst (added_ties x)
  all_added_later = all_in_range (ties_at_added x) (length x.counted.added) added_later

  -- in every run, and among the added
  in_all : All IsChosenFirst (all_ties x)
  unfolding all_ties
  in_all =
      All-append IsChosenFirst (flat_map (run_ties x) (range_with_len 0 (runs_of x))) (added_ties x)
      (all_in_range (run_ties x) (runs_of x) (λ run below. run_later run)) all_added_later

  in_answered : All IsChosenFirst (answered_ties x)
  unfolding answered_ties
  in_answered =
      let of_run : ToldTie → Bool = λ t. t.run == x.counted.outcome.raised in
      All-take IsChosenFirst 100 (filter of_run (all_ties x)) (All-filter of_run IsChosenFirst (all_ties x) in_all)

  pub chosen_come_first : All IsChosenFirst (all_ties x ++ answered_ties x)
  chosen_come_first = All-append IsChosenFirst (all_ties x) (answered_ties x) in_all in_answered
