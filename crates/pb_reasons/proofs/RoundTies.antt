-- The ties of a round as if it were the last, and those of an added project as if it were.
use Rattle.std.proofs.Common.{◌≡◌, ◌≢◌, ◌<◌, ◌+◌, ◌∙◌, ◌++◌, ◌∷◌, ◌||◌, [], ℕ, zero, suc, All, Bool, true, false, List, None, Option, Some, ap, arith, get_or, inl, inr, length, refl, replicate, set, slice_index, subst, sym, take}
use Rattle.std.specs.Prelude.{◌==◌, filter, flat_map, slice_index_or}
use Rattle.std.specs.List.{range_with_len}
use Rattle.std.proofs.lemmas.Bool.{cases_eq, eq-eqb, ne_eqb, or_left, or_right, true≢false}
use Rattle.std.proofs.lemmas.List.{get_or-set_other, get_or-set_same, length-map, length-set, take_more}
use Rattle.std.proofs.lemmas.List.Folds.{list_any-append}
use Rattle.std.proofs.lemmas.Option.{none-some}
use Rattle.pb_price.specs.Price.{HasPayers, PriceView}
use Rattle.pb_price.specs.Supporters.{SupportView, support_in, support_of}
use Rattle.pb_rounds.specs.Cheapest.{IsRun, rests_after}
use Rattle.pb_rounds.specs.Count.{share_by, step_of}
use Rattle.pb_rounds.specs.Key.{KeyView}
use Rattle.pb_rounds.specs.MostVotes.{is_taken}
use Rattle.pb_rounds.specs.Run.{ElectedView, RunView, is_elected, outcome_of}
use Rattle.pb_rounds.specs.declared.measure.Measure.{Measure}
use Rattle.pb_rounds.proofs.Payers.{run_has_payers}
use Rattle.pb_rounds.proofs.RunIs.{only_run}
use Rattle.pb_reasons.specs.AllTies.{run_ties, told_as}
use Rattle.pb_reasons.specs.Counted.{winners_of}
use Rattle.pb_reasons.specs.CountedElection.{CountedElectionView, IsCountedElection}
use Rattle.pb_reasons.specs.Inner.AllTies.{is_equal_to, round_ties, ties_at_added, told_with}
use Rattle.pb_reasons.specs.Inner.Rounds.{AreTieBounds, IsTieBound}
use Rattle.pb_reasons.specs.Inner.TieQueue.{AreQueued}
use Rattle.pb_reasons.specs.Ties.{is_tied}
use Rattle.pb_reasons.specs.declared.told_tie.ToldTie.{ToldTie}
use Rattle.pb_reasons.proofs.AllTies.{here_is}
use Rattle.pb_reasons.proofs.ElectedPlaces.{run_elects_projects}
use Rattle.pb_reasons.proofs.Far.{told_of}
use Rattle.pb_reasons.proofs.FileTies.{told_is}

or_false : (b : Bool) → (b || (false || false)) ≡ b
or_false true = refl
or_false false = refl

module _ (s : SupportView) (elected : List ElectedView) (i : ℕ) (w : ElectedView) (below : i < length elected) (w_is : w ≡ get_or elected i w) where
  with_one : (place : ℕ) → is_elected (take (i + 1) elected) place ≡ (is_elected (take i elected) place || ((w.place == place) || false))
  with_one place =
      ap (λ (ws : List ElectedView). is_elected ws place) (take_more elected i w below ∙ ap (λ (v : ElectedView). take i elected ++ v ∷ []) (sym w_is))
      ∙ list_any-append (λ (v : ElectedView). v.place == place) (take i elected) (w ∷ [])

  elected_now : (place : ℕ) → place ≡ w.place → is_elected (take (i + 1) elected) place ≡ true
  elected_now place same =
      with_one place ∙ or_right (is_elected (take i elected) place) _ (or_left (w.place == place) false (eq-eqb w.place place (sym same)))

  as_before : (place : ℕ) → place ≢ w.place → is_elected (take (i + 1) elected) place ≡ is_elected (take i elected) place
  as_before place other =
      with_one place ∙ ap (λ b. is_elected (take i elected) place || (b || false)) (ne_eqb w.place place (λ e. other (sym e)))
      ∙ or_false (is_elected (take i elected) place)

  -- the bounds once the winner has none
  module _ (rests : List ℕ) (bounds : List (Option PriceView)) (known : w.place < length s.costs) (h : AreTieBounds s (take i elected) rests bounds) where
    still : (place : ℕ) (bound : Option PriceView) → place ≢ w.place → IsTieBound s (take i elected) rests place bound → IsTieBound s (take (i + 1) elected) rests place bound
    still place None other is = λ left. is (sym (as_before place other) ∙ left)
    still place (Some bound) other is = (as_before place other ∙ is.0, is.1, is.2)

    none_there : slice_index_or (set bounds w.place None) w.place None ≡ None
    none_there = get_or-set_same bounds w.place None None (subst (λ n. w.place < n) (sym h.one_each) known)

    pub winner_bounds : AreTieBounds s (take (i + 1) elected) rests (set bounds w.place None)
    winner_bounds = record {
      one_each = length-set bounds w.place None ∙ h.one_each;
      each = λ place is. elim (cases_eq place w.place) [
        | inl same ↦
            let none : slice_index_or (set bounds w.place None) place None ≡ None = ap (λ n. slice_index_or (set bounds w.place None) n None) same ∙ none_there in
            subst (IsTieBound s (take (i + 1) elected) rests place) (sym none) (λ left. absurd (true≢false (sym (elected_now place same) ∙ left)))
        | inr other ↦
            let one : slice_index_or (set bounds w.place None) place None ≡ slice_index_or bounds place None = get_or-set_other bounds w.place place None None other in
            subst (IsTieBound s (take (i + 1) elected) rests place) (sym one) (still place (slice_index_or bounds place None) other (h.each place is))
      ];
    }

    pub winner_queued : (m : Measure) (queue : List KeyView) → AreQueued m s [] bounds queue → AreQueued m s [] (set bounds w.place None) queue
    winner_queued m queue q = record {
      known = q.known;
      rises = q.rises;
      whole = λ place bound is out e. elim (cases_eq place w.place) [
        | inl same ↦
            let none : slice_index_or (set bounds w.place None) place None ≡ None = ap (λ n. slice_index_or (set bounds w.place None) n None) same ∙ none_there in
            absurd (none-some bound (sym none ∙ e))
        | inr other ↦ q.whole place bound is out (sym (get_or-set_other bounds w.place place None None other) ∙ e)
      ];
    }

-- the prices of a run have payers
pub run_payers : (m : Measure) (s : SupportView) (share : ℕ) (elected : List ElectedView) (rests : List ℕ) → IsRun m s share elected rests
    → All (λ (w : ElectedView). HasPayers s w.exact) elected
run_payers m s share elected rests words =
    subst (All (λ (w : ElectedView). HasPayers s w.exact))
    (sym (ap (λ (r : RunView). r.elected) (only_run m s share (record { elected = elected; rests = rests }) words))) (run_has_payers m s words.is_support share)

module _ (x : CountedElectionView) (is : IsCountedElection x) where
  many : length (support_in x.rule.options.grain x.election).costs ≡ length x.election.projects
  many = simp length-map

  -- the rows of a round
  pub round_rows : (run share : ℕ) (elected : List ElectedView) (i : ℕ) (w : ElectedView) → i < length elected → w ≡ get_or elected i w → (rests : List ℕ)
      → rests ≡ rests_after (support_in x.rule.options.grain x.election) (replicate (support_in x.rule.options.grain x.election).voters share) (take i elected)
      → told_with x (record { run = run; number = i + 1; tie = record { round = Some (i + 1); winner = w.place; other = w.place } })
      (is_taken (filter (is_tied x.rule.options.measure (support_in x.rule.options.grain x.election) (take (i + 1) elected) rests w) (range_with_len 0 (length (support_in x.rule.options.grain x.election).costs))))
      ≡ round_ties x run share elected i
  round_rows run share elected i w below w_is rests rests_are =
      let s = support_in x.rule.options.grain x.election in
      let m = x.rule.options.measure in
      let test = is_tied m s (take (i + 1) elected) rests w in
      let first : ToldTie = record { run = run; number = i + 1; tie = record { round = Some (i + 1); winner = w.place; other = w.place } } in
      told_of x first test (length s.costs) is many
      ∙ sym (told_is (Some (i + 1)) w.place x run (i + 1) test (length s.costs) is many)
      ∙ ap (told_as x run (i + 1)) (here_is m s share elected i w below w_is rests rests_are)

  -- the rows of an added project
  pub added_rows : (number winner : ℕ) (taken : List ℕ) → taken ≡ winners_of (record x.counted { added = take (number + 1) x.counted.added })
      → winner ≡ slice_index x.counted.added number
      → told_with x (record { run = x.counted.outcome.raised; number = number + 1; tie = record { round = None; winner = winner; other = winner } })
      (is_taken (filter (is_equal_to (support_of x.election) taken winner) (range_with_len 0 (length (support_of x.election).costs))))
      ≡ ties_at_added x number
  added_rows number winner taken taken_are winner_is =
      let s = support_of x.election in
      let first : ToldTie = record { run = x.counted.outcome.raised; number = number + 1; tie = record { round = None; winner = winner; other = winner } } in
      told_of x first (is_equal_to s taken winner) (length s.costs) is many
      ∙ sym (told_is None winner x x.counted.outcome.raised (number + 1) (is_equal_to s taken winner) (length s.costs) is many)
      ∙ rw (taken_are, winner_is) refl

  -- ---- a whole run

  module _ (run share : ℕ) (elected : List ElectedView) (rests : List ℕ) (words : IsRun x.rule.options.measure (support_in x.rule.options.grain x.election) share elected rests) where
    elected_by_run : elected ≡ (outcome_of x.rule.options.measure x.rule.options.grain x.election share).elected
    elected_by_run =
        ap (λ (r : RunView). r.elected) (only_run x.rule.options.measure (support_in x.rule.options.grain x.election) share (record { elected = elected; rests = rests }) words)

    pub winner_known : (i : ℕ) (w : ElectedView) → i < length elected → w ≡ get_or elected i w → w.place < length (support_in x.rule.options.grain x.election).costs
    winner_known i w below w_is =
        let all : All (λ w. w.place < length x.election.projects) elected =
        subst (All (λ (w : ElectedView). w.place < length x.election.projects)) (sym elected_by_run) (run_elects_projects x.rule.options.measure x.rule.options.grain x.election share).known in
        let at = all i w below in
        let same : w.place ≡ (get_or elected i w).place = ap (λ (v : ElectedView). v.place) w_is in
        omega (arith, at, same, many)

    -- each price has payers
    pub winner_payers : (i : ℕ) (w : ElectedView) → i < length elected → w ≡ get_or elected i w → HasPayers (support_in x.rule.options.grain x.election) w.exact
    winner_payers i w below w_is =
        let s = support_in x.rule.options.grain x.election in
        subst (λ (v : ElectedView). HasPayers s v.exact) (sym w_is) (run_payers x.rule.options.measure s share elected rests words i w below)

    pub run_rows : share ≡ share_by x.rule.options.completion x.rule.options.grain x.election (step_of x.election x.rule.options) run
        → flat_map (round_ties x run share elected) (range_with_len 0 (length elected)) ≡ run_ties x run
    run_rows share_is =
        let at : ℕ → List ElectedView = λ n. (outcome_of x.rule.options.measure x.rule.options.grain x.election n).elected in
        ap (λ (es : List ElectedView). flat_map (round_ties x run share es) (range_with_len 0 (length es))) elected_by_run
        ∙ ap (λ n. flat_map (round_ties x run n (at n)) (range_with_len 0 (length (at n)))) share_is

-- the first of two lists and some of the second
pub front_taken : (xs ys : List ℕ) (m n : ℕ) → m ≡ length xs + n → take m (xs ++ ys) ≡ xs ++ take n ys
front_taken [] ys m n e = let same : m ≡ n = omega (arith, e) in ap (λ k. take k ys) same
front_taken (x ∷ xs) ys zero n e = absurd (omega (arith, e))
front_taken (x ∷ xs) ys (suc m) n e = ap (λ (zs : List ℕ). x ∷ zs) (front_taken xs ys m n (omega (arith, e)))
