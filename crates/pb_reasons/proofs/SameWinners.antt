-- Where no tie is told, the same projects win in any order of the projects.
use Rattle.std.proofs.Common.{◌≡◌, ◌∙◌, ◌<◌, ◌≤◌, ◌+◌, ◌-◌, ◌*◌, ℕ, Bool, true, false, List, [], ◌∷◌, ◌++◌, ap, arith, get_or, inl, inr, is_some, length, map, refl, slice_index, subst, subst₂, sym}
use Rattle.std.specs.Prelude.{◌/◌, ◌==◌, ◌^◌, All, flat_map, if◌then◌else◌}
use Rattle.std.specs.List.{range_with_len}
use Rattle.std.proofs.lemmas.List.{get_or_default, length-map}
use Rattle.std.proofs.lemmas.List.Elements.{All-head, All-map, All-tail}
use Rattle.std.proofs.lemmas.Option.{none-some, same_Some}
use Rattle.pb_core.specs.Election.{ElectionView, IsElection, ProjectView}
use Rattle.pb_core.specs.Inner.Order.{voter_in}
use Rattle.pb_core.specs.Order.{IsOrder, in_order, position_in}
use Rattle.pb_core.proofs.InOrder.{IsElection-in_order, same_number}
use Rattle.pb_core.proofs.Orders.{order_known}
use Rattle.pb_price.proofs.SupporterLists.{is_support_of, support_form}
use Rattle.pb_price.specs.Grain.{in_parts}
use Rattle.pb_price.specs.Supporters.{IsSupport, SupportView, cost_at, support_in, support_of}
use Rattle.pb_price.specs.declared.grain.Grain.{Grain}
use Rattle.pb_rounds.proofs.Added.{election_is_filled}
use Rattle.pb_rounds.proofs.Counted.{share_with_add1}
use Rattle.pb_rounds.proofs.Filled.{IsFilled, one_filled}
use Rattle.pb_rounds.proofs.RaisesEnd.{completed_is_decided, spent_is_undecided}
use Rattle.pb_rounds.proofs.RunIs.{only_run}
use Rattle.pb_rounds.specs.Cheapest.{IsRun}
use Rattle.pb_rounds.specs.Completed.{After, GoesOn, IsCompleted, IsExhausted}
use Rattle.pb_rounds.specs.Count.{count_of, opening_share, share_after, share_by, spent_on, step_of}
use Rattle.pb_rounds.specs.Counted.{IsCountFault, IsCountOf}
use Rattle.pb_rounds.specs.MostVotes.{most_votes_first}
use Rattle.pb_rounds.specs.Outcome.{OutcomeView}
use Rattle.pb_rounds.specs.Run.{ElectedView, RunView}
use Rattle.pb_rounds.specs.declared.count_fault.CountFault.TheVariants.{RaisesSpent}
use Rattle.pb_rounds.specs.declared.measure.Measure.{Measure}
use Rattle.pb_rounds.specs.declared.options.Completion.{Completion}
use Rattle.pb_rounds.specs.declared.options.Completion.TheVariants.{Plain, Add1, NoShares}
use Rattle.pb_rounds.specs.declared.options.CountOptions.{CountOptions}
use Rattle.pb_rounds.specs.declared.rule.FillUp.{FillUp}
use Rattle.pb_rounds.specs.declared.rule.FillUp.TheVariants.{Nothing, MostVotes}
use Rattle.pb_reasons.specs.AllTies.{added_ties, all_ties, run_ties, runs_of}
use Rattle.pb_reasons.specs.Counted.{CountedView, IsCountBy, counted, winners_of}
use Rattle.pb_reasons.specs.CountedElection.{CountedElectionView, IsCountedElection}
use Rattle.pb_reasons.proofs.Moved.{AreKnown, AreMoved, exhausted_back, exhausted_put, renamed, run_put, spent_put}
use Rattle.pb_reasons.proofs.MovedAdded.{filled_put}
use Rattle.pb_reasons.proofs.NoEquals.{elected_known, no_equals, none_alike, none_at, none_of_both}
use Rattle.pb_reasons.proofs.Results.{winners_known}
use Rattle.pb_reasons.proofs.Runs.{more_runs}
use Rattle.pb_reasons.proofs.Sorted.{cost_moved, place_back, position_known, supporters_at_moved}

-- ---- lists of places by positions

places_renamed : (to : ℕ → ℕ) (elected : List ElectedView)
    → map (λ (w : ElectedView). w.place) (map (renamed to) elected) ≡ map to (map (λ (w : ElectedView). w.place) elected)
places_renamed to [] = refl
places_renamed to (w ∷ elected) = ap (λ (ps : List ℕ). to w.place ∷ ps) (places_renamed to elected)

map_both : (f : ℕ → ℕ) (xs ys : List ℕ) → map f xs ++ map f ys ≡ map f (xs ++ ys)
map_both f [] ys = refl
map_both f (x ∷ xs) ys = ap (λ (zs : List ℕ). f x ∷ zs) (map_both f xs ys)

map_back : (to back : ℕ → ℕ) (xs : List ℕ) → All (λ (x : ℕ). back (to x) ≡ x) xs → map back (map to xs) ≡ xs
map_back to back [] same = refl
map_back to back (x ∷ xs) same =
    ap (λ (y : ℕ). y ∷ map back (map to xs)) (All-head (λ (x : ℕ). back (to x) ≡ x) x xs same)
    ∙ ap (λ (ys : List ℕ). x ∷ ys) (map_back to back xs (All-tail (λ (x : ℕ). back (to x) ≡ x) x xs same))

-- ---- runs

one_run : (m : Measure) (s : SupportView) (share : ℕ) (elected others : List ElectedView) (rests left : List ℕ) → IsRun m s share elected rests
    → IsRun m s share others left → elected ≡ others
one_run m s share elected others rests left one another =
    ap (λ (r : RunView). r.elected)
    (only_run m s share (record { elected = elected; rests = rests }) one ∙ sym (only_run m s share (record { elected = others; rests = left }) another))

below_runs : (raised run : ℕ) (b : Bool) → run ≤ raised → run < raised + (if b then 1 else 2)
below_runs raised run true few = omega (arith, few)
below_runs raised run false few = omega (arith, few)

module _ (x : CountedElectionView) (is : IsCountedElection x) (none : all_ties x ≡ []) (order : List ℕ) (is_order : IsOrder order)
    (many : length order ≡ length x.election.projects) where
  abbrev e : ElectionView
  e = x.election

  abbrev moved : ElectionView
  moved = in_order order e

  abbrev g : Grain
  g = x.rule.options.grain

  abbrev s : SupportView
  s = support_in g e

  abbrev t : SupportView
  t = support_in g moved

  abbrev o : OutcomeView
  o = x.counted.outcome

  abbrev options : CountOptions
  options = x.rule.options

  abbrev to : ℕ → ℕ
  to = position_in order

  abbrev back : ℕ → ℕ
  back = slice_index order

  abbrev places : List ElectedView → List ℕ
  places elected = map (λ (w : ElectedView). w.place) elected

  moved_is : IsElection moved
  moved_is = IsElection-in_order order e is_order many is.is_election

  own_many : length s.costs ≡ length order
  own_many = length-map e.projects (λ (p : ProjectView). p.cost) ∙ sym many

  are_moved : AreMoved s t to back
  are_moved = record {
    as_many = length-map moved.projects (λ (p : ProjectView). p.cost) ∙ (same_number order e is_order many is.is_election ∙ sym (length-map e.projects (λ (p : ProjectView). p.cost)));
    same_grain = refl;
    same_voters = length-map e.voters (voter_in order);
    put = λ place known.
        let at = position_known order is_order place (omega (arith, known, own_many)) in
        (omega (arith, at.0, own_many), at.1);
    stands = λ position known.
        let below : position < length order = omega (arith, known, own_many) in
        (omega (arith, order_known order is_order position 0 below, own_many), place_back order is_order position below);
    supporters = λ position known. supporters_at_moved order e is_order many is.is_election position (omega (arith, known, own_many));
    costs = λ position known. cost_moved order e is_order many is.is_election position (omega (arith, known, own_many));
  }

  -- the same for most votes first, which counts in hundredths
  are_moved_there : AreMoved (support_of e) (support_of moved) to back
  are_moved_there = record {
    as_many = are_moved.as_many;
    same_grain = refl;
    same_voters = are_moved.same_voters;
    put = are_moved.put;
    stands = are_moved.stands;
    supporters = are_moved.supporters;
    costs = are_moved.costs;
  }

  all_fit : All (λ cost. in_parts g t.voters cost < 2 ^ 64) t.costs
  all_fit k d below =
      let known : k < length s.costs = omega (arith, below, are_moved.as_many) in
      let here : get_or t.costs k d ≡ cost_at s (back k) = get_or_default t.costs k d 0 below ∙ are_moved.costs k known in
      let (own, election, same, fit) = is.is_count.run_is.is_support in
      let fits = fit (back k) 0 (are_moved.stands k known).0 in
      subst₂ (λ (v c : ℕ). in_parts g v c < 2 ^ 64) (sym are_moved.same_voters) (sym here) fits

  is_support : IsSupport t
  is_support = (moved, moved_is, refl, all_fit)

  -- ---- no tie in a run, and none among the added

  none_in_run : (run : ℕ) → run < runs_of x → run_ties x run ≡ []
  unfolding all_ties
  none_in_run run below = none_at (run_ties x) (runs_of x) run (none_of_both (flat_map (run_ties x) (range_with_len 0 (runs_of x))) (added_ties x) none).0 below

  none_added : added_ties x ≡ []
  unfolding all_ties
  none_added = (none_of_both (flat_map (run_ties x) (range_with_len 0 (runs_of x))) (added_ties x) none).1

  run_moved : (run : ℕ) → run < runs_of x → (elected : List ElectedView) (rests : List ℕ)
      → IsRun options.measure s (share_by options.completion g e (step_of e options) run) elected rests
      → AreKnown s elected × IsRun options.measure t (share_by options.completion g e (step_of e options) run) (map (renamed to) elected) rests
  run_moved run below elected rests words =
      let share = share_by options.completion g e (step_of e options) run in
      let known = elected_known x is run share elected rests words refl in (
        known,
        run_put s t to back are_moved options.measure share elected rests known is_support words
            (no_equals x is run share elected rests words refl (none_in_run run below)),
      )

  same_opening : opening_share g moved ≡ opening_share g e
  same_opening = ap (λ (v : ℕ). if v == 0 then 0 else in_parts g v e.budget / v) (length-map e.voters (voter_in order))

  same_step : step_of moved options ≡ step_of e options
  same_step = ap (λ (v : ℕ). in_parts g v options.step) (length-map e.voters (voter_in order))

  same_raised : (run : ℕ) → share_after g moved (step_of moved options) run ≡ share_after g e (step_of e options) run
  same_raised run = ap (λ (n : ℕ). n + run * step_of moved options) same_opening ∙ ap (λ (n : ℕ). opening_share g e + run * n) same_step

  share_of : (c : Completion) (run : ℕ) → share_by c g moved (step_of moved options) run ≡ share_by c g e (step_of e options) run
  share_of Plain run = same_opening
  share_of NoShares run = refl
  share_of Add1 run = same_raised run

  same_share : (run : ℕ) → share_by options.completion g moved (step_of moved options) run ≡ share_by options.completion g e (step_of e options) run
  same_share = share_of options.completion

  own_run : IsRun options.measure s (share_by options.completion g e (step_of e options) o.raised) o.elected o.rests
  own_run = subst (λ (n : ℕ). IsRun options.measure s n o.elected o.rests) is.is_count.share_is is.is_count.run_is

  few_enough : (run : ℕ) → run ≤ o.raised → run < runs_of x
  few_enough run few = below_runs o.raised run (is_some (count_of e (record options { max_raises = o.raised }))) few

  -- ---- completion by raises

  module _ (add1 : options.completion ≡ Add1) where
    after_moved : (run : ℕ) → run < runs_of x → (P Q : List ElectedView → Type 0)
        → ((elected : List ElectedView) → AreKnown s elected → P elected → Q (map (renamed to) elected))
        → After options.measure g e (step_of e options) run P → After options.measure g moved (step_of moved options) run Q
    after_moved run below P Q follows (elected, rests, words, such) =
        let by : share_by options.completion g e (step_of e options) run ≡ share_after g e (step_of e options) run = share_with_add1 options add1 e run in
        let own = subst (λ (n : ℕ). IsRun options.measure s n elected rests) (sym by) words in
        let there = run_moved run below elected rests own in
        let to_share : share_by options.completion g e (step_of e options) run ≡ share_after g moved (step_of moved options) run =
        by ∙ sym (same_raised run) in (
          map (renamed to) elected,
          rests,
          subst (λ (n : ℕ). IsRun options.measure t n (map (renamed to) elected) rests) to_share there.1,
          follows elected there.0 such,
        )

    goes_on_moved : (run : ℕ) → run < runs_of x → GoesOn options.measure g e (step_of e options) run → GoesOn options.measure g moved (step_of moved options) run
    goes_on_moved run below =
        after_moved run below (λ elected. (¬ (e.budget < spent_on s elected)) × (¬ IsExhausted s e.budget elected))
        (λ elected. (¬ (e.budget < spent_on t elected)) × (¬ IsExhausted t e.budget elected))
        (λ elected known such. (
          (λ over. such.0 (omega (arith, over, spent_put s t to back are_moved elected known))),
          (λ ended. such.1 (exhausted_back s t to back are_moved e.budget elected known ended)),
        ))

    not_exhausted : GoesOn options.measure g e (step_of e options) o.raised → ¬ IsExhausted s e.budget o.elected
    not_exhausted (elected, rests, words, such) ended =
        let own = subst (λ (n : ℕ). IsRun options.measure s n o.elected o.rests) (share_with_add1 options add1 e o.raised) own_run in
        such.1 (subst (IsExhausted s e.budget) (one_run options.measure s (share_after g e (step_of e options) o.raised) o.elected elected o.rests rests own words) ended)

    completed_moved : IsCompleted options.measure g moved (step_of moved options) options.max_raises o.raised
    completed_moved =
        let own = is.is_count.completed add1 in
        record {
          within_limit = own.within_limit;
          fewer_go_on = λ fewer less. goes_on_moved fewer (few_enough fewer (omega (arith, less))) (own.fewer_go_on fewer less);
          ends = elim own.ends [
            | inl ended ↦ inl (after_moved o.raised (few_enough o.raised (omega arith)) (IsExhausted s e.budget) (IsExhausted t e.budget)
                (λ elected known. exhausted_put s t to back are_moved e.budget elected known) ended)
            | inr over ↦
                let more = more_runs x is add1 (not_exhausted over.0) in
                inr (
                  goes_on_moved o.raised (few_enough o.raised (omega arith)) over.0,
                  over.1,
                  after_moved (o.raised + 1) (omega (arith, more)) (λ elected. e.budget < spent_on s elected) (λ elected. e.budget < spent_on t elected)
                      (λ elected known such. omega (arith, such, spent_put s t to back are_moved elected known)) over.2,
                )
          ];
        }

  -- no count of another order is refused for its raises
  pub not_refused : ¬ IsCountFault moved options RaisesSpent
  not_refused fault =
      none-some _ (sym (spent_is_undecided options.measure g moved (step_of moved options) options.max_raises fault.3)
      ∙ completed_is_decided options.measure g moved (step_of moved options) options.max_raises o.raised (completed_moved fault.2))

  -- ---- the winners of a count in another order

  module _ (p : OutcomeView) (count : IsCountOf moved options p) where
    raised_by : (c : Completion) → options.completion ≡ c → p.raised ≡ o.raised
    raised_by Plain now = count.unraised (λ add1. absurd (cc (now, add1))) ∙ sym (is.is_count.unraised (λ add1. absurd (cc (now, add1))))
    raised_by NoShares now = count.unraised (λ add1. absurd (cc (now, add1))) ∙ sym (is.is_count.unraised (λ add1. absurd (cc (now, add1))))
    raised_by Add1 now =
        same_Some _ _ (sym (completed_is_decided options.measure g moved (step_of moved options) options.max_raises p.raised (count.completed now))
        ∙ completed_is_decided options.measure g moved (step_of moved options) options.max_raises o.raised (completed_moved now))

    share_there : p.share ≡ share_by options.completion g e (step_of e options) o.raised
    share_there =
        count.share_is ∙ (ap (λ (n : ℕ). share_by options.completion g moved (step_of moved options) n) (raised_by options.completion refl) ∙ same_share o.raised)

    own_known : AreKnown s o.elected
    own_known = (run_moved o.raised (few_enough o.raised (omega arith)) o.elected o.rests own_run).0

    elected_there : p.elected ≡ map (renamed to) o.elected
    elected_there =
        one_run options.measure t (share_by options.completion g e (step_of e options) o.raised) p.elected (map (renamed to) o.elected) p.rests o.rests
        (subst (λ (n : ℕ). IsRun options.measure t n p.elected p.rests) share_there count.run_is)
        (run_moved o.raised (few_enough o.raised (omega arith)) o.elected o.rests own_run).1

    left_there : (fill_up : FillUp) → (counted moved fill_up p).added ≡ (counted moved fill_up (record o { elected = map (renamed to) o.elected })).added
    left_there fill_up = ap (λ (ws : List ElectedView). (counted moved fill_up (record o { elected = ws })).added) elected_there

    taken_known : All (λ (place : ℕ). place < length s.costs) (places o.elected)
    taken_known = All-map (λ (place : ℕ). place < length s.costs) (λ (w : ElectedView). w.place) o.elected own_known

    own_added : (fill_up : FillUp) → x.rule.fill_up ≡ fill_up → x.counted.added ≡ (counted e fill_up o).added
    own_added fill_up now = ap (λ (c : CountedView). c.added) is.is_filled_up ∙ ap (λ (f : FillUp). (counted e f o).added) now

    added_there : (fill_up : FillUp) → x.rule.fill_up ≡ fill_up → (counted moved fill_up p).added ≡ map to x.counted.added
    added_there Nothing now = ap (map to) (sym (own_added Nothing now))
    added_there MostVotes now =
        let taken = places o.elected in
        let left = e.budget - spent_on s o.elected in
        let filled : IsFilled (support_of e) taken left x.counted.added =
        subst (IsFilled (support_of e) taken left) (sym (own_added MostVotes now)) (election_is_filled e taken left is.is_election) in
        let there : IsFilled (support_of moved) (map to taken) left (map to x.counted.added) =
        filled_put (support_of e) (support_of moved) to back are_moved_there (support_form (support_of e) (is_support_of e is.is_election))
        (support_form (support_of moved) (is_support_of moved moved_is)) taken left x.counted.added taken_known filled
        (none_alike x is none_added) in
        left_there MostVotes
        ∙ (ap (λ (ts : List ℕ). most_votes_first (support_of moved) ts (e.budget - spent_on t (map (renamed to) o.elected))) (places_renamed to o.elected)
        ∙ (ap (λ (n : ℕ). most_votes_first (support_of moved) (map to taken) (e.budget - n)) (spent_put s t to back are_moved o.elected own_known)
        ∙ one_filled (support_of moved) (map to taken) left (most_votes_first (support_of moved) (map to taken) left) (map to x.counted.added) (election_is_filled moved (map to taken) left moved_is) there))

    winners_there : winners_of (counted moved x.rule.fill_up p) ≡ map to (winners_of x.counted)
    winners_there =
        ap (λ (ws : List ElectedView). places ws ++ (counted moved x.rule.fill_up p).added) elected_there
        ∙ (ap (λ (ps : List ℕ). ps ++ (counted moved x.rule.fill_up p).added) (places_renamed to o.elected)
        ∙ (ap (λ (ps : List ℕ). map to (places o.elected) ++ ps) (added_there x.rule.fill_up refl)
        ∙ map_both to (places o.elected) x.counted.added))

  -- a count of another order has the same winners
  pub same_winners : (c : CountedView) → IsCountBy x.rule moved c → map (slice_index order) (winners_of c) ≡ winners_of x.counted
  same_winners c (p, count, counted_is) =
      ap (λ (v : CountedView). map back (winners_of v)) counted_is
      ∙ (ap (map back) (winners_there p count)
      ∙ map_back to back (winners_of x.counted) (λ k d below.
      let known = winners_known x is k d below in
      (position_known order is_order (get_or (winners_of x.counted) k d) (omega (arith, known, many))).1))
