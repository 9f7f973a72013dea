-- Losers of a count, and what is found of them.
use Rattle.std.proofs.Common.{◌≡◌, ◌∙◌, ◌+◌, ◌<◌, [], ℕ, Bool, List, Ok, Err, Result, ap, arith, false, get_or, length, map, refl, subst, sym}
use Rattle.std.specs.Prelude.{All, IfOk, filter, not, slice_index}
use Rattle.std.specs.List.{range_with_len}
use Rattle.std.specs.List.Sorted.{IsSorted}
use Rattle.std.specs.Ordering.{flip_args, is_lt, nat_cmp, on, ordering_then, then_cmp}
use Rattle.std.proofs.lemmas.Bool.{not-true}
use Rattle.std.proofs.lemmas.List.{get_or-map, get_or_default, length-map}
use Rattle.std.proofs.lemmas.List.Elements.{All-filter, All-map, All-take, filter_passes}
use Rattle.std.proofs.lemmas.List.FromFn.{get_or-range_with_len, length-range_with_len}
use Rattle.std.proofs.lemmas.List.Sorted.{All-permutation}
use Rattle.pb_core.specs.Election.{ElectionView, IsElection, ProjectView}
use Rattle.pb_price.specs.Supporters.{cost_at, support_of}
use Rattle.pb_core.specs.Order.{IsOrder, position_in}
use Rattle.pb_core.specs.declared.no_memory.NoMemory.{NoMemory}
use Rattle.pb_core.proofs.Orders.{order_known}
use Rattle.pb_rounds.specs.Counted.{IsCountOf}
use Rattle.pb_rounds.specs.MostVotes.{votes_at}
use Rattle.pb_rounds.specs.TieOrder.{IsSortedFor}
use Rattle.pb_rounds.specs.Outcome.{OutcomeView}
use Rattle.pb_rounds.specs.declared.rule.Rule.{Rule}
use Rattle.pb_reasons.specs.Counted.{counted, is_selected}
use Rattle.pb_reasons.specs.CountedElection.{CountedElectionView}
use Rattle.pb_reasons.specs.WhatIf.{IsWhatIf, Says, Seen, seen}
use Rattle.pb_reasons.specs.Losers.{AreFound}
use Rattle.pb_reasons.specs.Inner.Losers.{AreAsked, AreFirst, AreLosers, HasLost, IsSearched, about}
use Rattle.pb_reasons.specs.Inner.Searching.{AreKnown}
use Rattle.pb_reasons.specs.declared.changes.change.Verdict.TheVariants.{Lost}
use Rattle.pb_reasons.specs.declared.changes.loser.Loser.{Loser}
use Rattle.pb_reasons.proofs.Changed.{known}
use Rattle.pb_reasons.proofs.Ranges.{cost_read, lost_found}
use Rattle.pb_reasons.proofs.Searches.{has_won_by, says_lost}
use Rattle.pb_reasons.proofs.Sorted.{as_many_sorted, is_order, one_each, place_back, votes_in_file}

-- by the votes in another numbering of the projects that agrees on these places
sorted_same : (f g : ℕ → ℕ) (places : List ℕ) → All (λ place. f place ≡ g place) places → IsSorted (then_cmp (flip_args (on f nat_cmp)) nat_cmp) places
    → IsSorted (then_cmp (flip_args (on g nat_cmp)) nat_cmp) places
sorted_same f g places same up k d from below =
    let next = get_or places (k + 1) d in
    let here = get_or places k d in
    subst (λ m. is_lt (ordering_then (nat_cmp m (g next)) (nat_cmp next here)) ≡ false) (same k d (omega (arith, below)))
    (subst (λ m. is_lt (ordering_then (nat_cmp (f here) m) (nat_cmp next here)) ≡ false) (same (k + 1) d below) (up k d from below))

module _ (e : ElectionView) (rule : Rule) where
  -- a project that a count does not select has lost
  module _ (sorted : ElectionView) (order : List ℕ) (o : OutcomeView) (election : IsElection e) (is_put : IsSortedFor rule.ties e order sorted)
      (count : IsCountOf sorted rule.options o) where
    abbrev is : IsOrder order
    is = is_order rule.ties e order is_put.0

    many : length order ≡ length e.projects
    many = one_each rule.ties e order is_put.0

    abbrev has_not_won : ℕ → Bool
    has_not_won position = not (is_selected (counted sorted rule.fill_up o) position)

    has_lost : (position : ℕ) → position < length order → is_selected (counted sorted rule.fill_up o) position ≡ false → HasLost e rule (slice_index order position)
    has_lost position below lost =
        let place = slice_index order position in
        let nobody : ProjectView = record { id = []; name = []; cost = 0 } in
        let within : place < length e.projects = omega (arith, order_known order is position 0 below, many) in
        let p : ProjectView = get_or e.projects place nobody in
        let at : p ≡ get_or e.projects place p = sym (get_or_default e.projects place p nobody within) in
        let here : is_selected (counted sorted rule.fill_up o) (position_in order place) ≡ false =
        ap (is_selected (counted sorted rule.fill_up o)) (place_back order is position below) ∙ lost in
        let says : Says e (about rule place) Lost =
        says_lost e (about rule place) (has_won_by e sorted (about rule place) order o false is_put count (sym here)) in
        record {
          says = says;
          loser = subst (λ (n : ℕ). AreKnown (seen e) (about rule place) n Lost) (cost_read e place p within at)
              (known e (about rule place) p Lost election within at says);
        }

    all_have_lost : All (HasLost e rule) (map (slice_index order) (filter has_not_won (range_with_len 0 (length sorted.projects))))
    all_have_lost =
        let positions = range_with_len 0 (length sorted.projects) in
        All-map (HasLost e rule) (slice_index order) (filter has_not_won positions)
        (λ k d below.
        has_lost (get_or (filter has_not_won positions) k d) (All-filter has_not_won (λ position. position < length order) positions in_range k d below)
        (not-true _ (filter_passes has_not_won positions k d below)))
      where
        in_range : All (λ position. position < length order) (range_with_len 0 (length sorted.projects))
        in_range i d inside =
            let n = length sorted.projects in
            let short : i < n = omega (arith, inside, length-range_with_len 0 n) in
            omega (arith, short, get_or-range_with_len 0 n i d short, as_many_sorted rule.ties e sorted order election is_put, many)

    pub first_have_lost : (first : ℕ) (places : List ℕ) → AreFirst sorted (counted sorted rule.fill_up o) order first places → All (HasLost e rule) places
    first_have_lost first places (all, are, same) =
        subst (All (HasLost e rule)) (sym same)
        (All-take (HasLost e rule) first all (All-permutation (HasLost e rule) _ all are.are all_have_lost))

  -- those who are asked about, of a count of the sorted election
  pub asked_of : {A : Type 0} {E : Type 0} (items : A → List ℕ) (sorted : ElectionView) (order : List ℕ) (first : ℕ) (r : Result A E) → IsElection e
      → IsSortedFor rule.ties e order sorted
      → IfOk r (λ x. (o : OutcomeView) × IsCountOf sorted rule.options o × AreFirst sorted (counted sorted rule.fill_up o) order first (items x))
      → IfOk r (λ x. AreAsked e rule first (items x))
  asked_of items sorted order first (Ok x) election is_put (o, count, are) = record {
    are = (record { election = sorted; order = order; rule = rule; counted = counted sorted rule.fill_up o }, (refl, is_put, (o, count, refl)), are);
    lost = first_have_lost sorted order o election is_put count first (items x) are;
  }
  asked_of items sorted order first (Err fault) election is_put said = tt

  -- what is found of what is read of a loser is found of the loser
  loser_found : (l : Loser) → HasLost e rule l.place → IsSearched (seen e) rule l → IsWhatIf e (about rule l.place) (cost_at (support_of e) l.place) l.found
  loser_found l lost searched =
      lost_found e (about rule l.place) (seen e) (cost_at (support_of e) l.place) (cost_at (support_of e) l.place) (Ok l.found) refl refl lost.says searched.cost searched.voters searched.doubled

  all_found : (s : Seen) (places : List ℕ) (found : List Loser) → s ≡ seen e → All (HasLost e rule) places → map (λ l. l.place) found ≡ places → All (IsSearched s rule) found
      → All (λ l. IsWhatIf e (about rule l.place) (cost_at (support_of e) l.place) l.found) found
  all_found s places found read lost same searched k d below =
      let l : Loser = get_or found k d in
      loser_found l (place_lost k d below) (subst (λ (t : Seen). IsSearched t rule l) read (searched k d below))
    where
      place_lost : (i : ℕ) (d : Loser) → i < length found → HasLost e rule (get_or found i d).place
      place_lost i d inside =
          subst (HasLost e rule) (get_or-map (λ (l : Loser). l.place) found i d d.place inside)
          (subst (λ (them : List ℕ). HasLost e rule (get_or them i d.place)) (sym same)
          (lost i d.place (omega (arith, inside, length-map found (λ (l : Loser). l.place), ap length same))))

  pub each_found : {A : Type 0} (items : A → List Loser) (s : Seen) (places : List ℕ) (r : Result A NoMemory) → s ≡ seen e → All (HasLost e rule) places
      → IfOk r (λ x. map (λ l. l.place) (items x) ≡ places) → IfOk r (λ x. All (IsSearched s rule) (items x))
      → IfOk r (λ x. All (λ l. IsWhatIf e (about rule l.place) (cost_at (support_of e) l.place) l.found) (items x))
  each_found items s places (Ok x) read lost same searched = all_found s places (items x) read lost same searched
  each_found items s places (Err fault) read lost same searched = tt

  -- losers in the order of the votes of a sorted election are in that of the votes of the file's
  by_votes : (x : CountedElectionView) (all : List ℕ) → IsElection e → IsSortedFor rule.ties e x.order x.election → AreLosers x.election x.counted x.order all
      → IsSorted (then_cmp (flip_args (on (votes_at (support_of e)) nat_cmp)) nat_cmp) all
  by_votes x all election is_put are =
      let is = is_order rule.ties e x.order is_put.0 in
      let many = one_each rule.ties e x.order is_put.0 in
      let n = length x.election.projects in
      let losers = filter (λ position. not (is_selected x.counted position)) (range_with_len 0 n) in
      let known : All (λ place. place < length x.order) all =
      All-permutation (λ place. place < length x.order) (map (slice_index x.order) losers) all are.are
      (All-map (λ place. place < length x.order) (slice_index x.order) losers
      (λ k d below. order_known x.order is (get_or losers k d) 0
      (All-filter (λ position. not (is_selected x.counted position)) (λ position. position < length x.order) (range_with_len 0 n)
      (λ i d inside. let short : i < n = omega (arith, inside, length-range_with_len 0 n) in
      omega (arith, short, get_or-range_with_len 0 n i d short, as_many_sorted rule.ties e x.election x.order election is_put, many)) k d below))) in
      sorted_same (λ place. votes_at (support_of x.election) (position_in x.order place)) (votes_at (support_of e)) all
      (λ k d below.
      ap (λ (s : ElectionView). votes_at (support_of s) (position_in x.order (get_or all k d))) is_put.1
      ∙ votes_in_file x.order e is many election (get_or all k d) (known k d below))
      are.in_order

  -- they are the losers that were asked about, and were searched in the election as it was before
  pub these_found : {A : Type 0} (items : A → List Loser) (first : ℕ) (places : List ℕ) (r : Result A NoMemory) (left : ElectionView) → left ≡ e → IsElection e
      → AreAsked e rule first places → IfOk r (λ x. map (λ l. l.place) (items x) ≡ places)
      → IfOk r (λ x. All (λ l. IsWhatIf left (about rule l.place) (cost_at (support_of left) l.place) l.found) (items x))
      → IfOk r (λ x. AreFound e rule first (items x))
  these_found items first places (Ok x) left kept election asked same each =
      let (counted_so, count, asked_first) = asked.are in
      let (all, are, some) = asked_first in
      record {
        losers = (counted_so, all, count, are.are, by_votes counted_so all election count.1 are, same ∙ some);
        each = subst (λ (own : ElectionView). All (λ l. IsWhatIf own (about rule l.place) (cost_at (support_of own) l.place) l.found) (items x)) kept each;
      }
  these_found items first places (Err fault) left kept election asked same each = tt
