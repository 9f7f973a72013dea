-- Projects sorted as ties are broken by them.
use Rattle.std.proofs.Common.{◌≡◌, ◌∙◌, ◌+◌, ◌<◌, ◌≤◌, ◌==◌, ◌++◌, ◌∷◌, [], ℕ, Bool, true, false, cond, Ok, Err, Result, IfOk, List, Option, Some, None, ap, arith, get_or, length, map, refl, subst, sym}
use Rattle.std.specs.Prelude.{All, slice_index_or}
use Rattle.std.specs.Cmp.Lexicographic.{slice_cmp}
use Rattle.std.specs.List.{range_with_len}
use Rattle.std.specs.List.Sorted.{IsPermutation, IsSorted, IsSortedBy}
use Rattle.std.specs.Ordering.{is_lt, nat_cmp, ordering_then}
use Rattle.std.specs.declared.cmp.Ordering.{Ordering}
use Rattle.std.specs.declared.cmp.Ordering.TheVariants.{Less, Equal, Greater}
use Rattle.std.proofs.lemmas.Bool.{le-ltb}
use Rattle.std.proofs.lemmas.List.{get_or-map, length-map}
use Rattle.std.proofs.lemmas.List.Elements.{All-map}
use Rattle.std.proofs.lemmas.List.FromFn.{get_or-range_with_len, length-range_with_len}
use Rattle.std.proofs.lemmas.List.Sorted.{All-permutation, IsPermutation-map, IsPermutation-refl}
use Rattle.arrayvec.specs.ArrayString.{ArrayString}
use Rattle.pb_core.specs.Election.{ElectionView, IsElection, project_ids}
use Rattle.pb_core.specs.Order.{in_order}
use Rattle.pb_price.specs.Supporters.{SupportView, cost_at, support_of}
use Rattle.pb_rounds.proofs.FileOrder.{in_file_order}
use Rattle.pb_rounds.specs.Inner.Tied.{drawn, keyed, tied_of}
use Rattle.pb_rounds.specs.MostVotes.{votes_at}
use Rattle.pb_rounds.specs.Inner.TieOrder.{keys_cmp, tie_cmp}
use Rattle.pb_rounds.specs.TieOrder.{IsTieOrder, lot_cmp}
use Rattle.pb_rounds.specs.declared.tie_order.Tied.{Tied}
use Rattle.pb_rounds.specs.declared.tie_rule.TieKeys.{TieKeys}
use Rattle.pb_rounds.specs.declared.tie_rule.TieKeys.TheVariants as tie
use Rattle.pb_rounds.specs.declared.tie_rule.TieRule.{TieRule}

-- the order of projects, as it is derived
abbrev derived : Tied → Tied → Ordering
derived a b =
    ordering_then (nat_cmp b.votes.0 a.votes.0) (ordering_then (nat_cmp a.cost b.cost)
    (ordering_then (nat_cmp b.then_votes.0 a.then_votes.0) (ordering_then (slice_cmp nat_cmp a.lot b.lot) (nat_cmp a.place b.place))))

abbrev pub comes_before : Tied → Tied → Bool
comes_before a b = is_lt (derived a b)

then_joined : (o p q : Ordering) → ordering_then o (ordering_then p q) ≡ ordering_then (ordering_then o p) q
then_joined Less p q = refl
then_joined Equal p q = refl
then_joined Greater p q = refl

-- by the keys, then by what is drawn, then by the place
by_keys : (k : TieKeys) (s : SupportView) (place other : ℕ) (a b : List ℕ)
    → derived (keyed k (votes_at s place) (cost_at s place) place a) (keyed k (votes_at s other) (cost_at s other) other b)
    ≡ ordering_then (keys_cmp k s place other) (ordering_then (slice_cmp nat_cmp a b) (nat_cmp place other))
by_keys tie.Nothing s place other a b = refl
by_keys tie.Votes s place other a b = refl
by_keys tie.Cost s place other a b = refl
by_keys tie.VotesThenCost s place other a b =
    then_joined (nat_cmp (votes_at s other) (votes_at s place)) (nat_cmp (cost_at s place) (cost_at s other))
    (ordering_then (slice_cmp nat_cmp a b) (nat_cmp place other))
by_keys tie.CostThenVotes s place other a b =
    then_joined (nat_cmp (cost_at s place) (cost_at s other)) (nat_cmp (votes_at s other) (votes_at s place))
    (ordering_then (slice_cmp nat_cmp a b) (nat_cmp place other))

by_lot : (lot : Option ArrayString) (e : ElectionView) (place other : ℕ)
    → slice_cmp nat_cmp (drawn lot (slice_index_or (project_ids e) place [])) (drawn lot (slice_index_or (project_ids e) other [])) ≡ lot_cmp lot e place other
by_lot (Some seed) e place other = refl
by_lot None e place other = refl

own_place : (k : TieKeys) (votes cost place : ℕ) (lot : List ℕ) → (keyed k votes cost place lot).place ≡ place
own_place tie.Nothing votes cost place lot = refl
own_place tie.Votes votes cost place lot = refl
own_place tie.Cost votes cost place lot = refl
own_place tie.VotesThenCost votes cost place lot = refl
own_place tie.CostThenVotes votes cost place lot = refl

module _ (ties : TieRule) (e : ElectionView) where
  place_of : (place : ℕ) → (tied_of ties e place).place ≡ place
  place_of place =
      own_place ties.keys (votes_at (support_of e) place) (cost_at (support_of e) place) place (drawn ties.lot (slice_index_or (project_ids e) place []))

  same_order : (place other : ℕ) → derived (tied_of ties e place) (tied_of ties e other) ≡ tie_cmp ties e place other
  same_order place other =
      by_keys ties.keys (support_of e) place other (drawn ties.lot (slice_index_or (project_ids e) place [])) (drawn ties.lot (slice_index_or (project_ids e) other []))
      ∙ ap (λ (o : Ordering). ordering_then (keys_cmp ties.keys (support_of e) place other) (ordering_then o (nat_cmp place other))) (by_lot ties.lot e place other)

  own_order : (a b : Tied) → a ≡ tied_of ties e a.place → b ≡ tied_of ties e b.place → comes_before a b ≡ is_lt (tie_cmp ties e a.place b.place)
  own_order a b is_a is_b =
      ap (λ x. comes_before x b) is_a ∙ ap (λ x. comes_before (tied_of ties e a.place) x) is_b ∙ ap is_lt (same_order a.place b.place)

  places_back : (places : List ℕ) → map (λ (t : Tied). t.place) (map (tied_of ties e) places) ≡ places
  places_back [] = refl
  places_back (place ∷ places) =
      ap (λ first. first ∷ map (λ (t : Tied). t.place) (map (tied_of ties e) places)) (place_of place) ∙ ap (λ (later : List ℕ). place ∷ later) (places_back places)

  module _ (sorted : List Tied) (moved : IsPermutation (map (tied_of ties e) (range_with_len 0 (length e.projects))) sorted) where
    own : All (λ (t : Tied). t ≡ tied_of ties e t.place) sorted
    own =
        All-permutation (λ (t : Tied). t ≡ tied_of ties e t.place) (map (tied_of ties e) (range_with_len 0 (length e.projects))) sorted moved
        (All-map (λ (t : Tied). t ≡ tied_of ties e t.place) (tied_of ties e) (range_with_len 0 (length e.projects))
        (λ k d below. ap (tied_of ties e) (sym (place_of _))))

    places_moved : IsPermutation (range_with_len 0 (length e.projects)) (map (λ (t : Tied). t.place) sorted)
    places_moved =
        subst (λ (before : List ℕ). IsPermutation before (map (λ (t : Tied). t.place) sorted)) (places_back (range_with_len 0 (length e.projects)))
        (IsPermutation-map (λ (t : Tied). t.place) (map (tied_of ties e) (range_with_len 0 (length e.projects))) sorted moved)

    places_in_order : IsSortedBy comes_before sorted → IsSorted (tie_cmp ties e) (map (λ (t : Tied). t.place) sorted)
    places_in_order up k d from below =
        let t : Tied = tied_of ties e d in
        let next : k + 1 < length sorted = omega (arith, below, length-map sorted (λ (q : Tied). q.place)) in
        let here : k < length sorted = omega (arith, next) in
        rw (get_or-map (λ (q : Tied). q.place) sorted (k + 1) t d next, get_or-map (λ (q : Tied). q.place) sorted k t d here)
        (sym (own_order (get_or sorted (k + 1) t) (get_or sorted k t) (own (k + 1) t next) (own k t here)) ∙ up k t from next)

    pub is_tie_order : IsSortedBy comes_before sorted → IsTieOrder ties e (map (λ t. t.place) sorted)
    is_tie_order up = record { each_once = places_moved; sorted = places_in_order up }

-- where nothing else is named, the order of the file is that of ties
before_none : (x y : ℕ) → y ≤ x → is_lt (nat_cmp x y) ≡ false
before_none x y above = rw (le-ltb x y above) (elim (x == y) as (λ b. is_lt (cond b Equal Greater) ≡ false) [ true ↦ refl | false ↦ refl ])

module _ (ties : TieRule) (e : ElectionView) (keys : ties.keys ≡ tie.Nothing) (lot : ties.lot ≡ None) where
  by_place : (place other : ℕ) → tie_cmp ties e place other ≡ nat_cmp place other
  by_place place other =
      ap (λ (k : TieKeys). ordering_then (keys_cmp k (support_of e) place other) (ordering_then (lot_cmp ties.lot e place other) (nat_cmp place other))) keys
      ∙ ap (λ (l : Option ArrayString). ordering_then (lot_cmp l e place other) (nat_cmp place other)) lot

  pub file_is_tie_order : IsTieOrder ties e (range_with_len 0 (length e.projects))
  file_is_tie_order = record {
    each_once = IsPermutation-refl (range_with_len 0 (length e.projects));
    sorted = λ k d from below.
        let n = length e.projects in
        let short : k + 1 < n = omega (arith, below, length-range_with_len 0 n) in
        let next = get_or-range_with_len 0 n (k + 1) d short in
        let here = get_or-range_with_len 0 n k d (omega (arith, short)) in
        ap is_lt (by_place (get_or (range_with_len 0 n) (k + 1) d) (get_or (range_with_len 0 n) k d)) ∙ before_none (get_or (range_with_len 0 n) (k + 1) d) (get_or (range_with_len 0 n) k d) (omega (arith, next, here));
  }

-- what answers the order of the file answers one of ties, in which an election is as it is
pub ok_file : {E : Type 0} (ties : TieRule) (e : ElectionView) (n : ℕ) (r : Result (List ℕ) E) → n ≡ length e.projects → IsTieOrder ties e (range_with_len 0 (length e.projects))
    → IfOk r (λ order. order ≡ range_with_len 0 n) → IfOk r (λ order. IsTieOrder ties e order)
ok_file ties e n (Ok order) many is same = subst (λ (o : List ℕ). IsTieOrder ties e o) (sym (same ∙ ap (range_with_len 0) many)) is
ok_file ties e n (Err fault) many is same = tt

pub ok_same : {E : Type 0} (e : ElectionView) (n : ℕ) (r : Result (List ℕ) E) → n ≡ length e.projects → IsElection e
    → IfOk r (λ order. order ≡ range_with_len 0 n) → IfOk r (λ order. e ≡ in_order order e)
ok_same e n (Ok order) many is same =
    sym (ap (λ (o : List ℕ). in_order o e) (same ∙ ap (range_with_len 0) many) ∙ in_file_order e is)
ok_same e n (Err fault) many is same = tt
