-- The ties that are told of a winner, in the order of the file.
use Rattle.std.proofs.Common.{◌≡◌, ◌≢◌, ◌≤◌, ◌<◌, ◌+◌, ◌∙◌, ◌++◌, ◌∷◌, [], ℕ, zero, suc, Bool, true, false, cond, List, Option, All, ap, arith, get_or, inl, inr, length, map, refl}
use Rattle.std.specs.Prelude.{◌==◌, filter, flat_map}
use Rattle.std.specs.List.{range_with_len}
use Rattle.std.proofs.lemmas.Bool.{cases_Bool, cases_eq, eq-eqb, ne_eqb}
use Rattle.std.proofs.lemmas.List.FromFn.{get_or-range_with_len, length-range_with_len}
use Rattle.std.proofs.lemmas.Simd.{map-map}
use Rattle.pb_core.specs.Order.{position_in}
use Rattle.pb_reasons.specs.AllTies.{told_as}
use Rattle.pb_reasons.specs.CountedElection.{CountedElectionView, IsCountedElection}
use Rattle.pb_reasons.specs.Inner.AllTies.{told_with}
use Rattle.pb_reasons.specs.declared.tie.Tie.{Tie}
use Rattle.pb_reasons.specs.declared.told_tie.ToldTie.{ToldTie}
use Rattle.pb_reasons.proofs.Sorted.{position_known}

-- ---- of the places that a test passes, the one that is this place

module _ (test : ℕ → Bool) (place : ℕ) where
  abbrev here : List ℕ → List ℕ
  here ks = filter (λ k. k == place) (filter test ks)

  other_place : (k : ℕ) (ks : List ℕ) → k ≢ place → here (k ∷ ks) ≡ here ks
  other_place k ks other = elim (cases_Bool (test k)) [
    | inl is ↦ rw (is, ne_eqb k place other) refl
    | inr is ↦ rw is refl
  ]

  this_place : (k : ℕ) (ks : List ℕ) → k ≡ place → here ks ≡ [] → here (k ∷ ks) ≡ cond (test place) (place ∷ []) []
  this_place k ks same none = elim (cases_Bool (test place)) [
    | inl is ↦ rw (same, is, eq-eqb place place refl, none) refl
    | inr is ↦ rw (same, is, none) refl
  ]

  none_here : (from n : ℕ) → place < from → here (range_with_len from n) ≡ []
  none_here from zero past = refl
  none_here from (suc n) past =
      other_place from (range_with_len (from + 1) n) (λ same. omega (arith, same, past)) ∙ none_here (from + 1) n (omega (arith, past))

  one_here : (from n : ℕ) → from ≤ place → place < from + n → here (range_with_len from n) ≡ cond (test place) (place ∷ []) []
  one_here from zero low high = absurd (omega (arith, low, high))
  one_here from (suc n) low high = elim (cases_eq from place) [
    | inl same ↦ this_place from (range_with_len (from + 1) n) same (none_here (from + 1) n (omega (arith, same)))
    | inr other ↦
        other_place from (range_with_len (from + 1) n) other
        ∙ one_here (from + 1) n (omega (arith, low, other)) (omega (arith, high))
  ]

-- ---- ties by the places of the others

map_cond : {X Y : Type 0} (f : X → Y) (b : Bool) (x : X) → map f (cond b (x ∷ []) []) ≡ cond b (f x ∷ []) []
map_cond f true x = refl
map_cond f false x = refl

put_cond : {X Y : Type 0} (f : X → Y) (b : Bool) (x : X) (xs : List X) → cond b (f x ∷ []) [] ++ map f xs ≡ map f (cond b (x ∷ xs) xs)
put_cond f true x xs = refl
put_cond f false x xs = refl

module _ (round : Option ℕ) (winner : ℕ) where
  abbrev tie : ℕ → Tie
  tie other = record { round = round; winner = winner; other = other }

  filter_tie : (place : ℕ) (ks : List ℕ) → filter (λ (t : Tie). t.other == place) (map tie ks) ≡ map tie (filter (λ k. k == place) ks)
  filter_tie place [] = refl
  filter_tie place (k ∷ ks) = elim (cases_Bool (k == place)) [
    | inl is ↦ rw (is, filter_tie place ks) refl
    | inr is ↦ rw (is, filter_tie place ks) refl
  ]

  -- the tie with the project at this place, if it ties
  tie_at : (test : ℕ → Bool) (n place : ℕ) → place < n
      → filter (λ (t : Tie). t.other == place) (map tie (filter test (range_with_len 0 n))) ≡ cond (test place) (tie place ∷ []) []
  tie_at test n place below =
      filter_tie place (filter test (range_with_len 0 n)) ∙ ap (map tie) (one_here test place 0 n (omega arith) (omega (arith, below)))
      ∙ map_cond tie (test place) place

  ties_by : (f : ℕ → List Tie) (test : ℕ → Bool) (position : ℕ → ℕ) (ks : List ℕ)
      → All (λ k. f (position k) ≡ cond (test (position k)) (tie (position k) ∷ []) []) ks
      → flat_map f (map position ks) ≡ map (λ k. tie (position k)) (filter (λ k. test (position k)) ks)
  ties_by f test position [] each = refl
  ties_by f test position (k ∷ ks) each =
      let rest = ties_by f test position ks (λ j d below. each (suc j) d (omega (arith, below))) in
      let one : f (position k) ≡ cond (test (position k)) (tie (position k) ∷ []) [] = each 0 k (omega arith) in
      ap (λ (ts : List Tie). ts ++ flat_map f (map position ks)) one
      ∙ ap (λ (ts : List Tie). cond (test (position k)) (tie (position k) ∷ []) [] ++ ts) rest
      ∙ put_cond (λ k. tie (position k)) (test (position k)) k (filter (λ k. test (position k)) ks)

  -- ties that are told by the other's place in the file
  pub told_is : (x : CountedElectionView) (run number : ℕ) (test : ℕ → Bool) (n : ℕ) → IsCountedElection x → n ≡ length x.election.projects
      → told_as x run number (map tie (filter test (range_with_len 0 n))) ≡ told_with x (record { run = run; number = number; tie = tie winner }) test
  told_is x run number test n is many =
      let all = length x.election.projects in
      let position = position_in x.order in
      let ties = map tie (filter test (range_with_len 0 n)) in
      let put : Tie → ToldTie = λ t. record { run = run; number = number; tie = t } in
      let known : (k d : ℕ) → k < length (range_with_len 0 all) → position (get_or (range_with_len 0 all) k d) < n =
      λ k d below.
      let short : k < all = omega (arith, below, length-range_with_len 0 all) in
      let at = (position_known x.order is.is_order (get_or (range_with_len 0 all) k d) (omega (arith, get_or-range_with_len 0 all k d short, short, is.one_each))).0 in
      omega (arith, at, is.one_each, many) in
      ap (map put) (ties_by (λ place. filter (λ (t : Tie). t.other == place) ties) test position (range_with_len 0 all)
      (λ k d below. tie_at test n (position (get_or (range_with_len 0 all) k d)) (known k d below)))
      ∙ map-map put (λ k. tie (position k)) (filter (λ k. test (position k)) (range_with_len 0 all))
