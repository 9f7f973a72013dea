-- Two places exchanged in the order of all places; lists of different places.
use Rattle.std.proofs.Common.{◌≡◌, ◌≢◌, ◌∙◌, ◌<◌, ◌≤◌, ℕ, zero, suc, true, List, ◌∷◌, ap, arith, get_or, inl, inr, length, map, refl, subst, sym}
use Rattle.std.specs.Prelude.{◌==◌, All, AllPairs, Contains, slice_index, swap}
use Rattle.std.specs.List.{list_any, range_with_len}
use Rattle.std.specs.List.Sorted.{IsPermutation}
use Rattle.std.proofs.lemmas.Bool.{cases_Bool, cases_eq, cases_lt, eq-eqb, true≢false}
use Rattle.std.proofs.lemmas.Bool.Decides.{Decides-eqb}
use Rattle.std.proofs.lemmas.Cmp.{nat_eq_equiv}
use Rattle.std.proofs.lemmas.List.{get_or-map, get_or_default, length-map}
use Rattle.std.proofs.lemmas.List.Edits.{length-swap, swapped_from_swap}
use Rattle.std.proofs.lemmas.List.Folds.{Any-from_list_any, list_any_at}
use Rattle.std.proofs.lemmas.List.FromFn.{get_or-range_with_len, length-range_with_len}
use Rattle.std.proofs.lemmas.List.Kept.{AllPairs-cons}
use Rattle.std.proofs.lemmas.List.Sorted.{IsPermutation-swap}
use Rattle.std.proofs.lemmas.Map.Made.{IsDistinct-from_AllPairs, length-le_from_is_member}
use Rattle.pb_core.specs.Ballot.{HasSameMembers}
use Rattle.pb_core.specs.Election.{ElectionView, IsElection}
use Rattle.pb_core.specs.Inner.Order.{AreBack}
use Rattle.pb_core.specs.Order.{IsOrder, in_order}
use Rattle.pb_rounds.specs.MostVotes.{is_taken}
use Rattle.pb_core.proofs.InOrder.{orders_lead_back}
use Rattle.pb_core.proofs.Orders.{order_differs, positions_are}

-- ---- two places exchanged

module _ (n a b : ℕ) (below_a : a < n) (below_b : b < n) where
  abbrev swapped : List ℕ
  swapped = swap (range_with_len 0 n) a b

  pub as_long : length swapped ≡ n
  as_long = length-swap (range_with_len 0 n) a b ∙ length-range_with_len 0 n

  pub exchanged_is_order : IsOrder swapped
  exchanged_is_order =
      subst (λ many. IsPermutation (range_with_len 0 many) swapped) (sym as_long)
      (IsPermutation-swap (range_with_len 0 n) swapped a b (omega (arith, below_a, length-range_with_len 0 n)) (omega (arith, below_b, length-range_with_len 0 n)) refl)

  at : (k : ℕ) → k < n → get_or (range_with_len 0 n) k 0 ≡ k
  at k below = get_or-range_with_len 0 n k 0 below ∙ omega arith

  pub exchanged_back : AreBack swapped swapped
  exchanged_back =
      let (to_a, to_b, others) = swapped_from_swap (range_with_len 0 n) swapped a b 0 (omega (arith, below_a, length-range_with_len 0 n)) (omega (arith, below_b, length-range_with_len 0 n)) refl in
      let a_is : get_or swapped a 0 ≡ b = to_a ∙ at b below_b in
      let b_is : get_or swapped b 0 ≡ a = to_b ∙ at a below_a in
      record {
        one_each = refl;
        back = λ k below.
            let within : k < n = omega (arith, below, as_long) in
            elim (cases_eq k a) [
              | inl is_a ↦ ap (λ j. get_or swapped (get_or swapped j 0) 0) is_a ∙ ap (λ j. get_or swapped j 0) a_is ∙ (b_is ∙ sym is_a)
              | inr not_a ↦ elim (cases_eq k b) [
                | inl is_b ↦ ap (λ j. get_or swapped (get_or swapped j 0) 0) is_b ∙ ap (λ j. get_or swapped j 0) b_is ∙ (a_is ∙ sym is_b)
                | inr not_b ↦
                    let same : get_or swapped k 0 ≡ k = others k not_a not_b ∙ at k within in
                    ap (λ j. get_or swapped j 0) same ∙ same
              ]
            ];
      }

  -- exchanged once more all is as before
  pub exchanged_twice : (e : ElectionView) → IsElection e → length e.projects ≡ n → in_order swapped (in_order swapped e) ≡ e
  exchanged_twice e election many =
      ap (λ order. in_order order (in_order swapped e)) (positions_are swapped exchanged_is_order swapped exchanged_back)
      ∙ orders_lead_back e swapped election exchanged_is_order (as_long ∙ sym many)

-- ---- lists of different places

pub taken_from : (xs : List ℕ) (q : ℕ) → is_taken xs q ≡ true → Contains xs q
taken_from xs q some =
    let (k, x, below, here, test) = Any-from_list_any (λ x. x == q) xs some in
    let is_q : x ≡ q = (Decides-eqb x q).0 test in
    (k, below, get_or_default xs k q x below ∙ (here ∙ is_q))

pub to_taken : (xs : List ℕ) (q : ℕ) → Contains xs q → is_taken xs q ≡ true
to_taken xs q (k, below, here) = list_any_at (λ x. x == q) xs k q below (eq-eqb (get_or xs k q) q here)

from_own : (xs : List ℕ) (q : ℕ) → list_any (λ x. q == x) xs ≡ true → Contains xs q
from_own xs q some =
    let (k, x, below, here, test) = Any-from_list_any (λ x. q == x) xs some in
    let is_q : x ≡ q = sym ((Decides-eqb q x).0 test) in
    (k, below, get_or_default xs k q x below ∙ (here ∙ is_q))

to_own : (xs : List ℕ) (q : ℕ) → Contains xs q → list_any (λ x. q == x) xs ≡ true
to_own xs q (k, below, here) = list_any_at (λ x. q == x) xs k q below (eq-eqb q (get_or xs k q) (sym here))

pub no_more : (xs ys : List ℕ) → AllPairs (λ a b. a ≢ b) xs → ((q : ℕ) → Contains xs q → Contains ys q) → length xs ≤ length ys
no_more xs ys once within =
    length-le_from_is_member nat_eq_equiv xs ys (IsDistinct-from_AllPairs Decides-eqb xs once)
    (λ q member. to_own ys q (within q (from_own xs q member)))

pub as_many : (xs ys : List ℕ) → AllPairs (λ a b. a ≢ b) xs → AllPairs (λ a b. a ≢ b) ys → HasSameMembers xs ys → length xs ≡ length ys
as_many xs ys once_x once_y same =
    omega (arith, no_more xs ys once_x (λ q. (same q).0), no_more ys xs once_y (λ q. (same q).1))

-- as many different ones, each of them there, are all that there are
pub all_there : (xs ys : List ℕ) → AllPairs (λ a b. a ≢ b) xs → length xs ≡ length ys → ((q : ℕ) → Contains xs q → Contains ys q)
    → (q : ℕ) → Contains ys q → Contains xs q
all_there xs ys once many within q there = elim (cases_Bool (list_any (λ x. x == q) xs)) [
  | inl some ↦ taken_from xs q some
  | inr none ↦
      let apart : All (λ x. q ≢ x) xs = λ k d below same. true≢false (sym (list_any_at (λ x. x == q) xs k d below (eq-eqb (get_or xs k d) q (sym same))) ∙ none) in
      let more : length (q ∷ xs) ≤ length ys =
      no_more (q ∷ xs) ys (AllPairs-cons (λ a b. a ≢ b) q xs apart once) (λ p member. one_more p member) in
      absurd (omega (arith, more, many))
]
  where
    one_more : (p : ℕ) → Contains (q ∷ xs) p → Contains ys p
    one_more p (zero, below, here) = subst (Contains ys) here there
    one_more p (suc k, below, here) = within p (k, omega (arith, below), here)

-- places of an order of different ones are different
pub moved_differ : (order xs : List ℕ) → IsOrder order → All (λ x. x < length order) xs → AllPairs (λ a b. a ≢ b) xs
    → AllPairs (λ a b. a ≢ b) (map (slice_index order) xs)
moved_differ order xs is known once i j d less below same =
    let within : j < length xs = omega (arith, below, length-map xs (slice_index order)) in
    let before : i < length xs = omega (arith, within, less) in
    let there : get_or order (get_or xs i 0) 0 ≡ get_or order (get_or xs j 0) 0 =
    sym (get_or-map (slice_index order) xs i 0 d before) ∙ (same ∙ get_or-map (slice_index order) xs j 0 d within) in
    once i j 0 less within (order_injective (get_or xs i 0) (get_or xs j 0) (known i 0 before) (known j 0 within) there)
  where
    order_injective : (p q : ℕ) → p < length order → q < length order → get_or order p 0 ≡ get_or order q 0 → p ≡ q
    order_injective p q below_p below_q same = elim (cases_eq p q) [
      | inl is ↦ is
      | inr apart ↦ absurd (elim (cases_lt p q) [
        | inl less ↦ order_differs order is p q 0 less below_q same
        | inr more ↦ order_differs order is q p 0 (omega (arith, more, apart)) below_p (sym same)
      ])
    ]
