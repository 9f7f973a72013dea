-- The members of lists of numbers, and of those numbers of a range that pass a test.
use Rattle.std.proofs.Common.{◌≡◌, ◌≢◌, ℕ, zero, suc, ◌+◌, ◌<◌, ◌⊎◌, Bool, true, false, cond, List, [], ◌∷◌, length, get_or, Contains, refl, sym, ◌∙◌, ap, inl, inr, arith}
use Rattle.std.specs.Prelude.{All, filter}
use Rattle.std.specs.List.{AllPairs, range_with_len}
use Rattle.std.specs.List.Sorted.{IsStrictlyIncreasing}
use Rattle.std.proofs.lemmas.List.Elements.{All-contains, All-filter, filter_passes}
use Rattle.std.proofs.lemmas.List.FromFn.{get_or-range_with_len, length-range_with_len}
use Rattle.std.proofs.lemmas.List.Kept.{AllPairs-from_increasing, IsStrictlyIncreasing-filter}

contains_cases : (y z : ℕ) (ys : List ℕ) → Contains (y ∷ ys) z → (y ≡ z) ⊎ Contains ys z
contains_cases y z ys (zero, below, here) = inl here
contains_cases y z ys (suc k, below, here) = inr (k, omega (arith, below), here)

contains_later : (y z : ℕ) (ys : List ℕ) → Contains ys z → Contains (y ∷ ys) z
contains_later y z ys (k, below, here) = (suc k, omega (arith, below), here)

-- of a list that rises, the first is below the others, which rise
below_later : (x : ℕ) (xs : List ℕ) → IsStrictlyIncreasing (x ∷ xs) → (z : ℕ) → Contains xs z → x < z
below_later x xs rise z (k, below, here) =
    let less : x < get_or xs k z = AllPairs-from_increasing (x ∷ xs) rise 0 (suc k) z (omega arith) (omega (arith, below)) in
    omega (arith, less, here)

rise_later : (x : ℕ) (xs : List ℕ) → IsStrictlyIncreasing (x ∷ xs) → IsStrictlyIncreasing xs
rise_later x xs rise k below =
    AllPairs-from_increasing (x ∷ xs) rise (suc k) (suc (k + 1)) 0 (omega arith) (omega (arith, below))

module _ (x y : ℕ) (xs ys : List ℕ) (rise_x : IsStrictlyIncreasing (x ∷ xs)) (rise_y : IsStrictlyIncreasing (y ∷ ys)) where
  same_first : Contains (y ∷ ys) x → Contains (x ∷ xs) y → x ≡ y
  same_first to from = elim (contains_cases y x ys to) [
    | inl same ↦ sym same
    | inr later ↦ elim (contains_cases x y xs from) [
      | inl same ↦ same
      | inr other ↦ absurd (omega (arith, below_later y ys rise_y x later, below_later x xs rise_x y other))
    ]
  ]

  among_later : x ≡ y → (z : ℕ) → Contains (y ∷ ys) z → Contains xs z → Contains ys z
  among_later same z to among = elim (contains_cases y z ys to) [
    | inl is ↦ absurd (omega (arith, below_later x xs rise_x z among, is, same))
    | inr later ↦ later
  ]

-- lists that rise are the same where they have the same members
pub same_members : (xs ys : List ℕ) → IsStrictlyIncreasing xs → IsStrictlyIncreasing ys → ((z : ℕ) → Contains xs z → Contains ys z)
    → ((z : ℕ) → Contains ys z → Contains xs z) → xs ≡ ys
same_members [] [] rise_x rise_y to from = refl
same_members [] (y ∷ ys) rise_x rise_y to from = absurd (omega (arith, (from y (zero, omega arith, refl)).1))
same_members (x ∷ xs) [] rise_x rise_y to from = absurd (omega (arith, (to x (zero, omega arith, refl)).1))
same_members (x ∷ xs) (y ∷ ys) rise_x rise_y to from =
    let same : x ≡ y = same_first x y xs ys rise_x rise_y (to x (zero, omega arith, refl)) (from y (zero, omega arith, refl)) in
    ap (λ v. v ∷ xs) same ∙ ap (λ vs. y ∷ vs)
    (same_members xs ys (rise_later x xs rise_x) (rise_later y ys rise_y)
    (λ z among. among_later x y xs ys rise_x rise_y same z (to z (contains_later x z xs among)) among)
    (λ z among. among_later y x ys xs rise_y rise_x (sym same) z (from z (contains_later y z ys among)) among))

-- a range, and what passes a test in it
pub range_rises : (n : ℕ) → IsStrictlyIncreasing (range_with_len 0 n)
range_rises n k h =
    let short : k + 1 < n = omega (arith, length-range_with_len 0 n) in
    let here = get_or-range_with_len 0 n k 0 (omega arith) in
    let next = get_or-range_with_len 0 n (k + 1) 0 short in
    omega (arith, here, next)

pub in_range : (n k : ℕ) → k < n → Contains (range_with_len 0 n) k
in_range n k below =
    (k, omega (arith, below, length-range_with_len 0 n), get_or-range_with_len 0 n k k below ∙ omega arith)

pub range_below : (n : ℕ) → All (λ k. k < n) (range_with_len 0 n)
range_below n i d below =
    let short : i < n = omega (arith, below, length-range_with_len 0 n) in
    let here = get_or-range_with_len 0 n i d short in
    omega (arith, here, short)

pub range_differs : (n : ℕ) → AllPairs (λ a b. a ≢ b) (range_with_len 0 n)
range_differs n i j d less below same =
    let short : j < n = omega (arith, below, length-range_with_len 0 n) in
    let here = get_or-range_with_len 0 n i d (omega (arith, less, short)) in
    let other = get_or-range_with_len 0 n j d short in
    omega (arith, here, other, same, less)

kept_by : (y x : ℕ) (kept : List ℕ) (b : Bool) → Contains kept x → Contains (cond b (y ∷ kept) kept) x
kept_by y x kept true found = (suc found.0, omega (arith, found.1), found.2)
kept_by y x kept false found = found

filter_keeps : (p : ℕ → Bool) (xs : List ℕ) (x : ℕ) → Contains xs x → p x ≡ true → Contains (filter p xs) x
filter_keeps p [] x found passes = absurd (omega (arith, found.1))
filter_keeps p (y ∷ ys) x (zero, below, here) passes = rw (ap p here ∙ passes) (zero, omega arith, here)
filter_keeps p (y ∷ ys) x (suc k, below, here) passes =
    kept_by y x (filter p ys) (p y) (filter_keeps p ys x (k, omega (arith, below), here) passes)

pub in_filter : (p : ℕ → Bool) (n k : ℕ) → k < n → p k ≡ true → Contains (filter p (range_with_len 0 n)) k
in_filter p n k below passes = filter_keeps p (range_with_len 0 n) k (in_range n k below) passes

pub from_filter : (p : ℕ → Bool) (n k : ℕ) → Contains (filter p (range_with_len 0 n)) k → (k < n) × (p k ≡ true)
from_filter p n k found =
    let all = range_with_len 0 n in (
      All-contains (λ i. i < n) (filter p all) k (All-filter p (λ i. i < n) all (range_below n)) found,
      All-contains (λ i. p i ≡ true) (filter p all) k (filter_passes p all) found,
    )

pub filter_rises : (p : ℕ → Bool) (n : ℕ) → IsStrictlyIncreasing (filter p (range_with_len 0 n))
filter_rises p n = IsStrictlyIncreasing-filter p (range_with_len 0 n) (range_rises n)
