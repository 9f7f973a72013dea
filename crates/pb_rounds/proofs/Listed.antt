-- Numbers that are listed, a list without a number, and a sum over the listed numbers of a range.
use Rattle.std.proofs.Common.{◌≡◌, ◌≢◌, ℕ, zero, suc, ◌+◌, ◌<◌, ◌≤◌, List, [], ◌∷◌, ◌++◌, length, get_or, true, false, cond, not, refl, sym, ◌∙◌, ap, inl, inr, arith, ◌||◌}
use Rattle.std.specs.Prelude.{Contains, sum_by, ◌==◌, All, Any}
use Rattle.std.specs.List.{range_with_len}
use Rattle.std.specs.List.Sorted.{IsStrictlyIncreasing}
use Rattle.std.proofs.lemmas.Bool.{eq-eqb, eqb-true, ne_eqb, cases_eq, true≢false, or_left, or_right, or_cases, or_from, or_parts, cond-true, cond-false}
use Rattle.std.proofs.lemmas.List.{get_or_default, map-id}
use Rattle.std.proofs.lemmas.List.Elements.{All-nil, All-cons, All-tail, All-contains}
use Rattle.std.proofs.lemmas.List.FromFn.{map-range_with_len_more}
use Rattle.std.proofs.lemmas.List.Folds.{list_any_at, Any-from_list_any}
use Rattle.std.proofs.lemmas.List.Sums.{sum_by-cons, length-filter, count_by-le-length}
pub use Rattle.pb_rounds.specs.Inner.Progress.{RisesWithin}
use Rattle.pb_rounds.specs.Inner.Listed.{is_listed}
use Rattle.pb_rounds.specs.Run.{without}

-- what the list contains is listed, and the other way round
pub listed_from_contains : (xs : List ℕ) (n : ℕ) → Contains xs n → is_listed xs n ≡ true
listed_from_contains xs n h = list_any_at (λ m. m == n) xs h.0 n h.1 (eq-eqb _ n h.2)

found_is : (xs : List ℕ) (n : ℕ) → Any (λ m. (m == n) ≡ true) xs → Contains xs n
found_is xs n (k, m, below, here, same) = (k, below, get_or_default xs k n m below ∙ here ∙ eqb-true m n same)

pub contains_from_listed : (xs : List ℕ) (n : ℕ) → is_listed xs n ≡ true → Contains xs n
contains_from_listed xs n e = found_is xs n (Any-from_list_any (λ m. m == n) xs e)

-- another number stays listed
pub is_listed-without : (xs : List ℕ) (m n : ℕ) → n ≢ m → is_listed (without m xs) n ≡ is_listed xs n
is_listed-without [] m n d = refl
is_listed-without (x ∷ xs) m n d = elim (cases_eq x m) [
  | inl same ↦ rw (eq-eqb x m same, ne_eqb x n (λ e. d (sym e ∙ same))) (is_listed-without xs m n d)
  | inr other ↦ rw (ne_eqb x m other) (ap (λ b. (x == n) || b) (is_listed-without xs m n d))
]

-- what is listed after a number was taken out was listed before
pub listed_from_without : (xs : List ℕ) (m n : ℕ) → is_listed (without m xs) n ≡ true → is_listed xs n ≡ true
listed_from_without [] m n e = e
listed_from_without (x ∷ xs) m n e = elim (cases_eq x m) [
  | inl same ↦ or_right (x == n) _ (listed_from_without xs m n (rw (eq-eqb x m same) at e))
  | inr other ↦
      let either : ((x == n) || is_listed (without m xs) n) ≡ true = rw (ne_eqb x m other) at e in
      elim (or_cases (x == n) _ either) [
        | inl here ↦ or_left (x == n) _ here
        | inr later ↦ or_right (x == n) _ (listed_from_without xs m n later)
      ]
]

-- a listed number that is taken out makes the list shorter
pub length-without : (xs : List ℕ) (m : ℕ) → is_listed xs m ≡ true → length (without m xs) < length xs
length-without [] m e = absurd (true≢false (sym e))
length-without (x ∷ xs) m e = elim (cases_eq x m) [
  | inl same ↦ rw (eq-eqb x m same) (omega (arith, length-filter (λ p. not (p == m)) xs, count_by-le-length (λ p. not (p == m)) xs))
  | inr other ↦
      let later : is_listed xs m ≡ true = rw (ne_eqb x m other) at e in
      rw (ne_eqb x m other) (let less = length-without xs m later in omega arith)
]

-- each number of a range is listed
pub is_listed-range : (low n k : ℕ) → low ≤ k → k < low + n → is_listed (range_with_len low n) k ≡ true
is_listed-range low zero k a b = absurd (omega arith)
is_listed-range low (suc n) k a b = elim (cases_eq low k) [
  | inl same ↦ or_left (low == k) _ (eq-eqb low k same)
  | inr other ↦ or_right (low == k) _ (is_listed-range (low + 1) n k (omega arith) (omega arith))
]

rises-tail : (x : ℕ) (xs : List ℕ) → IsStrictlyIncreasing (x ∷ xs) → IsStrictlyIncreasing xs
rises-tail x xs rise k h =
    let step : get_or (x ∷ xs) (suc k) 0 < get_or (x ∷ xs) (suc k + 1) 0 = rise (suc k) (omega arith) in
    let same : suc k + 1 ≡ suc (k + 1) = omega arith in
    rw same at step

pub rises_within : (xs : List ℕ) (low high : ℕ) → (0 < length xs → low ≤ get_or xs 0 0) → All (λ x. x < high) xs
    → IsStrictlyIncreasing xs → RisesWithin low high xs
rises_within [] low high from below rise = tt
rises_within (x ∷ xs) low high from below rise = (
  from (omega arith),
  below 0 0 (omega arith),
  rises_within xs (x + 1) high (λ some. let less = rise 0 (omega arith) in omega arith) (All-tail (λ y. y < high) x xs below) (rises-tail x xs rise),
)

not_listed_below : (xs : List ℕ) (low high n : ℕ) → RisesWithin low high xs → n < low → is_listed xs n ≡ false
not_listed_below [] low high n h below = refl
not_listed_below (x ∷ xs) low high n (from, to, rest) below =
    or_from (x == n) _ (ne_eqb x n (λ e. omega arith)) (not_listed_below xs (x + 1) high n rest (omega arith))

-- two sums over a range whose terms agree
sum_by-agree : (f g : ℕ → ℕ) (low n : ℕ) → ((k : ℕ) → low ≤ k → k < low + n → f k ≡ g k)
    → sum_by f (range_with_len low n) ≡ sum_by g (range_with_len low n)
sum_by-agree f g low zero h = refl
sum_by-agree f g low (suc n) h =
    let rest = sum_by-agree f g (low + 1) n (λ k a b. h k (omega arith) (omega arith)) in
    omega (arith, sum_by-cons f low (range_with_len (low + 1) n), sum_by-cons g low (range_with_len (low + 1) n), rest, h low (omega arith) (omega arith))

-- a sum over a range that counts the listed numbers alone
pub sum_by-listed : (f : ℕ → ℕ) (xs : List ℕ) (low n high : ℕ) → low + n ≡ high → RisesWithin low high xs
    → sum_by (λ k. cond (is_listed xs k) (f k) 0) (range_with_len low n) ≡ sum_by f xs
sum_by-listed f [] low zero high e h = refl
sum_by-listed f (x ∷ xs) low zero high e (from, to, rest) = absurd (omega arith)
sum_by-listed f [] low (suc n) high e h = sum_by-listed f [] (low + 1) n high (omega arith) tt
sum_by-listed f (x ∷ xs) low (suc n) high e (from, to, rest) = elim (cases_eq x low) [
  | inl same ↦
      let here : cond (is_listed (x ∷ xs) low) (f low) 0 ≡ f low = cond-true _ _ _ (or_left (x == low) _ (eq-eqb x low same)) in
      let others = sum_by-agree (λ k. cond (is_listed (x ∷ xs) k) (f k) 0) (λ k. cond (is_listed xs k) (f k) 0) (low + 1) n
      (λ k a b. rw (ne_eqb x k (λ q. omega arith)) refl) in
      let found = sum_by-listed f xs (low + 1) n high (omega arith) (rw same at rest) in
      sum_by-cons (λ k. cond (is_listed (x ∷ xs) k) (f k) 0) low (range_with_len (low + 1) n)
      ∙ (omega (arith, here, others, found, ap f same)) ∙ sym (sum_by-cons f x xs)
  | inr other ↦
      let here : cond (is_listed (x ∷ xs) low) (f low) 0 ≡ 0 =
      cond-false _ _ _ (not_listed_below (x ∷ xs) x high low (omega arith, to, rest) (omega arith)) in
      let found = sum_by-listed f (x ∷ xs) (low + 1) n high (omega arith) (omega arith, to, rest) in
      sum_by-cons (λ k. cond (is_listed (x ∷ xs) k) (f k) 0) low (range_with_len (low + 1) n)
      ∙ omega (arith, here, found)
]

-- a range with one number more
pub range-push : (n : ℕ) → range_with_len 0 (n + 1) ≡ range_with_len 0 n ++ n ∷ []
range-push n =
    sym (map-id (range_with_len 0 (n + 1))) ∙ map-range_with_len_more (λ k. k) 0 n n (omega arith)
    ∙ ap (λ xs. xs ++ n ∷ []) (map-id (range_with_len 0 n))

pub range_rises : (low n high : ℕ) → low + n ≡ high → RisesWithin low high (range_with_len low n)
range_rises low zero high e = tt
range_rises low (suc n) high e = (omega arith, omega arith, range_rises (low + 1) n high (omega arith))

pub RisesWithin-lower : (xs : List ℕ) (lower low high : ℕ) → lower ≤ low → RisesWithin low high xs → RisesWithin lower high xs
RisesWithin-lower [] lower low high h rises = tt
RisesWithin-lower (x ∷ xs) lower low high h (from, to, rest) = (omega arith, to, rest)

without_unlisted : (xs : List ℕ) (m : ℕ) → is_listed xs m ≡ false → without m xs ≡ xs
without_unlisted [] m e = refl
without_unlisted (x ∷ xs) m e =
    let parts = or_parts (x == m) _ e in
    rw parts.0 (ap (λ ys. x ∷ ys) (without_unlisted xs m parts.1))

-- rising numbers rise without one of them, and there is just one less
pub RisesWithin-without : (xs : List ℕ) (low high m : ℕ) → RisesWithin low high xs → RisesWithin low high (without m xs)
RisesWithin-without [] low high m h = tt
RisesWithin-without (x ∷ xs) low high m (from, to, rest) = elim (cases_eq x m) [
  | inl same ↦ rw (eq-eqb x m same) (RisesWithin-lower (without m xs) low (x + 1) high (omega arith) (RisesWithin-without xs (x + 1) high m rest))
  | inr other ↦ rw (ne_eqb x m other) (from, to, RisesWithin-without xs (x + 1) high m rest)
]

pub length-without_one : (xs : List ℕ) (low high m : ℕ) → RisesWithin low high xs → is_listed xs m ≡ true → length (without m xs) + 1 ≡ length xs
length-without_one [] low high m h e = absurd (true≢false (sym e))
length-without_one (x ∷ xs) low high m (from, to, rest) e = elim (cases_eq x m) [
  | inl same ↦
      let gone : without m xs ≡ xs = without_unlisted xs m (not_listed_below xs (x + 1) high m rest (omega arith)) in
      rw (eq-eqb x m same) (rw gone (omega arith))
  | inr other ↦
      let later : is_listed xs m ≡ true = rw (ne_eqb x m other) at e in
      rw (ne_eqb x m other) (let less = length-without_one xs (x + 1) high m rest later in omega arith)
]

-- rising numbers are below their end
pub RisesWithin-below : (xs : List ℕ) (low high : ℕ) → RisesWithin low high xs → All (λ x. x < high) xs
RisesWithin-below [] low high h = All-nil (λ x. x < high)
RisesWithin-below (x ∷ xs) low high (from, to, rest) = All-cons (λ x. x < high) x xs to (RisesWithin-below xs (x + 1) high rest)

pub is_listed-without_same : (xs : List ℕ) (m : ℕ) → is_listed (without m xs) m ≡ false
is_listed-without_same [] m = refl
is_listed-without_same (x ∷ xs) m = elim (cases_eq x m) [
  | inl same ↦ rw (eq-eqb x m same) (is_listed-without_same xs m)
  | inr other ↦ rw (ne_eqb x m other) (or_from (x == m) _ (ne_eqb x m other) (is_listed-without_same xs m))
]

pub listed-below : (xs : List ℕ) (high n : ℕ) → All (λ x. x < high) xs → is_listed xs n ≡ true → n < high
listed-below xs high n h e = All-contains (λ x. x < high) xs n h (contains_from_listed xs n e)
