-- The first number of a range that passes a test.
use Rattle.std.proofs.Common.{◌≡◌, ℕ, zero, suc, ◌+◌, ◌<◌, ◌≤◌, Bool, true, false, Option, Some, None, cond, inl, inr, refl, sym, ◌∙◌, arith}
use Rattle.std.specs.Prelude.{MatchOption}
use Rattle.std.specs.List.{find, range_with_len}
use Rattle.std.proofs.lemmas.Bool.{true≢false, cases_order}

-- p is the first number from low on, and below high, that passes the test
pub record IsFirstInRange (test : ℕ → Bool) (low high p : ℕ) : Type 0 where
  pub from : low ≤ p
  pub below : p < high
  pub passes : test p ≡ true
  pub first : (q : ℕ) → low ≤ q → q < p → test q ≡ false

abbrev pub NoneInRange : (ℕ → Bool) → ℕ → ℕ → Type 0
NoneInRange test low high = (q : ℕ) → low ≤ q → q < high → test q ≡ false

found_one_lower : (test : ℕ → Bool) (low high : ℕ) (b : Bool) → test low ≡ b → low < high
    → (o : Option ℕ) → MatchOption o (NoneInRange test (low + 1) high) (IsFirstInRange test (low + 1) high)
    → MatchOption (cond b (Some low) o) (NoneInRange test low high) (IsFirstInRange test low high)
found_one_lower test low high true e l o h = record {
  from = omega arith;
  below = l;
  passes = e;
  first = λ q a b. absurd (omega arith);
}
found_one_lower test low high false e l None h = λ q a b. elim (cases_order q low) [
  | inl same ↦ rw same e
  | inr other ↦ h q (omega (arith, other)) b
]
found_one_lower test low high false e l (Some p) h = record {
  from = omega (arith, h.from);
  below = h.below;
  passes = h.passes;
  first = λ q a b. elim (cases_order q low) [
    | inl same ↦ rw same e
    | inr other ↦ h.first q (omega (arith, other)) b
  ];
}

-- what `find` gives over a range
pub find-range_with_len : (test : ℕ → Bool) (n low high : ℕ) → low + n ≡ high
    → MatchOption (find test (range_with_len low n)) (NoneInRange test low high) (IsFirstInRange test low high)
find-range_with_len test zero low high e = λ q a b. absurd (omega arith)
find-range_with_len test (suc n) low high e =
    found_one_lower test low high (test low) refl (omega arith) (find test (range_with_len (low + 1) n))
    (find-range_with_len test n (low + 1) high (omega arith))

first_is_unique : (test : ℕ → Bool) (low high p : ℕ) → IsFirstInRange test low high p
    → (o : Option ℕ) → MatchOption o (NoneInRange test low high) (IsFirstInRange test low high) → o ≡ Some p
first_is_unique test low high p h None none = absurd (true≢false (sym h.passes ∙ none p h.from h.below))
first_is_unique test low high p h (Some q) g = elim (cases_order p q) [
  | inl same ↦ rw same refl
  | inr (inl less) ↦ absurd (true≢false (sym h.passes ∙ g.first p h.from less))
  | inr (inr more) ↦ absurd (true≢false (sym g.passes ∙ h.first q g.from more))
]

-- the first that passes is what `find` gives
pub find_from_first : (test : ℕ → Bool) (n low high p : ℕ) → low + n ≡ high → IsFirstInRange test low high p
    → find test (range_with_len low n) ≡ Some p
find_from_first test n low high p e h =
    first_is_unique test low high p h (find test (range_with_len low n)) (find-range_with_len test n low high e)
