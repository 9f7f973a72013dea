-- What tests of most votes first say, in the words of their law.
use Rattle.std.proofs.Common.{◌≡◌, ℕ, ◌<◌, ◌≤◌, ◌⊎◌, true, false, not, ◌&&◌, List, Contains, refl, sym, ◌∙◌, ap, subst, inl, inr, arith}
use Rattle.std.specs.Prelude.{◌==◌, nat_le, nat_lt, slice_index_or}
use Rattle.std.specs.Cmp.{ranks}
use Rattle.std.specs.Ordering.{MatchOrdering, is_lt, nat_cmp, ordering_then}
use Rattle.std.specs.declared.cmp.Ordering.{Ordering}
use Rattle.std.specs.declared.cmp.Ordering.TheVariants.{Less, Equal, Greater}
use Rattle.std.proofs.lemmas.Bool.{and_from, and_parts, cases_Bool, eq-eqb, eqb-true, false≢true, le-leb, leb-true, lt-ltb, ltb-true, not-true}
use Rattle.std.proofs.lemmas.List.Folds.{Any-from_list_any, list_any-from_Any}
use Rattle.pb_price.specs.Supporters.{SupportView, cost_at}
use Rattle.pb_rounds.specs.MostVotes.{comes_first, fits, is_taken, votes_at}

-- what is taken is in the list
pub taken_is_there : (taken : List ℕ) (place : ℕ) → is_taken taken place ≡ true → Contains taken place
taken_is_there taken place is =
    let (k, x, below, here, same) = Any-from_list_any (λ t. t == place) taken is in
    (k, below, subst (λ (y : ℕ). slice_index_or taken k y ≡ y) (eqb-true x place same) here)

pub there_is_taken : (taken : List ℕ) (place : ℕ) → Contains taken place → is_taken taken place ≡ true
there_is_taken taken place (k, below, here) =
    list_any-from_Any (λ t. t == place) taken (k, place, below, here, eq-eqb place place refl)

-- what fits has a supporter, is not taken, and costs no more than is left
module _ (s : SupportView) (taken : List ℕ) (left place : ℕ) where
  pub fitting_fits : fits s taken left place ≡ true → (0 < votes_at s place) × (¬ Contains taken place) × (cost_at s place ≤ left)
  fitting_fits is =
      let some = and_parts (nat_lt 0 (votes_at s place)) _ is in
      let free = and_parts (not (is_taken taken place)) (nat_le (cost_at s place) left) some.1 in (
        ltb-true 0 (votes_at s place) some.0,
        λ there. false≢true (sym (not-true (is_taken taken place) free.0) ∙ there_is_taken taken place there),
        leb-true (cost_at s place) left free.1,
      )

  is_free : ¬ Contains taken place → not (is_taken taken place) ≡ true
  is_free none = elim (cases_Bool (is_taken taken place)) [
    | inl is ↦ absurd (none (taken_is_there taken place is))
    | inr is_not ↦ ap not is_not
  ]

  pub it_fits : (0 < votes_at s place) × (¬ Contains taken place) × (cost_at s place ≤ left) → fits s taken left place ≡ true
  it_fits (some, none, small) =
      and_from _ _ (lt-ltb 0 (votes_at s place) some) (and_from _ _ (is_free none) (le-leb (cost_at s place) left small))

-- who comes first by one number, and then by another order
first_of : (x y : ℕ) (rest o : Ordering) → MatchOrdering o (x < y) (x ≡ y) (y < x) → is_lt (ordering_then o rest) ≡ true
    → (x < y) ⊎ ((x ≡ y) × (is_lt rest ≡ true))
first_of x y rest Less h e = inl h
first_of x y rest Equal h e = inr (h, e)
first_of x y rest Greater h e = absurd (false≢true e)

is_first : (x y : ℕ) (rest o : Ordering) → MatchOrdering o (x < y) (x ≡ y) (y < x) → (x < y) ⊎ ((x ≡ y) × (is_lt rest ≡ true))
    → is_lt (ordering_then o rest) ≡ true
is_first x y rest Less h e = refl
is_first x y rest Equal h (inl less) = absurd (omega (arith, h, less))
is_first x y rest Equal h (inr same) = same.1
is_first x y rest Greater h (inl less) = absurd (omega (arith, h, less))
is_first x y rest Greater h (inr same) = let equal = same.0 in absurd (omega (arith, h, equal))

less_of : (x y : ℕ) (o : Ordering) → MatchOrdering o (x < y) (x ≡ y) (y < x) → is_lt o ≡ true → x < y
less_of x y Less h e = h
less_of x y Equal h e = absurd (false≢true e)
less_of x y Greater h e = absurd (false≢true e)

is_less : (x y : ℕ) (o : Ordering) → MatchOrdering o (x < y) (x ≡ y) (y < x) → x < y → is_lt o ≡ true
is_less x y Less h less = refl
is_less x y Equal h less = absurd (omega (arith, h, less))
is_less x y Greater h less = absurd (omega (arith, h, less))

-- more votes, or as many and a lower cost, or that too and an earlier place
module _ (s : SupportView) (place other : ℕ) where
  abbrev by_cost : Ordering
  by_cost = ordering_then (nat_cmp (cost_at s place) (cost_at s other)) (nat_cmp place other)

  abbrev CostsLess : Type 0
  CostsLess = (cost_at s place < cost_at s other) ⊎ ((cost_at s place ≡ cost_at s other) × (place < other))

  costs_less : is_lt by_cost ≡ true → CostsLess
  costs_less e = elim (first_of (cost_at s place) (cost_at s other) (nat_cmp place other) (nat_cmp (cost_at s place) (cost_at s other)) (ranks (cost_at s place) (cost_at s other)) e) [
    | inl less ↦ inl less
    | inr same ↦ inr (same.0, less_of place other (nat_cmp place other) (ranks place other) same.1)
  ]

  less_costs : CostsLess → is_lt by_cost ≡ true
  less_costs (inl less) = is_first (cost_at s place) (cost_at s other) (nat_cmp place other) (nat_cmp (cost_at s place) (cost_at s other)) (ranks (cost_at s place) (cost_at s other)) (inl less)
  less_costs (inr (same, less)) =
      is_first (cost_at s place) (cost_at s other) (nat_cmp place other) (nat_cmp (cost_at s place) (cost_at s other)) (ranks (cost_at s place) (cost_at s other))
      (inr (same, is_less place other (nat_cmp place other) (ranks place other) less))

  pub first_comes : comes_first s place other ≡ true → (votes_at s other < votes_at s place) ⊎ ((votes_at s other ≡ votes_at s place) × CostsLess)
  first_comes e = elim (first_of (votes_at s other) (votes_at s place) by_cost (nat_cmp (votes_at s other) (votes_at s place)) (ranks (votes_at s other) (votes_at s place)) e) [
    | inl more ↦ inl more
    | inr same ↦ inr (same.0, costs_less same.1)
  ]

  pub it_comes_first : (votes_at s other < votes_at s place) ⊎ ((votes_at s other ≡ votes_at s place) × CostsLess) → comes_first s place other ≡ true
  it_comes_first (inl more) = is_first (votes_at s other) (votes_at s place) by_cost (nat_cmp (votes_at s other) (votes_at s place)) (ranks (votes_at s other) (votes_at s place)) (inl more)
  it_comes_first (inr (same, less)) =
      is_first (votes_at s other) (votes_at s place) by_cost (nat_cmp (votes_at s other) (votes_at s place)) (ranks (votes_at s other) (votes_at s place)) (inr (same, less_costs less))
