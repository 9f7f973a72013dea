-- Candidates in order, passed over where they can't be paid.
use Rattle.std.proofs.Common.{◌≡◌, ◌≢◌, ℕ, zero, suc, ◌+◌, ◌-◌, ◌<◌, ◌≤◌, List, [], ◌∷◌, ◌++◌, length, get_or, Bool, true, false, cond, not, refl, sym, subst, ◌∙◌, ap, inl, inr, arith, ◌||◌}
use Rattle.std.specs.Prelude.{All, map, nat_lt, nat_le, ◌==◌}
use Rattle.std.specs.Cmp.{IsStrictWeakOrder, back_total, nat_cmp_total, on_total, then_total}
use Rattle.std.specs.List.{AllByRecursion, IsDistinct, filter, list_any, range_with_len}
use Rattle.std.specs.List.Sorted.{IsPermutation, IsSortedBy}
use Rattle.std.specs.Ordering.{is_lt, nat_cmp, ordering_then}
use Rattle.std.proofs.lemmas.Bool.{and_from, and_parts, cases_lt, cases_eq, eq-eqb, eqb-true, eqb-false, ne_eqb, false_from_ne_true, le-leb, leb-true, leb-false, not-true, not_from_false, or_cases, or_from, or_left, or_parts, or_right, true≢false}
use Rattle.std.proofs.lemmas.List.Elements.{All-filter, All-from_get_or, All-from_recursion, All-head, All-map, All-tail, filter_passes, recursion_from_All}
use Rattle.std.proofs.lemmas.List.FromFn.{get_or-range_with_len, length-range_with_len}
use Rattle.std.proofs.lemmas.List.Folds.{list_any-append, Any-from_list_any}
use Rattle.std.proofs.lemmas.List.MinMax.{ranks_by}
use Rattle.std.proofs.lemmas.List.Sorted.{All-permutation, list_any-IsPermutation, sorted_far}
use Rattle.std.proofs.lemmas.Map.Keys.{IsDistinct-IsPermutation, IsDistinct-cons, IsDistinct-head, IsDistinct-tail}
use Rattle.pb_price.specs.Inner.Support.{HasSupportForm}
use Rattle.pb_price.specs.Supporters.{SupportView, cost_at}
use Rattle.pb_rounds.specs.Inner.Candidates.{affordable, candidate_of, candidates_of, may_be_added}
use Rattle.pb_rounds.specs.MostVotes.{FitsFirst, comes_first, fits, is_taken, most_votes_first, votes_at}
use Rattle.pb_rounds.specs.declared.by_votes.candidate.Candidate.{Candidate}
use Rattle.pb_rounds.proofs.Computed.{computed_is_filled, fitting_is_known, fitting_is_paid}
use Rattle.pb_rounds.proofs.Filled.{IsFilled, one_filled}
use Rattle.pb_rounds.proofs.VotesOrder.{one_comes_first}

-- the order of candidates, as it is derived
abbrev pub comes_before : Candidate → Candidate → Bool
comes_before c d =
    is_lt (ordering_then (nat_cmp d.votes.0 c.votes.0) (ordering_then (nat_cmp c.cost d.cost) (nat_cmp c.place d.place)))

abbrev pub same_place : Candidate → Candidate → Bool
same_place c d = c.place == d.place

abbrev pub is_among : List Candidate → ℕ → Bool
is_among candidates place = list_any (λ c. c.place == place) candidates

-- a candidate of a project that may be added
record IsCandidate (s : SupportView) (taken : List ℕ) (c : Candidate) : Type 0 where
  pub is_own : c ≡ candidate_of s c.place
  pub may : may_be_added s taken c.place ≡ true

-- the candidates that are left: all that fit are among them, each once, and they stand in order
record AreLeft (s : SupportView) (taken : List ℕ) (left : ℕ) (candidates : List Candidate) : Type 0 where
  pub are : All (IsCandidate s taken) candidates
  pub all : (place : ℕ) → fits s taken left place ≡ true → is_among candidates place ≡ true
  pub differ : IsDistinct same_place candidates
  pub sorted : IsSortedBy comes_before candidates

own_order : (s : SupportView) (c d : Candidate) → c ≡ candidate_of s c.place → d ≡ candidate_of s d.place
    → comes_before c d ≡ comes_first s c.place d.place
own_order s c d is_c is_d = ap (λ x. comes_before x d) is_c ∙ ap (λ x. comes_before (candidate_of s c.place) x) is_d

candidates_rank : IsStrictWeakOrder comes_before
candidates_rank =
    ranks_by (then_total (back_total (on_total (λ (c : Candidate). c.votes.0) nat_cmp_total))
    (then_total (on_total (λ (c : Candidate). c.cost) nat_cmp_total) (on_total (λ (c : Candidate). c.place) nat_cmp_total))) (λ c. c)

sorted_tail : (c : Candidate) (candidates : List Candidate) → IsSortedBy comes_before (c ∷ candidates) → IsSortedBy comes_before candidates
sorted_tail c candidates h k d from below =
    let up : comes_before (get_or (c ∷ candidates) (suc k + 1) d) (get_or (c ∷ candidates) (suc k) d) ≡ false = h (suc k) d (omega arith) (omega arith) in
    let same : suc k + 1 ≡ suc (k + 1) = omega arith in
    rw same at up

-- the first of the candidates comes before each other one
module _ (s : SupportView) (taken : List ℕ) (left : ℕ) (c : Candidate) (candidates : List Candidate) (h : AreLeft s taken left (c ∷ candidates)) where
  is_first : IsCandidate s taken c
  is_first = All-head (IsCandidate s taken) c candidates h.are

  later_differ : All (λ d. (c.place == d.place) ≡ false) candidates
  later_differ = All-from_recursion (λ d. same_place c d ≡ false) candidates (IsDistinct-head same_place c candidates h.differ)

  first_of_all : All (λ d. comes_first s c.place d.place ≡ true) candidates
  first_of_all k d below =
      let other : Candidate = get_or candidates k d in
      let is_other = All-tail (IsCandidate s taken) c candidates h.are k d below in
      let apart : c.place ≢ other.place = eqb-false _ _ (later_differ k d below) in
      let up : comes_before (get_or (c ∷ candidates) (suc k) d) (get_or (c ∷ candidates) 0 d) ≡ false =
      sorted_far comes_before candidates_rank (c ∷ candidates) h.sorted 0 (suc k) d (omega arith) (omega arith) in
      one_comes_first s c.place other.place apart (sym (own_order s other c is_other.is_own is_first.is_own) ∙ up)

  among_later : (place : ℕ) → place ≢ c.place → fits s taken left place ≡ true → is_among candidates place ≡ true
  among_later place apart fitting = elim (or_cases (c.place == place) _ (h.all place fitting)) [
    | inl here ↦ absurd (apart (sym (eqb-true _ _ here)))
    | inr later ↦ later
  ]

  comes_first_at : (other : ℕ) → is_among candidates other ≡ true → comes_first s c.place other ≡ true
  comes_first_at other among =
      let found = Any-from_list_any (λ d. d.place == other) candidates among in
      let at = first_of_all found.0 found.1 found.2 in
      let is : get_or candidates found.0 found.1 ≡ found.1 = found.3 in
      ap (comes_first s c.place) (sym (eqb-true _ _ found.4)) ∙ ap (λ d. comes_first s c.place d.place) (sym is) ∙ at

  it_fits : c.cost ≤ left → fits s taken left c.place ≡ true
  it_fits paid =
      let parts = and_parts _ _ is_first.may in
      let cost : c.cost ≡ cost_at s c.place = ap (λ (d : Candidate). d.cost) is_first.is_own in
      and_from _ _ parts.0 (and_from _ _ parts.1 (le-leb (cost_at s c.place) left (omega arith)))

  fits_first : c.cost ≤ left → FitsFirst s taken left c.place
  fits_first paid = record {
    does_fit = it_fits paid;
    first = λ other fitting apart. comes_first_at other (among_later other apart fitting);
  }

  -- it is passed over
  others_left : left < c.cost → AreLeft s taken left candidates
  others_left unpaid = record {
    are = All-tail (IsCandidate s taken) c candidates h.are;
    all = λ place fitting. among_later place
        (λ same.
        let cost : c.cost ≡ cost_at s c.place = ap (λ (d : Candidate). d.cost) is_first.is_own in
        let paid = fitting_is_paid s taken left place fitting in
        omega (arith, ap (cost_at s) same)) fitting;
    differ = IsDistinct-tail same_place c candidates h.differ;
    sorted = sorted_tail c candidates h.sorted;
  }

-- a project more is taken
taken_more : (taken : List ℕ) (place other : ℕ) → is_taken (taken ++ place ∷ []) other ≡ (is_taken taken other || ((place == other) || false))
taken_more taken place other = list_any-append (λ t. t == other) taken (place ∷ [])

fits_before : (s : SupportView) (taken : List ℕ) (left place other : ℕ) → fits s (taken ++ place ∷ []) (left - cost_at s place) other ≡ true
    → (other ≢ place) × (fits s taken left other ≡ true)
fits_before s taken left place other h =
    let parts = and_parts _ _ h in
    let later = and_parts _ _ parts.1 in
    let free = or_parts _ _ (sym (taken_more taken place other) ∙ not-true _ later.0) in
    let apart = eqb-false place other (or_parts _ _ free.1).0 in
    let paid = leb-true _ _ later.1 in
    (λ same. apart (sym same), and_from _ _ parts.0 (and_from _ _ (not_from_false _ free.0) (le-leb (cost_at s other) left (omega arith))))

still_may : (s : SupportView) (taken : List ℕ) (place other : ℕ) → (place == other) ≡ false → may_be_added s taken other ≡ true
    → may_be_added s (taken ++ place ∷ []) other ≡ true
still_may s taken place other apart may =
    let parts = and_parts _ _ may in
    and_from _ _ parts.0 (not_from_false _ (taken_more taken place other ∙ or_from _ _ (not-true _ parts.1) (or_from _ _ apart refl)))

left_after_first : (s : SupportView) (taken : List ℕ) (left : ℕ) (c : Candidate) (candidates : List Candidate) → AreLeft s taken left (c ∷ candidates)
    → AreLeft s (taken ++ c.place ∷ []) (left - cost_at s c.place) candidates
left_after_first s taken left c candidates h = record {
  are = λ k d below.
      let is = All-tail (IsCandidate s taken) c candidates h.are k d below in
      record { is_own = is.is_own; may = still_may s taken c.place (get_or candidates k d).place (later_differ s taken left c candidates h k d below) is.may };
  all = λ place fitting.
      let before = fits_before s taken left c.place place fitting in
      among_later s taken left c candidates h place before.0 before.1;
  differ = IsDistinct-tail same_place c candidates h.differ;
  sorted = sorted_tail c candidates h.sorted;
}

filled_by : (s : SupportView) (taken : List ℕ) (left : ℕ) (c : Candidate) (candidates : List Candidate) → AreLeft s taken left (c ∷ candidates)
    → (AreLeft s (taken ++ c.place ∷ []) (left - cost_at s c.place) candidates → IsFilled s (taken ++ c.place ∷ []) (left - cost_at s c.place) (affordable (left - cost_at s c.place) candidates))
    → (AreLeft s taken left candidates → IsFilled s taken left (affordable left candidates))
    → (b : Bool) → nat_le c.cost left ≡ b → IsFilled s taken left (cond b (c.place ∷ affordable (left - c.cost) candidates) (affordable left candidates))
filled_by s taken left c candidates h paid passed true e =
    let cost : c.cost ≡ cost_at s c.place = ap (λ (d : Candidate). d.cost) (is_first s taken left c candidates h).is_own in
    (fits_first s taken left c candidates h (leb-true _ _ e), subst (λ n. IsFilled s (taken ++ c.place ∷ []) (left - cost_at s c.place) (affordable (left - n) candidates)) (sym cost) (paid (left_after_first s taken left c candidates h)))
filled_by s taken left c candidates h paid passed false e = passed (others_left s taken left c candidates h (leb-false _ _ e))

-- what can be paid, one after the other, is what most votes first adds
affordable_is_filled : (s : SupportView) (candidates : List Candidate) (taken : List ℕ) (left : ℕ) → AreLeft s taken left candidates
    → IsFilled s taken left (affordable left candidates)
unfolding affordable
affordable_is_filled s [] taken left h = λ place. false_from_ne_true _ (λ fitting. true≢false (sym (h.all place fitting)))
affordable_is_filled s (c ∷ candidates) taken left h =
    filled_by s taken left c candidates h
    (affordable_is_filled s candidates (taken ++ c.place ∷ []) (left - cost_at s c.place))
    (affordable_is_filled s candidates taken left) (nat_le c.cost left) refl

-- the numbers of a range are no less than its first
range_above : (low n : ℕ) → All (λ k. low ≤ k) (range_with_len low n)
range_above low n = All-from_get_or (λ k. low ≤ k) (range_with_len low n) 0 (λ i below.
    let at = get_or-range_with_len low n i 0 (omega (arith, length-range_with_len low n)) in
    omega (arith, at))

none_differ : IsDistinct same_place []
unfolding IsDistinct
none_differ = tt

module _ (s : SupportView) (p : ℕ → Bool) where
  later_apart : (place low n : ℕ) → place < low
      → AllByRecursion (λ d. same_place (candidate_of s place) d ≡ false) (map (candidate_of s) (filter p (range_with_len low n)))
  later_apart place low n h =
      recursion_from_All (λ d. same_place (candidate_of s place) d ≡ false) (map (candidate_of s) (filter p (range_with_len low n)))
      (All-map (λ d. same_place (candidate_of s place) d ≡ false) (candidate_of s) (filter p (range_with_len low n))
      (All-filter p (λ k. (place == k) ≡ false) (range_with_len low n)
      (λ k d below. let from = range_above low n k d below in ne_eqb _ _ (λ e. omega arith))))

  kept_differ_by : (low n : ℕ) → IsDistinct same_place (map (candidate_of s) (filter p (range_with_len (low + 1) n)))
      → (b : Bool) → IsDistinct same_place (map (candidate_of s) (cond b (low ∷ filter p (range_with_len (low + 1) n)) (filter p (range_with_len (low + 1) n))))
  kept_differ_by low n later true =
      IsDistinct-cons same_place (candidate_of s low) (map (candidate_of s) (filter p (range_with_len (low + 1) n))) (later_apart low (low + 1) n (omega arith)) later
  kept_differ_by low n later false = later

  kept_differ : (low n : ℕ) → IsDistinct same_place (map (candidate_of s) (filter p (range_with_len low n)))
  kept_differ low zero = none_differ
  kept_differ low (suc n) = kept_differ_by low n (kept_differ (low + 1) n) (p low)

  kept_is_among_by : (place low n : ℕ) → p place ≡ true → low ≤ place
      → (low + 1 ≤ place → is_among (map (candidate_of s) (filter p (range_with_len (low + 1) n))) place ≡ true)
      → (b : Bool) → p low ≡ b → is_among (map (candidate_of s) (cond b (low ∷ filter p (range_with_len (low + 1) n)) (filter p (range_with_len (low + 1) n)))) place ≡ true
  kept_is_among_by place low n passes from later true e = elim (cases_lt low place) [
    | inl more ↦ or_right (low == place) _ (later (omega arith))
    | inr least ↦ or_left (low == place) _ (eq-eqb low place (omega arith))
  ]
  kept_is_among_by place low n passes from later false e = elim (cases_lt low place) [
    | inl more ↦ later (omega arith)
    | inr least ↦
        let same : low ≡ place = omega arith in
        absurd (true≢false (sym (ap p same ∙ passes) ∙ e))
  ]

  kept_is_among : (place low n : ℕ) → p place ≡ true → low ≤ place → place < low + n
      → is_among (map (candidate_of s) (filter p (range_with_len low n))) place ≡ true
  kept_is_among place low zero passes from below = absurd (omega arith)
  kept_is_among place low (suc n) passes from below =
      kept_is_among_by place low n passes from (λ more. kept_is_among place (low + 1) n passes more (omega arith)) (p low) refl

fitting_may : (s : SupportView) (taken : List ℕ) (left place : ℕ) → fits s taken left place ≡ true → may_be_added s taken place ≡ true
fitting_may s taken left place h =
    let parts = and_parts (nat_lt 0 (votes_at s place)) _ h in
    and_from (nat_lt 0 (votes_at s place)) (not (is_taken taken place)) parts.0
    (and_parts (not (is_taken taken place)) (nat_le (cost_at s place) left) parts.1).0

place_flips : (c d : Candidate) → same_place c d ≡ same_place d c
place_flips c d = elim (cases_eq c.place d.place) [
  | inl same ↦ eq-eqb _ _ same ∙ sym (eq-eqb _ _ (sym same))
  | inr apart ↦ ne_eqb _ _ apart ∙ sym (ne_eqb _ _ (λ e. apart (sym e)))
]

-- all candidates, in order
all_left : (s : SupportView) → HasSupportForm s → (taken : List ℕ) (left : ℕ) (candidates : List Candidate)
    → IsPermutation (candidates_of s taken) candidates → IsSortedBy comes_before candidates → AreLeft s taken left candidates
unfolding candidates_of
all_left s form taken left candidates moved sorted = record {
  are = All-permutation (IsCandidate s taken) (candidates_of s taken) candidates moved
      (All-map (IsCandidate s taken) (candidate_of s) (filter (may_be_added s taken) (range_with_len 0 (length s.costs)))
      (λ k d below. record { is_own = refl; may = filter_passes (may_be_added s taken) (range_with_len 0 (length s.costs)) k d below }));
  all = λ place fitting.
      let below : place < 0 + length s.costs = omega (arith, fitting_is_known s form taken left place fitting) in
      sym (list_any-IsPermutation (λ c. c.place == place) (candidates_of s taken) candidates moved)
      ∙ kept_is_among s (may_be_added s taken) place 0 (length s.costs) (fitting_may s taken left place fitting) (omega arith) below;
  differ = IsDistinct-IsPermutation same_place place_flips (candidates_of s taken) candidates moved
      (kept_differ s (may_be_added s taken) 0 (length s.costs));
  sorted = sorted;
}

-- what can be paid of all candidates in order is what most votes first adds
pub in_order_is_computed : (s : SupportView) → HasSupportForm s → (taken : List ℕ) (left : ℕ) (candidates : List Candidate)
    → IsPermutation (candidates_of s taken) candidates → IsSortedBy comes_before candidates
    → affordable left candidates ≡ most_votes_first s taken left
in_order_is_computed s form taken left candidates moved sorted =
    one_filled s taken left (affordable left candidates) (most_votes_first s taken left)
    (affordable_is_filled s candidates taken left (all_left s form taken left candidates moved sorted))
    (computed_is_filled s form left taken left (omega arith))
