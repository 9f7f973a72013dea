-- What is computed is what the rule says.
use Rattle.std.proofs.Common.{◌≡◌, ℕ, zero, suc, ◌+◌, ◌<◌, ◌≤◌, ◌-◌, List, [], ◌∷◌, ◌++◌, length, get_or, Option, Some, None, Bool, true, false, cond, not, refl, sym, subst, ◌∙◌, ap, inl, inr, arith}
use Rattle.std.specs.Prelude.{All}
use Rattle.std.specs.Cmp.{IsStrictWeakOrder}
use Rattle.std.specs.List.{filter, find, list_all, position_or_len, range_with_len, IsFirstBest, best_of}
use Rattle.std.specs.Option.{option_map_or}
use Rattle.std.proofs.lemmas.Bool.{and_parts, cases_lt, cases_Bool, false_from_ne_true, leb-true, ltb-true, not-true, not_from_true, not_from_false, true≢false}
use Rattle.std.proofs.lemmas.List.{get_or_default, get_or_past}
use Rattle.std.proofs.lemmas.List.Elements.{All-head, All-tail, filter_passes}
use Rattle.std.proofs.lemmas.List.Folds.{find_at, list_all_at}
use Rattle.std.proofs.lemmas.List.MinMax.{IsFirstBest-from_best_of}
use Rattle.std.proofs.lemmas.List.Sums.{position_or_len_is, list_all-from_AllPass}
use Rattle.std.proofs.lemmas.Option.{slice_get-get_or, none-some, same_Some}
use Rattle.pb_price.specs.Inner.Support.{HasSupportForm}
use Rattle.pb_price.specs.Supporters.{SupportView, cost_at, supporters_at}
use Rattle.pb_rounds.specs.MostVotes.{FitsFirst, added_in, comes_first, first_fitting, fits, votes_at}
use Rattle.pb_rounds.proofs.Filled.{IsFilled}
use Rattle.pb_rounds.proofs.VotesOrder.{comes_first-ranks, one_comes_first}

module _ {X : Type 0} (before : X → X → Bool) (order : IsStrictWeakOrder before) where
  first_best_is_found : (xs : List X) (k : ℕ) (d : X) → IsFirstBest before xs (length xs) k
      → find (λ b. list_all (λ other. not (before other b)) xs) xs ≡ Some (get_or xs k d)
  first_best_is_found xs k d h =
      let test : X → Bool = λ b. list_all (λ other. not (before other b)) xs in
      let at : position_or_len test xs ≡ k =
      position_or_len_is test xs k d (omega (arith, h.0))
      (λ j below. list_all_at (λ other. not (before other (get_or xs j d))) xs k d h.0 (not_from_true _ (h.2 j d below)))
      (λ _. list_all-from_AllPass (λ other. not (before other (get_or xs k d))) xs (λ j e below. not_from_false _ (ap (λ x. before x (get_or xs k d)) (get_or_default xs j e d below) ∙ h.1 j d below))) in
      find_at test xs ∙ rw at (slice_get-get_or xs k d h.0)

  -- where there is something, there is a first
  some_first : (x : X) (xs : List X)
      → find (λ b. list_all (λ other. not (before other b)) (x ∷ xs)) (x ∷ xs) ≡ Some (best_of before x xs)
  some_first x xs =
      let found = IsFirstBest-from_best_of order x xs in
      first_best_is_found (x ∷ xs) found.0 x found.1 ∙ ap (λ b. Some b) found.2

  none_without_first : (xs : List X) → find (λ b. list_all (λ other. not (before other b)) xs) xs ≡ None → xs ≡ []
  none_without_first [] e = refl
  none_without_first (x ∷ xs) e = absurd (none-some _ (sym e ∙ some_first x xs))

-- what `find` gives passes its test, and is what all are
found_by : {X : Type 0} (P : X → Type 0) (test : X → Bool) (xs : List X) (y x : X) → P y → (find test xs ≡ Some x → P x × (test x ≡ true))
    → (b : Bool) → test y ≡ b → cond b (Some y) (find test xs) ≡ Some x → P x × (test x ≡ true)
found_by P test xs y x is later true passes found =
    let same = same_Some _ _ found in
    (subst P same is, ap test (sym same) ∙ passes)
found_by P test xs y x is later false fails found = later found

found_is : {X : Type 0} (P : X → Type 0) (test : X → Bool) (xs : List X) (x : X) → All P xs → find test xs ≡ Some x
    → P x × (test x ≡ true)
found_is P test [] x all e = absurd (none-some x e)
found_is P test (y ∷ ys) x all e =
    found_by P test ys y x (All-head P y ys all) (found_is P test ys x (All-tail P y ys all)) (test y) refl e

-- what passes two tests, where all that pass the first pass the second: of the numbers of a range
kept_passes_by : (p q : ℕ → Bool) (place low n : ℕ) → p place ≡ true → low ≤ place → place < low + suc n
    → (low + 1 ≤ place → list_all q (filter p (range_with_len (low + 1) n)) ≡ true → q place ≡ true)
    → (b : Bool) → p low ≡ b → list_all q (cond b (low ∷ filter p (range_with_len (low + 1) n)) (filter p (range_with_len (low + 1) n))) ≡ true
    → q place ≡ true
kept_passes_by p q place low n passes from below later b e h = elim (cases_lt low place) [
  | inl more ↦ elim (cases_Bool b) [
    | inl yes_b ↦ later (omega arith) (and_parts (q low) _ (rw yes_b at h)).1
    | inr no_b ↦ later (omega arith) (rw no_b at h)
  ]
  | inr least ↦
      let same : low ≡ place = omega arith in
      let is_true : b ≡ true = sym e ∙ ap p same ∙ passes in
      ap q (sym same) ∙ (and_parts (q low) _ (rw is_true at h)).0
]

kept_passes : (p q : ℕ → Bool) (place low n : ℕ) → p place ≡ true → low ≤ place → place < low + n
    → list_all q (filter p (range_with_len low n)) ≡ true → q place ≡ true
kept_passes p q place low zero passes from below h = absurd (omega arith)
kept_passes p q place low (suc n) passes from below h =
    kept_passes_by p q place low n passes from below
    (λ more. kept_passes p q place (low + 1) n passes more (omega arith)) (p low) refl h

-- what fits is a project
pub fitting_is_known : (s : SupportView) → HasSupportForm s → (taken : List ℕ) (left place : ℕ) → fits s taken left place ≡ true
    → place < length s.costs
fitting_is_known s form taken left place h = elim (cases_lt place (length s.costs)) [
  | inl below ↦ below
  | inr past ↦
      let none : supporters_at s place ≡ [] = get_or_past s.supporters place [] (omega (arith, form.paired)) in
      let some = ltb-true 0 (votes_at s place) (and_parts _ _ h).0 in
      absurd (omega (arith, some, ap length none))
]

pub fitting_is_paid : (s : SupportView) (taken : List ℕ) (left place : ℕ) → fits s taken left place ≡ true → cost_at s place ≤ left
fitting_is_paid s taken left place h = leb-true _ _ (and_parts _ _ (and_parts _ _ h).1).1

none_fits_by : (s : SupportView) → HasSupportForm s → (taken : List ℕ) (left : ℕ) → first_fitting s taken left ≡ None
    → (place : ℕ) → fits s taken left place ≡ false
none_fits_by s form taken left e place = false_from_ne_true _ (λ h.
    let empty = none_without_first (comes_first s) (comes_first-ranks s) (filter (fits s taken left) (range_with_len 0 (length s.costs))) e in
    let nothing : list_all (λ other. false) (filter (fits s taken left) (range_with_len 0 (length s.costs))) ≡ true = rw empty refl in
    let below : place < 0 + length s.costs = omega (arith, fitting_is_known s form taken left place h) in
    true≢false (sym (kept_passes (fits s taken left) (λ other. false) place 0 (length s.costs) h (omega arith) below nothing)))

found_fits_first : (s : SupportView) → HasSupportForm s → (taken : List ℕ) (left place : ℕ) → first_fitting s taken left ≡ Some place
    → FitsFirst s taken left place
found_fits_first s form taken left place e =
    let all = range_with_len 0 (length s.costs) in
    let found = found_is (λ p. fits s taken left p ≡ true) (λ p. list_all (λ other. not (comes_first s other p)) (filter (fits s taken left) all)) (filter (fits s taken left) all) place (filter_passes (fits s taken left) all) e in
    record {
      does_fit = found.0;
      first = λ other fitting apart.
          let below : other < 0 + length s.costs = omega (arith, fitting_is_known s form taken left other fitting) in
          one_comes_first s place other (λ same. apart (sym same))
          (not-true _ (kept_passes (fits s taken left) (λ o. not (comes_first s o place)) other 0 (length s.costs) fitting (omega arith) below found.1));
    }

computed_by : (s : SupportView) → HasSupportForm s → (rounds : ℕ) (taken : List ℕ) (left : ℕ) → left ≤ suc rounds
    → ((place : ℕ) → left - cost_at s place ≤ rounds → IsFilled s (taken ++ place ∷ []) (left - cost_at s place) (added_in s rounds (taken ++ place ∷ []) (left - cost_at s place)))
    → (o : Option ℕ) → first_fitting s taken left ≡ o
    → IsFilled s taken left (option_map_or (λ place. place ∷ added_in s rounds (taken ++ place ∷ []) (left - cost_at s place)) o [])
computed_by s form rounds taken left enough later None e = none_fits_by s form taken left e
computed_by s form rounds taken left enough later (Some place) e =
    let first = found_fits_first s form taken left place e in
    let known = fitting_is_known s form taken left place first.does_fit in
    let costs : 0 < cost_at s place = form.costs_positive place 0 known in
    (first, later place (omega arith))

-- what is computed in enough rounds is filled up
pub computed_is_filled : (s : SupportView) → HasSupportForm s → (rounds : ℕ) (taken : List ℕ) (left : ℕ) → left ≤ rounds
    → IsFilled s taken left (added_in s rounds taken left)
unfolding added_in
computed_is_filled s form zero taken left enough = λ place. false_from_ne_true _ (λ h.
    let known = fitting_is_known s form taken left place h in
    let costs : 0 < cost_at s place = form.costs_positive place 0 known in
    let paid = fitting_is_paid s taken left place h in
    omega arith)
computed_is_filled s form (suc rounds) taken left enough =
    computed_by s form rounds taken left enough
    (λ place fewer. computed_is_filled s form rounds (taken ++ place ∷ []) (left - cost_at s place) fewer)
    (first_fitting s taken left) refl
