-- What is filled up in another order of the projects, where no added project had an equal.
use Rattle.std.proofs.Common.{◌≡◌, ◌≢◌, ◌∙◌, ◌<◌, ◌-◌, ◌&&◌, ◌||◌, ℕ, List, [], ◌∷◌, ◌++◌, append-nil, append_assoc, ap, arith, false, inl, inr, length, map, not, refl, subst, sym, true}
use Rattle.std.specs.Prelude.{◌==◌, All, nat_le, nat_lt}
use Rattle.std.proofs.lemmas.Bool.{and_parts, cases_eq, cases_lt, eq-eqb, false_from_ne_true, ne_eqb, not-true}
use Rattle.std.proofs.lemmas.List.{map_push}
use Rattle.std.proofs.lemmas.List.Elements.{All-head, All-push, All-tail}
use Rattle.pb_price.specs.Inner.Support.{HasSupportForm}
use Rattle.pb_price.specs.Supporters.{SupportView, cost_at}
use Rattle.pb_rounds.proofs.Computed.{fitting_is_known}
use Rattle.pb_rounds.proofs.Filled.{IsFilled}
use Rattle.pb_rounds.proofs.InWords.{first_comes, it_comes_first}
use Rattle.pb_rounds.specs.MostVotes.{FitsFirst, fits, is_taken, votes_at}
use Rattle.pb_reasons.proofs.Moved.{AreMoved, cost_put, supporters_put}

-- no other project that is not taken has as many votes and the same cost
abbrev pub IsAlone : SupportView → (taken : List ℕ) → ℕ → Type 0
IsAlone s taken place = (other : ℕ) → other < length s.costs → is_taken taken other ≡ false → other ≢ place → votes_at s other ≡ votes_at s place
    → cost_at s other ≡ cost_at s place → ⊥

abbrev pub AreAlone : SupportView → (taken added : List ℕ) → Type 0
AreAlone s taken added = (before : List ℕ) (place : ℕ) (later : List ℕ) → added ≡ before ++ place ∷ later → IsAlone s (taken ++ before) place

module _ (s t : SupportView) (to back : ℕ → ℕ) (h : AreMoved s t to back) (own : HasSupportForm s) (form : HasSupportForm t) where
  abbrev AreThere : List ℕ → Type 0
  AreThere places = All (λ (p : ℕ). p < length s.costs) places

  same_test : (place : ℕ) → place < length s.costs → (position : ℕ) → position < length s.costs → (to place == position) ≡ (place == back position)
  same_test place known position below = elim (cases_eq place (back position)) [
    | inl same ↦ eq-eqb (to place) position (ap to same ∙ (h.stands position below).1) ∙ sym (eq-eqb place (back position) same)
    | inr apart ↦ ne_eqb (to place) position (λ e. apart (sym ((h.put place known).1) ∙ ap back e)) ∙ sym (ne_eqb place (back position) apart)
  ]

  taken_put : (taken : List ℕ) → AreThere taken → (position : ℕ) → position < length s.costs → is_taken (map to taken) position ≡ is_taken taken (back position)
  taken_put [] known position below = refl
  taken_put (place ∷ taken) known position below =
      ap (λ b. b || is_taken (map to taken) position) (same_test place (All-head (λ (p : ℕ). p < length s.costs) place taken known) position below)
      ∙ ap (λ b. (place == back position) || b) (taken_put taken (All-tail (λ (p : ℕ). p < length s.costs) place taken known) position below)

  fits_put : (taken : List ℕ) → AreThere taken → (left position : ℕ) → position < length s.costs → fits t (map to taken) left position ≡ fits s taken left (back position)
  fits_put taken known left position below =
      ap (λ (xs : List ℕ). nat_lt 0 (length xs) && (not (is_taken (map to taken) position) && nat_le (cost_at t position) left)) (h.supporters position below)
      ∙ ap (λ b. nat_lt 0 (votes_at s (back position)) && (not b && nat_le (cost_at t position) left)) (taken_put taken known position below)
      ∙ ap (λ (c : ℕ). nat_lt 0 (votes_at s (back position)) && (not (is_taken taken (back position)) && nat_le c left)) (h.costs position below)

  first_put : (taken : List ℕ) → AreThere taken → (left place : ℕ) → place < length s.costs → FitsFirst s taken left place → IsAlone s taken place
      → FitsFirst t (map to taken) left (to place)
  first_put taken known left place here first alone = record {
    does_fit = fits_put taken known left (to place) (h.put place here).0 ∙ (ap (fits s taken left) ((h.put place here).1) ∙ first.does_fit);
    first = λ other fitting apart.
        let below : other < length s.costs = omega (arith, fitting_is_known t form (map to taken) left other fitting, h.as_many) in
        let at = h.stands other below in
        let fits_there : fits s taken left (back other) ≡ true = sym (fits_put taken known left other below) ∙ fitting in
        let fit = and_parts (nat_lt 0 (votes_at s (back other))) _ fits_there in
        let free = not-true (is_taken taken (back other)) (and_parts (not (is_taken taken (back other))) _ fit.1).0 in
        let differs : back other ≢ place = λ same. apart (sym at.1 ∙ ap to same) in
        let votes_there : votes_at t other ≡ votes_at s (back other) = ap length (h.supporters other below) in
        let votes_here : votes_at t (to place) ≡ votes_at s place = ap length (supporters_put s t to back h place here) in
        let cost_there = h.costs other below in
        let cost_here = cost_put s t to back h place here in
        it_comes_first t (to place) other (elim (first_comes s place (back other) (first.first (back other) fits_there differs)) [
          | inl more ↦ inl (omega (arith, more, votes_there, votes_here))
          | inr same ↦ elim same.1 [
            | inl less ↦ inr (votes_there ∙ (same.0 ∙ sym votes_here), inl (omega (arith, less, cost_there, cost_here)))
            | inr equal ↦ absurd (alone (back other) at.0 free differs same.0 (sym equal.0))
          ]
        ]);
  }

  -- where none of the added had an equal, the same are added in any order
  pub filled_put : (taken : List ℕ) (left : ℕ) (added : List ℕ) → AreThere taken → IsFilled s taken left added → AreAlone s taken added
      → IsFilled t (map to taken) left (map to added)
  filled_put taken left [] known filled alone = λ position. elim (cases_lt position (length s.costs)) [
    | inl below ↦ fits_put taken known left position below ∙ filled (back position)
    | inr past ↦ false_from_ne_true (fits t (map to taken) left position) (λ fitting.
        let below = fitting_is_known t form (map to taken) left position fitting in omega (arith, past, below, h.as_many))
  ]
  filled_put taken left (place ∷ added) known filled alone =
      let here = fitting_is_known s own taken left place filled.0.does_fit in
      let more = All-push (λ (p : ℕ). p < length s.costs) taken place known here in
      let first = first_put taken known left place here filled.0 (subst (λ (xs : List ℕ). IsAlone s xs place) (append-nil taken) (alone [] place added refl)) in
      let rest =
      filled_put (taken ++ place ∷ []) (left - cost_at s place) added more filled.1
      (λ before p later e.
      subst (λ (xs : List ℕ). IsAlone s xs p) (sym (append_assoc taken (place ∷ []) before)) (alone (place ∷ before) p later (ap (λ (xs : List ℕ). place ∷ xs) e))) in (
        first,
        subst (λ (xs : List ℕ). IsFilled t xs (left - cost_at t (to place)) (map to added)) (map_push to taken place)
            (subst (λ (c : ℕ). IsFilled t (map to (taken ++ place ∷ [])) (left - c) (map to added)) (sym (cost_put s t to back h place here)) rest),
      )
