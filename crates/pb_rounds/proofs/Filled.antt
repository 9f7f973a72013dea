-- Most votes first, step by step: the rule of the added together is that of the first of them and of the others.
use Rattle.std.proofs.Common.{◌≡◌, ℕ, ◌-◌, List, [], ◌∷◌, ◌++◌, false, refl, sym, subst, ◌∙◌, ap, inl, inr, arith}
use Rattle.std.proofs.lemmas.Bool.{true≢false, cases_eq}
use Rattle.std.proofs.lemmas.List.{append_assoc, append-nil}
use Rattle.std.proofs.lemmas.List.Sums.{sum_by-cons}
use Rattle.pb_price.specs.Supporters.{SupportView, cost_at}
use Rattle.pb_rounds.specs.MostVotes.{FitsFirst, IsMostVotesFirst, fits}
use Rattle.pb_rounds.specs.Inner.LeftAfter.{left_after}
use Rattle.pb_rounds.proofs.VotesOrder.{comes_first-ranks}

-- each of the added was the first that fitted, and in the end none fits
abbrev pub IsFilled : SupportView → (taken : List ℕ) → (left : ℕ) → (added : List ℕ) → Type 0
IsFilled s taken left [] = (place : ℕ) → fits s taken left place ≡ false
IsFilled s taken left (place ∷ added) =
    FitsFirst s taken left place × IsFilled s (taken ++ place ∷ []) (left - cost_at s place) added

-- nothing is paid
nothing_paid : (s : SupportView) (left : ℕ) → left_after s left [] ≡ left
nothing_paid s left = omega arith

-- one project more is paid
left_after-cons : (s : SupportView) (left place : ℕ) (added : List ℕ)
    → left_after s left (place ∷ added) ≡ left_after s (left - cost_at s place) added
left_after-cons s left place added = omega (arith, sum_by-cons (cost_at s) place added)

none_fits_from : (s : SupportView) (taken : List ℕ) (left : ℕ) (added : List ℕ) → IsFilled s taken left added
    → (place : ℕ) → fits s (taken ++ added) (left_after s left added) place ≡ false
none_fits_from s taken left [] h place = rw (append-nil taken, nothing_paid s left) (h place)
none_fits_from s taken left (first ∷ added) h place =
    rw (left_after-cons s left first added, ← append_assoc taken (first ∷ []) added)
    (none_fits_from s (taken ++ first ∷ []) (left - cost_at s first) added h.1 place)

heads : (x y : ℕ) (xs ys : List ℕ) → x ∷ xs ≡ y ∷ ys → x ≡ y
heads x y xs ys e = cc

tails : (x y : ℕ) (xs ys : List ℕ) → x ∷ xs ≡ y ∷ ys → xs ≡ ys
tails x y xs ys e = cc

none_is_more : (before : List ℕ) (place : ℕ) (later : List ℕ) → [] ≡ before ++ place ∷ later → ⊥
none_is_more [] place later e = cc
none_is_more (b ∷ before) place later e = cc

first_from : (s : SupportView) (taken : List ℕ) (left : ℕ) (added : List ℕ) → IsFilled s taken left added
    → (before : List ℕ) (place : ℕ) (later : List ℕ) → added ≡ before ++ place ∷ later
    → FitsFirst s (taken ++ before) (left_after s left before) place
first_from s taken left [] h before place later e = absurd (none_is_more before place later e)
first_from s taken left (first ∷ added) h [] place later e =
    rw (append-nil taken, nothing_paid s left) (subst (FitsFirst s taken left) (heads first place added later e) h.0)
first_from s taken left (first ∷ added) h (b ∷ before) place later e =
    let same = heads first b added (before ++ place ∷ later) e in
    let rest = first_from s (taken ++ first ∷ []) (left - cost_at s first) added h.1 before place later
    (tails first b added (before ++ place ∷ later) e) in
    rw (left_after-cons s left b before, ← append_assoc taken (b ∷ []) before)
    (subst (λ p. FitsFirst s ((taken ++ p ∷ []) ++ before) (left_after s (left - cost_at s p) before) place) same rest)

pub rule_from_filled : (s : SupportView) (taken : List ℕ) (left : ℕ) (added : List ℕ) → IsFilled s taken left added
    → IsMostVotesFirst s taken left added
rule_from_filled s taken left added h = record {
  first = first_from s taken left added h;
  none_fits = none_fits_from s taken left added h;
}

-- the rule of the others, after the first of the added
rule_of_others : (s : SupportView) (taken : List ℕ) (left place : ℕ) (added : List ℕ) → IsMostVotesFirst s taken left (place ∷ added)
    → IsMostVotesFirst s (taken ++ place ∷ []) (left - cost_at s place) added
rule_of_others s taken left place added h = record {
  first = λ before next later e.
      rw (append_assoc taken (place ∷ []) before, ← left_after-cons s left place before)
      (h.first (place ∷ before) next later (ap (λ xs. place ∷ xs) e));
  none_fits = λ other.
      rw (append_assoc taken (place ∷ []) added, ← left_after-cons s left place added) (h.none_fits other);
}

pub filled_from_rule : (s : SupportView) (taken : List ℕ) (left : ℕ) (added : List ℕ) → IsMostVotesFirst s taken left added
    → IsFilled s taken left added
filled_from_rule s taken left [] h = λ place. rw (append-nil taken, nothing_paid s left) at (h.none_fits place)
filled_from_rule s taken left (place ∷ added) h = (
  rw (append-nil taken, nothing_paid s left) at (h.first [] place added refl),
  filled_from_rule s (taken ++ place ∷ []) (left - cost_at s place) added (rule_of_others s taken left place added h),
)

-- there is one first project that fits
one_first : (s : SupportView) (taken : List ℕ) (left place other : ℕ) → FitsFirst s taken left place → FitsFirst s taken left other
    → place ≡ other
one_first s taken left place other one another = elim (cases_eq place other) [
  | inl same ↦ same
  | inr apart ↦
      let before = one.first other another.does_fit (λ e. apart (sym e)) in
      let after = another.first place one.does_fit apart in
      absurd (true≢false (sym after ∙ (comes_first-ranks s).one_way place other before))
]

-- one list is added
pub one_filled : (s : SupportView) (taken : List ℕ) (left : ℕ) (added others : List ℕ) → IsFilled s taken left added
    → IsFilled s taken left others → added ≡ others
one_filled s taken left [] [] one another = refl
one_filled s taken left [] (place ∷ others) one another = absurd (true≢false (sym another.0.does_fit ∙ one place))
one_filled s taken left (place ∷ added) [] one another = absurd (true≢false (sym one.0.does_fit ∙ another place))
one_filled s taken left (place ∷ added) (other ∷ others) one another =
    let same = one_first s taken left place other one.0 another.0 in
    let rest : IsFilled s (taken ++ place ∷ []) (left - cost_at s place) others =
    subst (λ p. IsFilled s (taken ++ p ∷ []) (left - cost_at s p) others) (sym same) another.1 in
    ap (λ p. p ∷ added) same
    ∙ ap (λ xs. other ∷ xs) (one_filled s (taken ++ place ∷ []) (left - cost_at s place) added others one.1 rest)
