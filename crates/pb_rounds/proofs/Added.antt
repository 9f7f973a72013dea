-- What is true of the projects that most votes first adds.
use Rattle.std.proofs.Common.{◌≡◌, ◌≢◌, ℕ, ◌<◌, ◌≤◌, ◌-◌, List, [], ◌∷◌, ◌++◌, false, not, ◌∙◌, sym, refl, subst, arith, ◌||◌}
use Rattle.std.specs.Prelude.{◌↔◌, ◌==◌, All, AllPairs, nat_lt, sum_by}
use Rattle.std.proofs.lemmas.Bool.{and_parts, eqb-false, ltb-true, not-true, or_parts}
use Rattle.std.proofs.lemmas.List.Elements.{All-cons, All-nil, All-weaker}
use Rattle.std.proofs.lemmas.List.Folds.{list_any-append}
use Rattle.std.proofs.lemmas.List.Kept.{AllPairs-cons}
use Rattle.std.proofs.lemmas.List.Sums.{sum_by-cons}
use Rattle.pb_core.specs.Election.{ElectionView, IsElection}
use Rattle.pb_price.specs.Supporters.{SupportView, cost_at, support_of}
use Rattle.pb_price.proofs.SupporterLists.{is_support_of, support_form}
use Rattle.pb_rounds.specs.MostVotes.{IsMostVotesFirst, is_taken, most_votes_first, votes_at}
use Rattle.pb_rounds.proofs.Computed.{computed_is_filled, fitting_is_paid}
use Rattle.pb_rounds.proofs.Filled.{IsFilled, filled_from_rule, one_filled, rule_from_filled}

-- what is computed of an election is filled up
pub election_is_filled : (e : ElectionView) (taken : List ℕ) (left : ℕ) → IsElection e
    → IsFilled (support_of e) taken left (most_votes_first (support_of e) taken left)
election_is_filled e taken left h =
    computed_is_filled (support_of e) (support_form (support_of e) (is_support_of e h)) left taken left (omega arith)

pub is_its_rule : (e : ElectionView) (taken : List ℕ) (left : ℕ) (added : List ℕ) → IsElection e
    → (added ≡ most_votes_first (support_of e) taken left) ↔ IsMostVotesFirst (support_of e) taken left added
is_its_rule e taken left added h = (
  λ same. rule_from_filled (support_of e) taken left added (subst (IsFilled (support_of e) taken left) (sym same) (election_is_filled e taken left h)),
  λ rule.
      one_filled (support_of e) taken left added (most_votes_first (support_of e) taken left)
      (filled_from_rule (support_of e) taken left added rule) (election_is_filled e taken left h),
)

pub added_are_paid : (s : SupportView) (taken : List ℕ) (left : ℕ) (added : List ℕ) → IsFilled s taken left added
    → sum_by (cost_at s) added ≤ left
added_are_paid s taken left [] h = omega arith
added_are_paid s taken left (place ∷ added) h =
    let first = fitting_is_paid s taken left place h.0.does_fit in
    let others = added_are_paid s (taken ++ place ∷ []) (left - cost_at s place) added h.1 in
    omega (arith, sum_by-cons (cost_at s) place added)

pub added_have_votes : (s : SupportView) (taken : List ℕ) (left : ℕ) (added : List ℕ) → IsFilled s taken left added
    → All (λ place. 0 < votes_at s place) added
added_have_votes s taken left [] h = All-nil (λ place. 0 < votes_at s place)
added_have_votes s taken left (place ∷ added) h =
    All-cons (λ p. 0 < votes_at s p) place added
    (ltb-true 0 (votes_at s place) (and_parts (nat_lt 0 (votes_at s place)) _ h.0.does_fit).0)
    (added_have_votes s (taken ++ place ∷ []) (left - cost_at s place) added h.1)

-- what is not taken after a project more was not taken before, and is another
not_taken_before : (taken : List ℕ) (place other : ℕ) → is_taken (taken ++ place ∷ []) other ≡ false
    → (is_taken taken other ≡ false) × (place ≢ other)
not_taken_before taken place other h =
    let parts = or_parts (is_taken taken other) ((place == other) || false) (sym (list_any-append (λ t. t == other) taken (place ∷ [])) ∙ h) in
    (parts.0, eqb-false place other (or_parts (place == other) false parts.1).0)

pub added_were_not_taken : (s : SupportView) (taken : List ℕ) (left : ℕ) (added : List ℕ) → IsFilled s taken left added
    → All (λ place. is_taken taken place ≡ false) added
added_were_not_taken s taken left [] h = All-nil (λ place. is_taken taken place ≡ false)
added_were_not_taken s taken left (place ∷ added) h =
    let free = and_parts (not (is_taken taken place)) _ (and_parts (nat_lt 0 (votes_at s place)) _ h.0.does_fit).1 in
    All-cons (λ p. is_taken taken p ≡ false) place added (not-true _ free.0)
    (All-weaker (λ p. is_taken (taken ++ place ∷ []) p ≡ false) (λ p. is_taken taken p ≡ false)
    (λ p later. (not_taken_before taken place p later).0) added
    (added_were_not_taken s (taken ++ place ∷ []) (left - cost_at s place) added h.1))

pub added_differ : (s : SupportView) (taken : List ℕ) (left : ℕ) (added : List ℕ) → IsFilled s taken left added
    → AllPairs (λ place other. place ≢ other) added
added_differ s taken left [] h = λ i j d before below. absurd (omega (arith, below))
added_differ s taken left (place ∷ added) h =
    AllPairs-cons (λ p other. p ≢ other) place added
    (All-weaker (λ p. is_taken (taken ++ place ∷ []) p ≡ false) (λ p. place ≢ p)
    (λ p later. (not_taken_before taken place p later).1) added
    (added_were_not_taken s (taken ++ place ∷ []) (left - cost_at s place) added h.1))
    (added_differ s (taken ++ place ∷ []) (left - cost_at s place) added h.1)
