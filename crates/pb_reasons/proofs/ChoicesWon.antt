-- How many of a ballot's choices won: those elected, and those added.
use Rattle.std.proofs.Common.{◌≡◌, ℕ, ◌+◌, ◌-◌, Bool, false, true, cond, List, [], ◌∷◌, map, refl, sym, ◌∙◌, ap, subst, inl, inr, arith, ◌||◌}
use Rattle.std.specs.Prelude.{◌==◌, All, count_by}
use Rattle.std.proofs.lemmas.Bool.{cases_Bool, eqb-true, false≢true, false_from_ne_true}
use Rattle.std.proofs.lemmas.List.Elements.{All-head, All-nil, All-tail}
use Rattle.std.proofs.lemmas.List.Sums.{sum_by-cons}
use Rattle.pb_core.specs.Election.{ElectionView, IsElection}
use Rattle.pb_price.specs.Supporters.{ballot_at, support_of}
use Rattle.pb_rounds.proofs.Added.{added_were_not_taken, election_is_filled}
use Rattle.pb_rounds.specs.Count.{spent_on}
use Rattle.pb_rounds.specs.MostVotes.{is_taken}
use Rattle.pb_rounds.specs.Outcome.{OutcomeView}
use Rattle.pb_rounds.specs.Run.{ElectedView, is_elected}
use Rattle.pb_reasons.specs.Comparison.{choices_of}
use Rattle.pb_rounds.specs.declared.rule.FillUp.{FillUp}
use Rattle.pb_rounds.specs.declared.rule.FillUp.TheVariants.{Nothing, MostVotes}
use Rattle.pb_reasons.specs.Counted.{CountedView, counted, winners_of}
use Rattle.pb_reasons.specs.Inner.Counts.{IsCounted}
use Rattle.pb_reasons.specs.Reasons.{voter_reason}
use Rattle.pb_reasons.proofs.AllWinners.{elected_are_taken, selected_are_winners}

one_or : (a b : Bool) → (a ≡ true → b ≡ false) → cond (a || b) 1 0 ≡ cond a 1 0 + cond b 1 0
one_or true true apart = absurd (false≢true (sym (apart refl)))
one_or true false apart = refl
one_or false true apart = refl
one_or false false apart = refl

-- what passes one of two tests that nothing passes both
count_either : (p q r : ℕ → Bool) → ((x : ℕ) → r x ≡ (p x || q x)) → ((x : ℕ) → p x ≡ true → q x ≡ false) → (xs : List ℕ)
    → count_by r xs ≡ count_by p xs + count_by q xs
count_either p q r either apart [] = refl
count_either p q r either apart (x ∷ xs) =
    let later : count_by r xs ≡ count_by p xs + count_by q xs = count_either p q r either apart xs in
    let here : cond (r x) 1 0 ≡ cond (p x) 1 0 + cond (q x) 1 0 = ap (λ (b : Bool). cond b 1 0) (either x) ∙ one_or (p x) (q x) (apart x) in
    let whole : count_by r (x ∷ xs) ≡ cond (r x) 1 0 + count_by r xs = sum_by-cons (λ y. cond (r y) 1 0) x xs in
    let one : count_by p (x ∷ xs) ≡ cond (p x) 1 0 + count_by p xs = sum_by-cons (λ y. cond (p y) 1 0) x xs in
    let other : count_by q (x ∷ xs) ≡ cond (q x) 1 0 + count_by q xs = sum_by-cons (λ y. cond (q y) 1 0) x xs in
    omega (arith, later, here, whole, one, other)

not_both : (added taken : List ℕ) → All (λ place. is_taken taken place ≡ false) added → (place : ℕ) → is_taken added place ≡ true → is_taken taken place ≡ false
not_both [] taken free place is = absurd (false≢true is)
not_both (t ∷ added) taken free place is = elim (cases_Bool (t == place)) [
  | inl same ↦ subst (λ (x : ℕ). is_taken taken x ≡ false) (eqb-true t place same) (All-head (λ x. is_taken taken x ≡ false) t added free)
  | inr other ↦
      not_both added taken (All-tail (λ x. is_taken taken x ≡ false) t added free) place
      (sym (ap (λ (b : Bool). b || is_taken added place) other) ∙ is)
]

added_are_others : (e : ElectionView) (o : OutcomeView) (fill_up : FillUp) → IsElection e
    → All (λ place. is_taken (map (λ w. w.place) o.elected) place ≡ false) (counted e fill_up o).added
added_are_others e o MostVotes h =
    let taken = map (λ (w : ElectedView). w.place) o.elected in
    let left = e.budget - spent_on (support_of e) o.elected in
    added_were_not_taken (support_of e) taken left _ (election_is_filled e taken left h)
added_are_others e o Nothing h = All-nil (λ place. is_taken (map (λ w. w.place) o.elected) place ≡ false)

-- the choices of a voter that won
pub choices_won : (e : ElectionView) (c : CountedView) → IsElection e → IsCounted e c → (voter : ℕ)
    → choices_of (winners_of c) (ballot_at e voter) ≡ (voter_reason e c voter).elected
choices_won e c h result voter =
    let taken = map (λ (w : ElectedView). w.place) c.outcome.elected in
    let free : All (λ place. is_taken taken place ≡ false) c.added =
    subst (λ (l : List ℕ). All (λ place. is_taken taken place ≡ false) l) (sym (ap (λ (v : CountedView). v.added) result.2)) (added_are_others e c.outcome c.fill_up h) in
    count_either (is_elected c.outcome.elected) (is_taken c.added) (is_taken (winners_of c)) (λ place. sym (selected_are_winners c place))
    (λ place elected. false_from_ne_true _ (λ is. false≢true (sym (not_both c.added taken free place is) ∙ sym (elected_are_taken c.outcome.elected place) ∙ elected)))
    (ballot_at e voter)

map_same : (f g : ℕ → ℕ) → ((x : ℕ) → f x ≡ g x) → (xs : List ℕ) → map f xs ≡ map g xs
map_same f g same [] = refl
map_same f g same (x ∷ xs) = rw (same x, map_same f g same xs) refl

-- those of each voter
pub all_choices_won : (e : ElectionView) (c : CountedView) → IsElection e → IsCounted e c → (voters : List ℕ)
    → map (λ voter. choices_of (winners_of c) (ballot_at e voter)) voters ≡ map (λ voter. (voter_reason e c voter).elected) voters
all_choices_won e c h result =
    map_same (λ voter. choices_of (winners_of c) (ballot_at e voter)) (λ voter. (voter_reason e c voter).elected) (choices_won e c h result)
