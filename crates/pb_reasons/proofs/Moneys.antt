-- What the supporters of a project paid for the elected, added up.
use Rattle.std.proofs.Common.{◌≡◌, ◌<◌, ◌≤◌, ℕ, zero, suc, ◌+◌, Bool, true, false, cond, List, [], ◌∷◌, ◌++◌, length, get_or, map, set, take, refl, sym, subst, ◌∙◌, ap, inl, inr, arith}
use Rattle.std.specs.Prelude.{◌==◌, All, AllPairs, filter, fold, nat_lt, replicate, slice_index, slice_index_or, sum_by}
use Rattle.std.specs.List.{insert}
use Rattle.std.proofs.lemmas.Bool.{cases_Bool, cases_eq, cond-false, cond-true, eq-eqb, le-ltb, lt-ltb, ltb-false, ne_eqb}
use Rattle.std.proofs.lemmas.List.{get_or-set_other, get_or-set_same, length-map, map_more}
use Rattle.std.proofs.lemmas.List.FromFn.{get_or-map-range_with_len, length-map-range_with_len}
use Rattle.std.proofs.lemmas.List.Sums.{fold_push, sum_by-cons, sum_by_push}
use Rattle.std.proofs.lemmas.List.Elements.{All-head, All-tail}
use Rattle.pb_core.specs.Inner.Approved.{approves}
use Rattle.pb_core.specs.Election.{ElectionView, IsElection, ProjectView}
use Rattle.pb_price.proofs.SupporterLists.{known_voters}
use Rattle.pb_price.specs.Supporters.{IsSupport, SupportView, ballot_at, support_in, support_of, supporters_at}
use Rattle.pb_price.specs.declared.grain.Grain.{Grain}
use Rattle.pb_rounds.specs.Outcome.{OutcomeView}
use Rattle.pb_rounds.specs.Run.{ElectedView}
use Rattle.pb_rounds.specs.declared.measure.Measure.TheVariants.{Votes}
use Rattle.pb_reasons.specs.CountedElection.{CountedElectionView}
use Rattle.pb_reasons.specs.Inner.Money.{AreKnown, ArePayments, counts_for, paid_to, sums_for}
use Rattle.pb_reasons.specs.Inner.Told.{CanBeTold}
use Rattle.pb_reasons.specs.Money.{paid_together, with_payment}
use Rattle.pb_reasons.specs.Reasons.{paid_for, voter_payments}
use Rattle.pb_reasons.specs.declared.payment.Payment.{Payment}
use Rattle.pb_reasons.proofs.Spendings.{ballot_rises, nothing_either_way, payments_known, sum_nothing, sum_same, sum_with, unlisted_pays_nothing}
use Rattle.pb_reasons.proofs.VoterTold.{supports}

-- a payment of nothing takes no place, and any other that before which all are no less, and behind which one is less
pub nothing_placed : (xs : List Payment) (p : Payment) → p.amount ≡ 0 → with_payment xs p ≡ xs
nothing_placed [] p none = cond-false _ _ _ (le-ltb 0 p.amount (omega (arith, none)))
nothing_placed (q ∷ xs) p none =
    cond-false _ _ _ (le-ltb q.amount p.amount (omega (arith, none))) ∙ ap (λ (ys : List Payment). q ∷ ys) (nothing_placed xs p none)

pub placed_at : (xs : List Payment) (at : ℕ) (p d : Payment) → at ≤ length xs → ((k : ℕ) → k < at → p.amount ≤ (get_or xs k d).amount)
    → (at < length xs → (get_or xs at d).amount < p.amount) → 0 < p.amount → insert xs at p ≡ with_payment xs p
placed_at [] zero p d within before after some = sym (cond-true _ _ _ (lt-ltb 0 p.amount some))
placed_at [] (suc at) p d within before after some = absurd (omega (arith, within))
placed_at (q ∷ xs) zero p d within before after some = sym (cond-true _ _ _ (lt-ltb q.amount p.amount (after (omega arith))))
placed_at (q ∷ xs) (suc at) p d within before after some =
    ap (λ (ys : List Payment). q ∷ ys) (placed_at xs at p d (omega (arith, within)) (λ k below. before (suc k) (omega (arith, below)))
    (λ below. after (omega (arith, below))) some)
    ∙ sym (cond-false _ _ _ (le-ltb q.amount p.amount (before 0 (omega arith))))

-- the first of payments with one more are those of the first and that one
take_less : (n : ℕ) (xs : List Payment) → take n (take (suc n) xs) ≡ take n xs
take_less zero xs = refl
take_less (suc n) [] = refl
take_less (suc n) (x ∷ xs) = ap (λ (ys : List Payment). x ∷ ys) (take_less n xs)

behind : (n : ℕ) (q : Payment) (xs : List Payment) → take n (q ∷ take n xs) ≡ take n (q ∷ xs)
behind zero q xs = refl
behind (suc n) q xs = ap (λ (ys : List Payment). q ∷ ys) (take_less n xs)

pub firsts : (n : ℕ) (xs : List Payment) (p : Payment) → take n (with_payment (take n xs) p) ≡ take n (with_payment xs p)
firsts zero xs p = refl
firsts (suc n) [] p = refl
firsts (suc n) (q ∷ xs) p = elim (cases_Bool (nat_lt q.amount p.amount)) [
  | inl less ↦ rw less (ap (λ (ys : List Payment). p ∷ ys) (behind n q xs))
  | inr more ↦ rw more (ap (λ (ys : List Payment). q ∷ ys) (firsts n xs p))
]

-- one payment more is added up
module _ (payments : List Payment) (i : ℕ) (p : Payment) (sums new : List ℕ) (place : ℕ) (inside : p.place < length sums)
    (is : new ≡ set sums p.place (slice_index sums p.place + p.amount)) where
  pub sum_more : slice_index new place ≡ slice_index sums place + counts_for place p
  sum_more = elim (cases_eq p.place place) [
    | inl same ↦
        let put : slice_index new place ≡ slice_index sums place + p.amount = rw (is, ← same) (get_or-set_same sums p.place _ 0 inside) in
        put ∙ ap (λ n. slice_index sums place + n) (sym (cond-true _ _ _ (eq-eqb p.place place same)))
    | inr other ↦
        let kept : slice_index new place ≡ slice_index sums place = rw is (get_or-set_other sums p.place place _ 0 (λ e. other (sym e))) in
        let gone : counts_for place p ≡ 0 = cond-false _ _ _ (ne_eqb p.place place other) in
        omega (arith, kept, gone)
  ]

-- what a voter's payments are for a project
one_to : (b : Bool) (q : ℕ) (p : Payment) (payments : List Payment) → nat_lt 0 p.amount ≡ b
    → sum_by (counts_for q) (cond b (p ∷ payments) payments) ≡ counts_for q p + sum_by (counts_for q) payments
one_to true q p payments some = sum_by-cons (counts_for q) p payments
one_to false q p payments none =
    let nothing = ltb-false 0 p.amount none in
    let gone : counts_for q p ≡ 0 = nothing_either_way (p.place == q) p.amount (omega (arith, nothing)) in omega (arith, gone)

payments_to : (q : ℕ) (paid_of : ℕ → ℕ) (places : List ℕ)
    → paid_to q (filter (λ (p : Payment). nat_lt 0 p.amount) (map (λ place. record { place = place; amount = paid_of place }) places))
    ≡ sum_by (λ place. cond (place == q) (paid_of place) 0) places
payments_to q paid_of [] = refl
payments_to q paid_of (x ∷ places) =
    let p : Payment = record { place = x; amount = paid_of x } in
    one_to (nat_lt 0 (paid_of x)) q p (filter (λ (p : Payment). nat_lt 0 p.amount) (map (λ place. record { place = place; amount = paid_of place }) places)) refl
    ∙ ap (λ n. counts_for q p + n) (payments_to q paid_of places)
    ∙ sym (sum_by-cons (λ place. cond (place == q) (paid_of place) 0) x places)

swapped : (q : ℕ) (paid_of : ℕ → ℕ) (y : ℕ) → cond (y == q) (paid_of y) 0 ≡ cond (q == y) (paid_of q) 0
swapped q paid_of y = elim (cases_eq y q) [
  | inl same ↦ cond-true _ _ _ (eq-eqb y q same) ∙ ap paid_of same ∙ sym (cond-true _ _ _ (eq-eqb q y (sym same)))
  | inr other ↦ cond-false _ _ _ (ne_eqb y q other) ∙ sym (cond-false _ _ _ (ne_eqb q y (λ e. other (sym e))))
]

sum_once : (q : ℕ) (paid_of : ℕ → ℕ) (xs : List ℕ) → AllPairs (λ y z. y < z) xs → (approves xs q ≡ false → paid_of q ≡ 0)
    → sum_by (λ y. cond (y == q) (paid_of y) 0) xs ≡ paid_of q
sum_once q paid_of xs rise outside =
    let same = sum_same (λ y. cond (y == q) (paid_of y) 0) (λ y. cond (q == y) (paid_of q) 0) xs (λ k d below. swapped q paid_of (get_or xs k d)) in
    let once = sum_with (λ y. 0) q (paid_of q) xs rise refl outside in
    let none = sum_nothing (λ y. 0) xs (λ x. refl) in
    omega (arith, same, once, none)

pub paid_is : (e : ElectionView) (o : OutcomeView) → IsElection e → (place voter : ℕ) → voter < length e.voters → place < length e.projects
    → paid_to place (voter_payments e o voter) ≡ paid_for e o place voter
paid_is e o h place voter is_voter known =
    payments_to place (λ p. paid_for e o p voter) (ballot_at e voter)
    ∙ sum_once place (λ p. paid_for e o p voter) (ballot_at e voter) (ballot_rises e voter h is_voter)
    (λ none. unlisted_pays_nothing Votes (support_of e) 0 place voter (supports e voter place is_voter known ∙ none) o.elected (replicate (length e.voters) o.share))

-- what all voters paid
module _ (c : CountedElectionView) (all : List (List Payment)) (are : ArePayments c all) (h : IsElection c.election) where
  pub one_each : length all ≡ length c.election.voters
  one_each = ap length are ∙ length-map-range_with_len (voter_payments c.election c.counted.outcome) 0 (length c.election.voters)

  pub those_of : (voter : ℕ) (d : List Payment) → voter < length c.election.voters → get_or all voter d ≡ voter_payments c.election c.counted.outcome voter
  those_of voter d is_voter =
      ap (λ (l : List (List Payment)). get_or l voter d) are
      ∙ get_or-map-range_with_len (voter_payments c.election c.counted.outcome) 0 (length c.election.voters) voter voter d is_voter (omega arith)

  pub all_known : All (AreKnown (length c.election.projects)) all
  all_known = λ k d below.
      let is_voter : k < length c.election.voters = omega (arith, below, one_each) in
      subst (AreKnown (length c.election.projects)) (sym (those_of k d is_voter)) (payments_known c.election k h is_voter c.counted.outcome)

  pub summed_is : (place : ℕ) → place < length c.election.projects → (supporters : List ℕ) → All (λ voter. voter < length c.election.voters) supporters
      → sum_by (λ voter. paid_to place (slice_index_or all voter [])) supporters ≡ sum_by (paid_for c.election c.counted.outcome place) supporters
  summed_is place known supporters are_voters =
      sum_same (λ voter. paid_to place (slice_index_or all voter [])) (paid_for c.election c.counted.outcome place) supporters (λ k d below.
      let voter = get_or supporters k d in
      ap (paid_to place) (those_of voter [] (are_voters k d below)) ∙ paid_is c.election c.counted.outcome h place voter (are_voters k d below) known)

payments_agree : (f g : ElectedView → Payment) (xs : List ElectedView) → All (λ x. f x ≡ g x) xs → map f xs ≡ map g xs
payments_agree f g [] same = refl
payments_agree f g (x ∷ xs) same = rw (All-head (λ y. f y ≡ g y) x xs same, payments_agree f g xs (All-tail (λ y. f y ≡ g y) x xs same)) refl

pub together_is : (e : ElectionView) (o : OutcomeView) (place : ℕ) (sums : List ℕ) → All (λ w. w.place < length e.projects) o.elected
    → ((other : ℕ) → other < length e.projects → slice_index sums other ≡ sum_by (paid_for e o other) (supporters_at (support_of e) place))
    → sums_for sums o.elected ≡ paid_together e o place
together_is e o place sums known are =
    payments_agree (λ w. record { place = w.place; amount = slice_index sums w.place })
    (λ w. record { place = w.place; amount = sum_by (paid_for e o w.place) (supporters_at (support_of e) place) }) o.elected
    (λ k d below. let w = get_or o.elected k d in ap (λ n. record { place = w.place; amount = n }) (are w.place (known k d below)))

-- one of the elected more
module _ (sums : List ℕ) (elected : List ElectedView) (i : ℕ) (w : ElectedView) (p : Payment) (below : i < length elected) (here : w ≡ get_or elected i w)
    (p_is : p ≡ record { place = w.place; amount = slice_index sums w.place }) where
  sums_more : sums_for sums (take (i + 1) elected) ≡ sums_for sums (take i elected) ++ p ∷ []
  sums_more =
      let f : ElectedView → Payment = λ v. record { place = v.place; amount = slice_index sums v.place } in
      map_more f elected i w below ∙ ap (λ (q : Payment). sums_for sums (take i elected) ++ q ∷ []) (ap f (sym here) ∙ sym p_is)

  pub most_more : (most new : List Payment) → most ≡ take 5 (fold with_payment [] (sums_for sums (take i elected))) → new ≡ take 5 (with_payment most p)
      → new ≡ take 5 (fold with_payment [] (sums_for sums (take (i + 1) elected)))
  most_more most new most_is new_is =
      let before = sums_for sums (take i elected) in
      new_is ∙ ap (λ (xs : List Payment). take 5 (with_payment xs p)) most_is ∙ firsts 5 (fold with_payment [] before) p
      ∙ ap (take 5) (sym (fold_push with_payment [] before p)) ∙ ap (λ (xs : List Payment). take 5 (fold with_payment [] xs)) (sym sums_more)

  pub all_more : (all amount new : ℕ) → all ≡ sum_by (λ (q : Payment). q.amount) (sums_for sums (take i elected)) → amount ≡ p.amount → new ≡ all + amount
      → new ≡ sum_by (λ (q : Payment). q.amount) (sums_for sums (take (i + 1) elected))
  all_more all amount new all_is amount_is new_is =
      let more = ap (sum_by (λ (q : Payment). q.amount)) sums_more in
      let pushed = sum_by_push (λ (q : Payment). q.amount) (sums_for sums (take i elected)) p in
      omega (arith, more, pushed, all_is, amount_is, new_is)

-- supporters are voters
pub supporters_are_voters : (grain : Grain) (e : ElectionView) (o : OutcomeView) → CanBeTold grain e o → (s : SupportView) → IsSupport s → s ≡ support_in grain e → (place : ℕ)
    → place < length e.projects → (list : List ℕ) → list ≡ supporters_at s place → All (λ voter. voter < length e.voters) list
supporters_are_voters grain e o told s support s_is place known list is = λ i d below.
    let size : length s.costs ≡ length e.projects = ap (λ (t : SupportView). length t.costs) s_is ∙ length-map e.projects (λ (p : ProjectView). p.cost) in
    let voters : length o.rests ≡ s.voters = told.one_each ∙ sym (ap (λ (t : SupportView). t.voters) s_is) in
    let short = known_voters s support place (omega (arith, known, size)) list o.rests is voters i d below in
    omega (arith, short, told.one_each)
