-- What one voter pays, round by round.
use Rattle.std.proofs.Common.{◌≡◌, ℕ, zero, suc, ◌+◌, ◌-◌, ◌<◌, ◌≤◌, Bool, true, false, List, [], ◌∷◌, length, get_or, set, take, min, refl, sym, ◌∙◌, ap, inl, inr, arith}
use Rattle.std.specs.Prelude.{slice_index, sum_by}
use Rattle.std.proofs.lemmas.List.Sums.{sum_by-cons, sum_by_more}
use Rattle.std.specs.List.Sorted.{IsStrictlyIncreasing}
use Rattle.std.proofs.lemmas.Bool.{cases_eq, cases_lt, false_from_ne_true}
use Rattle.std.proofs.lemmas.List.{get_or-set_same, get_or-set_other, get_or_default}
use Rattle.std.proofs.lemmas.List.Kept.{AllPairs-from_increasing}
use Rattle.pb_core.specs.Inner.Approved.{approves}
use Rattle.pb_rounds.specs.Inner.Listed.{is_listed}
use Rattle.pb_rounds.specs.Run.{ElectedView}
use Rattle.pb_rounds.proofs.Listed.{contains_from_listed, listed_from_contains}
use Rattle.pb_reasons.specs.Inner.Turns.{AreDue, ArePaid, due_of, paid_alone}

due_within : (b : Bool) (rest price : ℕ) → due_of b rest price ≤ rest
due_within true rest price = omega arith
due_within false rest price = omega arith

pub length-paid_alone : (ballot : List ℕ) (rest : ℕ) (elected : List ElectedView) → length (paid_alone ballot rest elected) ≡ length elected
unfolding paid_alone
length-paid_alone ballot rest [] = refl
length-paid_alone ballot rest (w ∷ elected) = ap suc (length-paid_alone ballot (rest - due_of (approves ballot w.place) rest w.price) elected)

-- what is paid before a round
abbrev pub paid_before : List ℕ → ℕ → List ElectedView → ℕ → ℕ
paid_before ballot share elected round = sum_by (λ (amount : ℕ). amount) (take round (paid_alone ballot share elected))

-- what is paid in a round, from what is left before it
pub paid_from_rest : (ballot : List ℕ) (share : ℕ) (elected : List ElectedView) (round : ℕ) (d : ElectedView) → round < length elected
    → (rest : ℕ) → rest + paid_before ballot share elected round ≡ share
    → slice_index (paid_alone ballot share elected) round ≡ due_of (approves ballot (get_or elected round d).place) rest (get_or elected round d).price
unfolding paid_alone
paid_from_rest ballot share [] round d below rest left = absurd (omega arith)
paid_from_rest ballot share (w ∷ elected) zero d below rest left =
    let same : rest ≡ share = omega (arith, left) in rw same refl
paid_from_rest ballot share (w ∷ elected) (suc round) d below rest left =
    let paid = due_of (approves ballot w.place) share w.price in
    let within = due_within (approves ballot w.place) share w.price in
    let first = sum_by-cons (λ (amount : ℕ). amount) paid (take round (paid_alone ballot (share - paid) elected)) in
    let all : rest + (paid + paid_before ballot (share - paid) elected round) ≡ share = rw first at left in
    paid_from_rest ballot (share - paid) elected round d (omega arith) rest (omega (arith, all, within))

-- nothing is paid for what the ballot does not approve
pub nothing_alone : (ballot : List ℕ) (share : ℕ) (elected : List ElectedView) (round : ℕ) (d : ElectedView) → round < length elected
    → approves ballot (get_or elected round d).place ≡ false → slice_index (paid_alone ballot share elected) round ≡ 0
unfolding paid_alone
nothing_alone ballot share [] round d below not_approved = absurd (omega arith)
nothing_alone ballot share (w ∷ elected) zero d below not_approved = rw not_approved refl
nothing_alone ballot share (w ∷ elected) (suc round) d below not_approved =
    nothing_alone ballot (share - due_of (approves ballot w.place) share w.price) elected round d (omega arith) not_approved

-- a rising list does not have what stands between two of its entries
not_due : (due : List ℕ) (i round upto : ℕ) → IsStrictlyIncreasing due → ((k : ℕ) → k < i → slice_index due k < upto)
    → upto ≤ round → i < length due → round < slice_index due i → is_listed due round ≡ false
not_due due i round upto rise before after below next = false_from_ne_true _ (λ listed.
    let at = contains_from_listed due round listed in
    let here : slice_index due at.0 ≡ round = get_or_default due at.0 0 round at.1 ∙ at.2 in
    elim (cases_lt at.0 i) [
      | inl early ↦ let small = before at.0 early in omega (arith, small, here, after)
      | inr late ↦ elim (cases_eq i at.0) [
        | inl same ↦ let now : slice_index due i ≡ round = rw (← same) at here in omega (arith, now, next)
        | inr other ↦ let more = AllPairs-from_increasing due rise i at.0 0 (omega arith) at.1 in omega (arith, more, here, next)
      ]
    ])

-- the first of the due rounds are paid, this many
pub record IsPaidSoFar (ballot : List ℕ) (share : ℕ) (elected : List ElectedView) (due : List ℕ) (i rest : ℕ) (amounts : List ℕ) : Type 0 where
  pub upto : ℕ
  pub before : (k : ℕ) → k < i → slice_index due k < upto
  pub after : (k : ℕ) → i ≤ k → k < length due → upto ≤ slice_index due k
  pub left : rest + paid_before ballot share elected upto ≡ share
  pub paid : (k : ℕ) → k < i → slice_index amounts (slice_index due k) ≡ slice_index (paid_alone ballot share elected) (slice_index due k)

pub paid-none : (ballot : List ℕ) (share : ℕ) (elected : List ElectedView) (due amounts : List ℕ) → IsPaidSoFar ballot share elected due 0 share amounts
paid-none ballot share elected due amounts = record {
  upto = 0;
  before = λ k below. absurd (omega arith);
  after = λ k from below. omega arith;
  left = omega arith;
  paid = λ k below. absurd (omega arith);
}

-- nothing is paid in the rounds up to the next that is due
skipped : (ballot : List ℕ) (share : ℕ) (elected : List ElectedView) (due : List ℕ) → AreDue elected ballot due → (i upto : ℕ) → i < length due
    → ((k : ℕ) → k < i → slice_index due k < upto) → (d : ElectedView) → (steps : ℕ) → upto + steps ≤ slice_index due i → slice_index due i < length elected
    → paid_before ballot share elected (upto + steps) ≡ paid_before ballot share elected upto
skipped ballot share elected due h i upto below before d zero within known = ap (paid_before ballot share elected) (omega arith)
skipped ballot share elected due h i upto below before d (suc steps) within known =
    let earlier = skipped ballot share elected due h i upto below before d steps (omega arith) known in
    let round = upto + steps in
    let inside : round < length (paid_alone ballot share elected) = rw length-paid_alone (omega arith) in
    let last = sum_by_more (λ (amount : ℕ). amount) (paid_alone ballot share elected) round 0 inside in
    let none : is_listed due round ≡ false = not_due due i round upto h.rise before (omega arith) below (omega arith) in
    let nothing = nothing_alone ballot share elected round d (omega arith) (sym (h.each round d (omega arith)) ∙ none) in
    let all : paid_before ballot share elected (round + 1) ≡ paid_before ballot share elected upto = omega (arith, last, nothing, earlier) in
    ap (paid_before ballot share elected) (omega arith) ∙ all

-- one more round is paid
pub paid-more : (ballot : List ℕ) (share : ℕ) (elected : List ElectedView) (due : List ℕ) → AreDue elected ballot due → (i : ℕ) → i < length due
    → (round : ℕ) → round ≡ slice_index due i → (w : ElectedView) → w ≡ get_or elected round w → (rest amount : ℕ) → amount ≡ min rest w.price
    → (amounts : List ℕ) → length amounts ≡ length elected → IsPaidSoFar ballot share elected due i rest amounts
    → IsPaidSoFar ballot share elected due (i + 1) (rest - amount) (set amounts round amount)
paid-more ballot share elected due h i below round is w here rest amount amount_is amounts one_each so_far =
    let known : round < length elected = let all = h.known i 0 below in omega (arith, all, is) in
    let reach = so_far.after i (omega arith) below in
    let same : so_far.upto + (round - so_far.upto) ≡ round = omega (arith, reach, is) in
    let gap = skipped ballot share elected due h i so_far.upto below so_far.before w (round - so_far.upto) (omega (arith, same, is)) (omega (arith, known, is)) in
    let before_round : paid_before ballot share elected round ≡ paid_before ballot share elected so_far.upto = rw same at gap in
    let left : rest + paid_before ballot share elected round ≡ share = let l = so_far.left in omega (arith, l, before_round) in
    let listed : is_listed due round ≡ true = listed_from_contains due round (i, below, get_or_default due i round 0 below ∙ sym is) in
    let approved : approves ballot w.place ≡ true = ap (λ (v : ElectedView). approves ballot v.place) here ∙ sym (h.each round w known) ∙ listed in
    let now : slice_index (paid_alone ballot share elected) round ≡ amount =
    paid_from_rest ballot share elected round w known rest left ∙ ap (λ (v : ElectedView). due_of (approves ballot v.place) rest v.price) (sym here)
    ∙ ap (λ b. due_of b rest w.price) approved ∙ sym amount_is in
    let inside : round < length (paid_alone ballot share elected) = rw length-paid_alone known in
    let last = sum_by_more (λ (a : ℕ). a) (paid_alone ballot share elected) round 0 inside in
    record {
      upto = round + 1;
      before = λ k early. elim (cases_eq k i) [
        | inl e ↦ let at : slice_index due k ≡ round = rw e (sym is) in omega (arith, at)
        | inr other ↦ let less = AllPairs-from_increasing due h.rise k i 0 (omega arith) below in omega (arith, less, is)
      ];
      after = λ k late short. let more = AllPairs-from_increasing due h.rise i k 0 (omega arith) short in omega (arith, more, is);
      left = omega (arith, last, now, left, amount_is);
      paid = λ k early. elim (cases_eq k i) [
        | inl e ↦
            let at : slice_index due k ≡ round = rw e (sym is) in
            rw at (get_or-set_same amounts round amount 0 (omega (arith, known, one_each)) ∙ sym now)
        | inr other ↦
            let less : slice_index due k < slice_index due i = AllPairs-from_increasing due h.rise k i 0 (omega arith) below in
            get_or-set_other amounts round (slice_index due k) amount 0 (λ e. omega (arith, less, e, is)) ∙ so_far.paid k (omega arith)
      ];
    }

-- all rounds that are due are paid
pub paid-all : (ballot : List ℕ) (share : ℕ) (elected : List ElectedView) (due : List ℕ) (i rest : ℕ) (amounts : List ℕ) → length due ≤ i
    → IsPaidSoFar ballot share elected due i rest amounts → ArePaid elected ballot share due amounts
paid-all ballot share elected due i rest amounts past so_far = λ k d below.
    let here : get_or due k d ≡ slice_index due k = get_or_default due k d 0 below in
    rw here (so_far.paid k (omega (arith, past, below)))
