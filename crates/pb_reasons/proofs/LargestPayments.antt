-- The largest payments, in the words of their law.
use Rattle.std.proofs.Common.{◌≡◌, ◌≢◌, ℕ, zero, suc, ◌+◌, ◌<◌, ◌≤◌, Bool, true, false, cond, List, [], ◌∷◌, ◌++◌, length, take, drop, get_or, refl, sym, subst, ◌∙◌, ap, arith, append-nil}
use Rattle.std.specs.Prelude.{All, AllPairs, ◌==◌, filter, fold, nat_lt, sum_by}
use Rattle.std.proofs.lemmas.Bool.{eqb-true, ltb-false, ltb-true, ne_eqb}
use Rattle.std.proofs.lemmas.List.{append_assoc, take-append-drop}
use Rattle.std.proofs.lemmas.List.Elements.{All-cons, All-head, All-nil, All-tail}
use Rattle.std.proofs.lemmas.List.Sums.{sum_by-cons}
use Rattle.pb_reasons.specs.Money.{money_of, with_payment}
use Rattle.pb_reasons.specs.declared.payment.Payment.{Payment}

abbrev AtMost : ℕ → Payment → Type 0
AtMost most p = p.amount ≤ most

abbrev IsSome : Payment → Type 0
IsSome p = 0 < p.amount

-- payments from the largest on
abbrev Falls : List Payment → Type 0
Falls [] = Unit {0}
Falls (p ∷ paid) = All (AtMost p.amount) paid × Falls paid

pub pairs_fall : (paid : List Payment) → Falls paid → AllPairs (λ (p q : Payment). q.amount ≤ p.amount) paid
pairs_fall [] falls i j d less below = absurd (omega (arith, below))
pairs_fall (p ∷ paid) falls zero zero d less below = absurd (omega (arith, less))
pairs_fall (p ∷ paid) falls zero (suc j) d less below = falls.0 j d (omega (arith, below))
pairs_fall (p ∷ paid) falls (suc i) zero d less below = absurd (omega (arith, less))
pairs_fall (p ∷ paid) falls (suc i) (suc j) d less below = pairs_fall paid falls.1 i j d (omega (arith, less)) (omega (arith, below))

fewer : (low high : ℕ) (paid : List Payment) → low ≤ high → All (AtMost low) paid → All (AtMost high) paid
fewer low high paid within all k d below = let here : (get_or paid k d).amount ≤ low = all k d below in omega (arith, here, within)

-- one payment more
module _ (p : Payment) where
  at_most_step : (most : ℕ) (b : Bool) (q : Payment) (paid placed : List Payment) → AtMost most p → All (AtMost most) (q ∷ paid) → All (AtMost most) placed
      → All (AtMost most) (cond b (p ∷ q ∷ paid) (q ∷ placed))
  at_most_step most true q paid placed small all later = All-cons (AtMost most) p (q ∷ paid) small all
  at_most_step most false q paid placed small all later = All-cons (AtMost most) q placed (All-head (AtMost most) q paid all) later

  at_most_last : (most : ℕ) (b : Bool) → AtMost most p → All (AtMost most) (cond b (p ∷ []) [])
  at_most_last most true small = All-cons (AtMost most) p [] small (All-nil (AtMost most))
  at_most_last most false small = All-nil (AtMost most)

  placed_at_most : (most : ℕ) (paid : List Payment) → AtMost most p → All (AtMost most) paid → All (AtMost most) (with_payment paid p)
  placed_at_most most [] small all = at_most_last most (nat_lt 0 p.amount) small
  placed_at_most most (q ∷ paid) small all =
      at_most_step most (nat_lt q.amount p.amount) q paid (with_payment paid p) small all (placed_at_most most paid small (All-tail (AtMost most) q paid all))

  falls_last : (b : Bool) → Falls (cond b (p ∷ []) [])
  falls_last true = (All-nil (AtMost p.amount), tt)
  falls_last false = tt

  falls_step : (b : Bool) (q : Payment) (paid placed : List Payment) → nat_lt q.amount p.amount ≡ b → Falls (q ∷ paid)
      → (p.amount ≤ q.amount → All (AtMost q.amount) placed) → Falls placed → Falls (cond b (p ∷ q ∷ paid) (q ∷ placed))
  falls_step true q paid placed is falls small later =
      let less = ltb-true q.amount p.amount is in
      (All-cons (AtMost p.amount) q paid (omega (arith, less)) (fewer q.amount p.amount paid (omega (arith, less)) falls.0), falls)
  falls_step false q paid placed is falls small later =
      let more = ltb-false q.amount p.amount is in (small (omega (arith, more)), later)

  pub placed_falls : (paid : List Payment) → Falls paid → Falls (with_payment paid p)
  placed_falls [] falls = falls_last (nat_lt 0 p.amount)
  placed_falls (q ∷ paid) falls =
      falls_step (nat_lt q.amount p.amount) q paid (with_payment paid p) refl falls
      (λ small. placed_at_most q.amount paid small falls.0) (placed_falls paid falls.1)

  some_last : (b : Bool) → nat_lt 0 p.amount ≡ b → All IsSome (cond b (p ∷ []) [])
  some_last true is = All-cons IsSome p [] (ltb-true 0 p.amount is) (All-nil IsSome)
  some_last false is = All-nil IsSome

  some_step : (b : Bool) (q : Payment) (paid placed : List Payment) → nat_lt q.amount p.amount ≡ b → All IsSome (q ∷ paid) → All IsSome placed
      → All IsSome (cond b (p ∷ q ∷ paid) (q ∷ placed))
  some_step true q paid placed is all later = let less = ltb-true q.amount p.amount is in All-cons IsSome p (q ∷ paid) (omega (arith, less)) all
  some_step false q paid placed is all later = All-cons IsSome q placed (All-head IsSome q paid all) later

  placed_some : (paid : List Payment) → All IsSome paid → All IsSome (with_payment paid p)
  placed_some [] all = some_last (nat_lt 0 p.amount) refl
  placed_some (q ∷ paid) all = some_step (nat_lt q.amount p.amount) q paid (with_payment paid p) refl all (placed_some paid (All-tail IsSome q paid all))

  -- those of one amount
  module _ (amount : ℕ) (positive : 0 < amount) where
    abbrev of : List Payment → List Payment
    of paid = filter (λ (q : Payment). q.amount == amount) paid

    none_step : (b : Bool) (q : Payment) (rest : List Payment) → b ≡ false → rest ≡ [] → cond b (q ∷ rest) rest ≡ []
    none_step true q rest is none = absurd (let e = is in cc)
    none_step false q rest is none = none

    none_of : (paid : List Payment) → ((k : ℕ) (d : Payment) → k < length paid → (get_or paid k d).amount < amount) → of paid ≡ []
    none_of [] less = refl
    none_of (q ∷ paid) less =
        let here : q.amount < amount = less zero q (omega arith) in
        none_step (q.amount == amount) q (of paid) (ne_eqb q.amount amount (λ same. omega (arith, here, same)))
        (none_of paid (λ k d below. less (suc k) d (omega (arith, below))))

    last_of : (b : Bool) → nat_lt 0 p.amount ≡ b → of (cond b (p ∷ []) []) ≡ of (p ∷ [])
    last_of true is = refl
    last_of false is =
        let none = ltb-false 0 p.amount is in
        sym (none_step (p.amount == amount) p [] (ne_eqb p.amount amount (λ same. omega (arith, none, same, positive))) refl)

    before_of : (b : Bool) (rest : List Payment) → (b ≡ true → rest ≡ []) → cond b (p ∷ rest) rest ≡ rest ++ cond b (p ∷ []) []
    before_of true rest none = let gone = none refl in ap (λ (xs : List Payment). p ∷ xs) gone ∙ sym (ap (λ (xs : List Payment). xs ++ p ∷ []) gone)
    before_of false rest none = sym (append-nil rest)

    behind_of : (b : Bool) (q : Payment) (rest more : List Payment) → cond b (q ∷ (rest ++ more)) (rest ++ more) ≡ cond b (q ∷ rest) rest ++ more
    behind_of true q rest more = refl
    behind_of false q rest more = refl

    of_step : (b : Bool) (q : Payment) (paid placed : List Payment) → nat_lt q.amount p.amount ≡ b → All (AtMost q.amount) paid
        → of placed ≡ of paid ++ of (p ∷ []) → of (cond b (p ∷ q ∷ paid) (q ∷ placed)) ≡ of (q ∷ paid) ++ of (p ∷ [])
    of_step true q paid placed is small later =
        let less = ltb-true q.amount p.amount is in
        let all : All (AtMost q.amount) (q ∷ paid) = All-cons (AtMost q.amount) q paid (omega arith) small in
        before_of (p.amount == amount) (of (q ∷ paid))
        (λ same. none_of (q ∷ paid) (λ k d below. let here : (get_or (q ∷ paid) k d).amount ≤ q.amount = all k d below in
        let equal = eqb-true p.amount amount same in omega (arith, here, less, equal)))
    of_step false q paid placed is small later =
        ap (λ (xs : List Payment). cond (q.amount == amount) (q ∷ xs) xs) later ∙ behind_of (q.amount == amount) q (of paid) (of (p ∷ []))

    pub placed_of : (paid : List Payment) → Falls paid → of (with_payment paid p) ≡ of paid ++ of (p ∷ [])
    placed_of [] falls = last_of (nat_lt 0 p.amount) refl
    placed_of (q ∷ paid) falls = of_step (nat_lt q.amount p.amount) q paid (with_payment paid p) refl falls.0 (placed_of paid falls.1)

  sum_last : (b : Bool) → nat_lt 0 p.amount ≡ b → sum_by (λ (q : Payment). q.amount) (cond b (p ∷ []) []) ≡ p.amount
  sum_last true is = sum_by-cons (λ (q : Payment). q.amount) p [] ∙ omega arith
  sum_last false is = let none = ltb-false 0 p.amount is in omega (arith, none)

  sum_step : (b : Bool) (q : Payment) (paid placed : List Payment)
      → sum_by (λ (r : Payment). r.amount) placed ≡ sum_by (λ (r : Payment). r.amount) paid + p.amount
      → sum_by (λ (r : Payment). r.amount) (cond b (p ∷ q ∷ paid) (q ∷ placed)) ≡ sum_by (λ (r : Payment). r.amount) (q ∷ paid) + p.amount
  sum_step true q paid placed later =
      let one = sum_by-cons (λ (r : Payment). r.amount) p (q ∷ paid) in omega (arith, one)
  sum_step false q paid placed later =
      let one = sum_by-cons (λ (r : Payment). r.amount) q placed in
      let two = sum_by-cons (λ (r : Payment). r.amount) q paid in omega (arith, one, two, later)

  placed_sum : (paid : List Payment) → sum_by (λ (r : Payment). r.amount) (with_payment paid p) ≡ sum_by (λ (r : Payment). r.amount) paid + p.amount
  placed_sum [] = let last = sum_last (nat_lt 0 p.amount) refl in omega (arith, last)
  placed_sum (q ∷ paid) = sum_step (nat_lt q.amount p.amount) q paid (with_payment paid p) (placed_sum paid)

-- all payments, one after the other
all_fall : (so_far paid : List Payment) → Falls so_far → Falls (fold with_payment so_far paid)
all_fall so_far [] falls = falls
all_fall so_far (p ∷ paid) falls = all_fall (with_payment so_far p) paid (placed_falls p so_far falls)

all_some : (so_far paid : List Payment) → All IsSome so_far → All IsSome (fold with_payment so_far paid)
all_some so_far [] some = some
all_some so_far (p ∷ paid) some = all_some (with_payment so_far p) paid (placed_some p so_far some)

all_sum : (so_far paid : List Payment)
    → sum_by (λ (r : Payment). r.amount) (fold with_payment so_far paid) ≡ sum_by (λ (r : Payment). r.amount) so_far + sum_by (λ (r : Payment). r.amount) paid
all_sum so_far [] = omega arith
all_sum so_far (p ∷ paid) =
    let later = all_sum (with_payment so_far p) paid in
    let here = placed_sum p so_far in
    let both = sum_by-cons (λ (r : Payment). r.amount) p paid in omega (arith, later, here, both)

one_first : (b : Bool) (p : Payment) (rest : List Payment) → cond b (p ∷ []) [] ++ rest ≡ cond b (p ∷ rest) rest
one_first true p rest = refl
one_first false p rest = refl

module _ (amount : ℕ) (positive : 0 < amount) where
  abbrev those : List Payment → List Payment
  those paid = filter (λ (q : Payment). q.amount == amount) paid

  all_of : (so_far paid : List Payment) → Falls so_far → those (fold with_payment so_far paid) ≡ those so_far ++ those paid
  all_of so_far [] falls = sym (append-nil (those so_far))
  all_of so_far (p ∷ paid) falls =
      all_of (with_payment so_far p) paid (placed_falls p so_far falls)
      ∙ ap (λ (xs : List Payment). xs ++ those paid) (placed_of p amount positive so_far falls)
      ∙ append_assoc (those so_far) (those (p ∷ [])) (those paid)
      ∙ ap (λ (xs : List Payment). those so_far ++ xs) (one_first (p.amount == amount) p (those paid))

-- the first of them, and the others
first_few : (n : ℕ) (paid : List Payment) → length (take n paid) ≤ n
first_few zero paid = omega arith
first_few (suc n) [] = omega arith
first_few (suc n) (p ∷ paid) = let rest = first_few n paid in omega (arith, rest)

first_full : (n : ℕ) (paid : List Payment) → drop n paid ≢ [] → length (take n paid) ≡ n
first_full zero paid some = refl
first_full (suc n) [] some = absurd (some refl)
first_full (suc n) (p ∷ paid) some = ap suc (first_full n paid some)

first_sum : (n : ℕ) (paid : List Payment) → sum_by (λ (r : Payment). r.amount) (take n paid) ≤ sum_by (λ (r : Payment). r.amount) paid
first_sum zero paid = omega arith
first_sum (suc n) [] = omega arith
first_sum (suc n) (p ∷ paid) =
    let rest = first_sum n paid in
    let one = sum_by-cons (λ (r : Payment). r.amount) p (take n paid) in
    let two = sum_by-cons (λ (r : Payment). r.amount) p paid in omega (arith, rest, one, two)

module _ (paid : List Payment) where
  abbrev sorted : List Payment
  sorted = fold with_payment [] paid

  whole : take 5 sorted ++ drop 5 sorted ≡ sorted
  whole = take-append-drop 5 sorted

  pub most_are_largest : (rest : List Payment)
      × AllPairs (λ (p q : Payment). q.amount ≤ p.amount) ((money_of paid).most ++ rest)
      × All (λ (p : Payment). 0 < p.amount) ((money_of paid).most ++ rest)
      × ((amount : ℕ) → 0 < amount → filter (λ (p : Payment). p.amount == amount) ((money_of paid).most ++ rest) ≡ filter (λ (p : Payment). p.amount == amount) paid)
      × (length (money_of paid).most ≤ 5) × (rest ≢ [] → length (money_of paid).most ≡ 5)
  most_are_largest = (
    drop 5 sorted,
    subst (λ (xs : List Payment). AllPairs (λ (p q : Payment). q.amount ≤ p.amount) xs) (sym whole) (pairs_fall sorted (all_fall [] paid tt)),
    subst (λ (xs : List Payment). All IsSome xs) (sym whole) (all_some [] paid (All-nil IsSome)),
    (λ amount positive. ap (those amount positive) whole ∙ all_of amount positive [] paid tt),
    first_few 5 sorted,
    first_full 5 sorted,
  )

  pub others_are_the_rest : (money_of paid).others + sum_by (λ (p : Payment). p.amount) (money_of paid).most ≡ sum_by (λ (p : Payment). p.amount) paid
  others_are_the_rest =
      let all = all_sum [] paid in
      let less = first_sum 5 sorted in
      omega (arith, all, less)
