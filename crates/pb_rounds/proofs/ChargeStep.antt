-- The rests after one more supporter paid.
use Rattle.std.proofs.Common.{◌≡◌, ℕ, ◌+◌, ◌-◌, ◌<◌, ◌≤◌, min, List, [], ◌∷◌, ◌++◌, length, get_or, set, take, Bool, true, false, cond, refl, sym, ◌∙◌, ap, inl, inr, arith, ◌||◌}
use Rattle.std.specs.Prelude.{◌==◌, All, slice_index}
use Rattle.std.specs.List.Sorted.{IsStrictlyIncreasing}
use Rattle.std.proofs.lemmas.Bool.{cases_eq, eq-eqb, ne_eqb, cond-true, cond-false, or_left, or_right}
use Rattle.std.proofs.lemmas.List.{ext_get_or, length-set, get_or-set_same, get_or-set_other, take_more, get_or-take, length-take-le, get_or_default}
use Rattle.std.proofs.lemmas.List.Folds.{list_any-append, list_any_none}
use Rattle.std.proofs.lemmas.List.Kept.{AllPairs-from_increasing}
use Rattle.std.proofs.lemmas.List.Sums.{sum_by_push, sum_by_more_le}
use Rattle.pb_price.specs.Price.{paid_at}
use Rattle.pb_rounds.specs.Inner.Listed.{is_listed}
use Rattle.pb_rounds.specs.Run.{charged, payment_of}
use Rattle.pb_rounds.proofs.Charged.{charged_at, length-charged}

-- nobody has paid yet
pub charged-none : (price : ℕ) (rests : List ℕ) → charged [] price rests ≡ rests
charged-none price rests =
    ext_get_or 0 _ rests (length-charged [] price rests) (λ k _. let e = charged_at [] price rests k in omega arith)

-- a supporter who is not among those before
pub listed_later : (supporters : List ℕ) (i : ℕ) → IsStrictlyIncreasing supporters → i < length supporters
    → is_listed (take i supporters) (get_or supporters i 0) ≡ false
listed_later supporters i rise below =
    list_any_none (λ m. m == get_or supporters i 0) (take i supporters) (λ k d h.
    let short : length (take i supporters) ≡ i = length-take-le i supporters (omega arith) in
    let before = AllPairs-from_increasing supporters rise k i 0 (omega arith) below in
    let here = get_or-take i supporters k d (omega arith) ∙ get_or_default supporters k d 0 (omega arith) in
    ne_eqb _ _ (λ e. omega (arith, e, here, before)))

or_false : (b : Bool) → (b || false) ≡ b
or_false true = refl
or_false false = refl

module _ (supporters : List ℕ) (voter price : ℕ) (rests : List ℕ) where
  pub paid_at-push : paid_at (supporters ++ voter ∷ []) rests price ≡ paid_at supporters rests price + min (slice_index rests voter) price
  paid_at-push = sum_by_push (λ v. min (slice_index rests v) price) supporters voter

  pushed_pays : payment_of (supporters ++ voter ∷ []) price rests voter ≡ min (slice_index rests voter) price
  pushed_pays = cond-true _ _ _ (list_any-append (λ m. m == voter) supporters (voter ∷ [])
      ∙ or_right (is_listed supporters voter) _ (or_left (voter == voter) _ (eq-eqb voter voter refl)))

  others_pay : (k : ℕ) → (k ≡ voter → ⊥) → payment_of (supporters ++ voter ∷ []) price rests k ≡ payment_of supporters price rests k
  others_pay k other =
      let same : is_listed (supporters ++ voter ∷ []) k ≡ is_listed supporters k =
      list_any-append (λ m. m == k) supporters (voter ∷ []) ∙ rw (ne_eqb voter k (λ e. other (sym e))) (or_false (is_listed supporters k)) in
      ap (λ listed. cond listed (min (slice_index rests k) price) 0) same

  pub charged-push : is_listed supporters voter ≡ false → voter < length rests
      → charged (supporters ++ voter ∷ []) price rests
      ≡ set (charged supporters price rests) voter (slice_index (charged supporters price rests) voter - min (slice_index (charged supporters price rests) voter) price)
  charged-push new below =
      let unpaid : payment_of supporters price rests voter ≡ 0 = cond-false _ _ _ new in
      ext_get_or 0 _ _ (length-charged (supporters ++ voter ∷ []) price rests ∙ sym (length-set (charged supporters price rests) voter _ ∙ length-charged supporters price rests))
      (λ k h. elim (cases_eq k voter) [
        | inl same ↦
            let still : slice_index (charged supporters price rests) voter ≡ slice_index rests voter = charged_at supporters price rests voter ∙ rw unpaid (omega arith) in
            rw (same, get_or-set_same (charged supporters price rests) voter _ 0 (rw length-charged below), charged_at (supporters ++ voter ∷ []) price rests voter, pushed_pays, still) refl
        | inr other ↦ rw get_or-set_other (charged_at (supporters ++ voter ∷ []) price rests k ∙ rw (others_pay k other) (sym (charged_at supporters price rests k)))
      ])

-- one more of the supporters pays
module _ (supporters : List ℕ) (price : ℕ) (rests : List ℕ) (i : ℕ) (rise : IsStrictlyIncreasing supporters) (below : i < length supporters) where
  pub rest_so_far : slice_index (charged (take i supporters) price rests) (get_or supporters i 0) ≡ slice_index rests (get_or supporters i 0)
  rest_so_far =
      let unpaid : payment_of (take i supporters) price rests (get_or supporters i 0) ≡ 0 = cond-false _ _ _ (listed_later supporters i rise below) in
      charged_at (take i supporters) price rests (get_or supporters i 0) ∙ rw unpaid (omega arith)

  pub paid_at-more : paid_at (take (i + 1) supporters) rests price
      ≡ paid_at (take i supporters) rests price + min (slice_index (charged (take i supporters) price rests) (get_or supporters i 0)) price
  paid_at-more = rw (take_more supporters i 0 below, rest_so_far) (paid_at-push (take i supporters) (get_or supporters i 0) price rests)

  pub charged-more : get_or supporters i 0 < length rests
      → charged (take (i + 1) supporters) price rests
      ≡ set (charged (take i supporters) price rests) (get_or supporters i 0)
      (slice_index (charged (take i supporters) price rests) (get_or supporters i 0)
      - min (slice_index (charged (take i supporters) price rests) (get_or supporters i 0)) price)
  charged-more known = rw (take_more supporters i 0 below)
      (charged-push (take i supporters) (get_or supporters i 0) price rests (listed_later supporters i rise below) known)

  -- what is collected so far is within the whole
  pub paid_at-within : paid_at (take i supporters) rests price + min (slice_index rests (get_or supporters i 0)) price ≤ paid_at supporters rests price
  paid_at-within = sum_by_more_le (λ v. min (slice_index rests v) price) supporters i 0 below

-- one step of the loop over the supporters: rest is the next supporter's, found at any default, and payment what is taken of it
module _ (supporters : List ℕ) (price : ℕ) (before : List ℕ) (i : ℕ) (rise : IsStrictlyIncreasing supporters) (below : i < length supporters)
    (known : All (λ voter. voter < length before) supporters)
    (rests : List ℕ) (rests_are : rests ≡ charged (take i supporters) price before)
    (collected : ℕ) (collected_is : collected ≡ paid_at (take i supporters) before price)
    (rest d payment : ℕ) (rest_is : rest ≡ get_or rests (get_or supporters i 0) d) (payment_is : payment ≡ min rest price) where
  payment_is_due : payment ≡ min (slice_index (charged (take i supporters) price before) (get_or supporters i 0)) price
  payment_is_due =
      let within : get_or supporters i 0 < length rests = rw (rests_are, length-charged (take i supporters) price before) (known i 0 below) in
      let found = rest_is ∙ get_or_default rests (get_or supporters i 0) d 0 within in
      payment_is ∙ ap (λ r. min r price) (found ∙ ap (λ rs. slice_index rs (get_or supporters i 0)) rests_are)

  rest_is_left : rest ≡ slice_index (charged (take i supporters) price before) (get_or supporters i 0)
  rest_is_left =
      let within : get_or supporters i 0 < length rests = rw (rests_are, length-charged (take i supporters) price before) (known i 0 below) in
      rest_is ∙ get_or_default rests (get_or supporters i 0) d 0 within ∙ ap (λ rs. slice_index rs (get_or supporters i 0)) rests_are

  pub charge_step-collected : collected + payment ≡ paid_at (take (i + 1) supporters) before price
  charge_step-collected =
      omega (arith, collected_is, payment_is_due, paid_at-more supporters price before i rise below)

  pub charge_step-rests : set rests (get_or supporters i 0) (rest - payment) ≡ charged (take (i + 1) supporters) price before
  charge_step-rests =
      rw (payment_is_due, rest_is_left, rests_are) (sym (charged-more supporters price before i rise below (known i 0 below)))

  pub charge_step-fits : collected + payment ≤ paid_at supporters before price
  charge_step-fits =
      let due = payment_is_due ∙ ap (λ r. min r price) (rest_so_far supporters price before i rise below) in
      omega (arith, collected_is, due, paid_at-within supporters price before i rise below)
