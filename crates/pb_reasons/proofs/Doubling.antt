-- Numbers of further voters that are doubled until the project wins.
use Rattle.std.proofs.Common.{◌≡◌, ◌≢◌, ℕ, zero, suc, ◌*◌, ◌^◌, ◌<◌, ◌≤◌, Bool, true, false, min, max, inl, inr, refl, subst, arith}
use Rattle.std.proofs.lemmas.Bool.{cases_lt}
use Rattle.std.proofs.lemmas.Nat.{pow_pos}
use Rattle.std.proofs.Math.Nat.{pow-suc}
use Rattle.pb_reasons.specs.WhatIf.{IsTrue, Seen, wins}
use Rattle.pb_reasons.specs.Inner.Doubling.{NoneWins}
use Rattle.pb_reasons.specs.declared.changes.change.Change.TheVariants.{Voters}
use Rattle.pb_reasons.specs.declared.changes.change.Verdict.{Verdict}
use Rattle.pb_reasons.specs.declared.changes.question.Question.{Question}

-- of two values that are each other than a third, one is the other
pub same_end : (low high row : Bool) → low ≢ high → low ≢ row → row ≡ high
same_end true true row apart other = absurd (apart refl)
same_end true false true apart other = absurd (other refl)
same_end true false false apart other = refl
same_end false false row apart other = absurd (apart refl)
same_end false true false apart other = absurd (other refl)
same_end false true true apart other = refl

-- no power of two is above this number and below its double
abbrev pub IsGap : ℕ → Type 0
IsGap last = (k : ℕ) → 2 ^ k < max (2 * last) 1 → 2 ^ k ≤ last

pub gap_first : IsGap 0
gap_first k below = let some = pow_pos k in absurd (omega (arith, some, below))

pub gap_next : (last : ℕ) → IsGap last → IsGap (max (2 * last) 1)
gap_next last gap zero below = omega (arith, pow_pos 0)
gap_next last gap (suc k) below =
    let twice = pow-suc 2 k in
    let half = gap k (omega (arith, twice, below)) in
    omega (arith, twice, half)

-- what the count with so many further voters says, where the project does not win
abbrev pub Fails : Seen → Question → ℕ → Type 0
Fails s q value = (v : Verdict) × (wins v ≡ false) × IsTrue s q Voters (record { value = value; verdict = v })

module _ (s : Seen) (q : Question) where
  abbrev pub Loses : ℕ → Type 0
  Loses most = (k : ℕ) → 2 ^ k ≤ most → Fails s q (2 ^ k)

  pub loses_none : Loses 0
  loses_none k within = let some = pow_pos k in absurd (omega (arith, some, within))

  -- one doubling more with which it does not win
  pub loses_next : (last next most : ℕ) → IsGap last → Loses last → next ≡ min (max (2 * last) 1) most → Fails s q next → Loses next
  loses_next last next most gap before is here k within = elim (cases_lt (2 ^ k) (max (2 * last) 1)) [
    | inl less ↦ before k (gap k less)
    | inr more ↦ let same : next ≡ 2 ^ k = omega (arith, is, more, within) in subst (Fails s q) same here
  ]

  -- a number above the last one with which it does not win, and at most its double
  pub doubled_up_to : (last value : ℕ) → IsGap last → Loses last → value ≤ max (2 * last) 1 → NoneWins s q value
  doubled_up_to last value gap before to k below = before k (gap k (omega (arith, below, to)))

  -- the last number itself
  pub doubled_to_end : (value : ℕ) → Loses value → NoneWins s q value
  doubled_to_end value all k below = all k (omega (arith, below))
