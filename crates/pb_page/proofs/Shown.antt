-- An amount as people write it, by its digits.
use Rattle.std.proofs.Common.{◌≡◌, ◌<◌, ◌≤◌, ℕ, ◌+◌, ◌*◌, ◌/◌, ◌%◌, ◌^◌, Bool, List, [], ◌∷◌, ◌++◌, decimal, inl, inr, refl, sym, ◌∙◌, ap, arith}
use Rattle.std.specs.Prelude.{◌&&◌, ◌==◌, if◌then◌else◌}
use Rattle.std.proofs.lemmas.Bool.{cases_lt, eq-eqb, le-ltb, lt-ltb, ne_eqb}
use Rattle.std.proofs.lemmas.Fmt.{decimal_by_steps}
use Rattle.pb_page.specs.Amount.{decimals, grouped, shown}
use Rattle.pb_page.specs.declared.markup.form.Form.{Form}

-- the digits of a number below 100
abbrev HasDigits : ℕ → List ℕ → Type 0
HasDigits n ds = (n < 10 → ds ≡ (48 + n) ∷ []) × (10 ≤ n → n < 100 → ds ≡ (48 + n / 10) ∷ (48 + n % 10) ∷ [])

digits_are : (n : ℕ) → n < 2 ^ 64 → HasDigits n (decimal n)
digits_are = decimal_by_steps HasDigits
    (λ n small. (λ less. refl, λ more below. absurd (omega arith)))
    (λ n ds large before. (λ less. absurd (omega arith), λ more below. ap (λ (t : List ℕ). t ++ (48 + n % 10) ∷ []) (before.0 (omega arith))))

none_alike : (c s : ℕ) → (c ≡ 0 → s ≡ 0) → (s ≡ 0 → c ≡ 0) → (c == 0) ≡ (s == 0)
none_alike c s there back = elim (cases_lt c 1) [
  | inl less ↦ let none : c ≡ 0 = omega arith in eq-eqb c 0 none ∙ sym (eq-eqb s 0 (there none))
  | inr more ↦ ne_eqb c 0 (λ e. absurd (omega arith)) ∙ sym (ne_eqb s 0 (λ e. absurd (omega (arith, back e))))
]

abbrev two : (tens ones : ℕ) → List ℕ
two tens ones = (48 + tens) ∷ (48 + ones) ∷ []

abbrev cents : Form → (none : Bool) → (digits : List ℕ) → List ℕ
cents form none digits = if form.is_whole && none then [] else form.point.now ++ digits

decimals_are : (form : Form) (c tens ones : ℕ) → c ≡ 10 * tens + ones → tens < 10 → ones < 10
    → decimals form c ≡ cents form (tens + ones == 0) (two tens ones)
decimals_are form c tens ones is few_tens few_ones =
    let digits = digits_are c (omega (arith, is)) in
    let none = none_alike c (tens + ones) (λ e. omega (arith, is, e)) (λ e. omega (arith, is, e)) in
    elim (cases_lt c 10) [
      | inl less ↦
          let no_tens : tens ≡ 0 = omega (arith, is) in let all : c ≡ ones = omega (arith, is, no_tens) in
          rw (lt-ltb c 10 less, digits.0 less) (ap (λ (b : Bool). cents form b (48 ∷ (48 + c) ∷ [])) none
          ∙ ap (λ (n : ℕ). cents form (tens + ones == 0) (48 ∷ (48 + n) ∷ [])) all
          ∙ ap (λ (n : ℕ). cents form (tens + ones == 0) ((48 + n) ∷ (48 + ones) ∷ [])) (sym no_tens))
      | inr more ↦
          let tens_are : c / 10 ≡ tens = omega (arith, is) in let ones_are : c % 10 ≡ ones = omega (arith, is) in
          rw (le-ltb c 10 more, digits.1 more (omega (arith, is))) (ap (λ (b : Bool). cents form b (two (c / 10) (c % 10))) none
          ∙ ap (λ (n : ℕ). cents form (tens + ones == 0) (two n (c % 10))) tens_are
          ∙ ap (λ (n : ℕ). cents form (tens + ones == 0) (two tens n)) ones_are)
    ]

pub amounts_stand : (form : Form) (units tens ones : ℕ) → tens < 10 → ones < 10
    → shown form (100 * units + (10 * tens + ones)) ≡ form.before.now ++ (grouped form.group.now (decimal units)
    ++ ((if form.is_whole && (tens + ones == 0) then [] else form.point.now ++ (48 + tens) ∷ (48 + ones) ∷ []) ++ form.after.now))
amounts_stand form units tens ones few_tens few_ones =
    let h = 100 * units + (10 * tens + ones) in
    let units_are : h / 100 ≡ units = omega arith in let rest_is : h % 100 ≡ 10 * tens + ones = omega arith in
    ap (λ (n : ℕ). form.before.now ++ (grouped form.group.now (decimal n) ++ (decimals form (h % 100) ++ form.after.now))) units_are
    ∙ ap (λ (t : List ℕ). form.before.now ++ (grouped form.group.now (decimal units) ++ (t ++ form.after.now)))
    (decimals_are form (h % 100) tens ones rest_is few_tens few_ones)
