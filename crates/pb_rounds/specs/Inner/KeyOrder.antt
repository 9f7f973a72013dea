-- That the order of keys is an order.
use Rattle.std.proofs.Common.{◌≡◌, ℕ, ◌*◌, ◌<◌, true, refl, sym, ◌∙◌, ap, inl, inr, arith}
use Rattle.std.specs.Prelude.{Bool, ◌==◌, ◌&&◌, max}
use Rattle.std.specs.Cmp.{IsTotalOrder, Equal-is, both_ways, then_total, on_total, nat_cmp_total, ranks}
use Rattle.std.specs.Cmp.{tied_itself}
use Rattle.std.specs.Ordering.{is_eq, nat_cmp, ordering_then}
use Rattle.std.specs.declared.cmp.Ordering.{Ordering}
use Rattle.std.specs.declared.cmp.Ordering.TheVariants.{Less, Equal, Greater}
use Rattle.std.proofs.lemmas.Bool.{true≢false, cases_lt, cases_eq, lt-ltb, le-ltb, ne_eqb, eqb-true, eq-eqb}
use Rattle.std.proofs.lemmas.Bool.{and_parts, and_from}
use Rattle.std.proofs.Math.Nat.{mul-lt-mul_of_pos_right, mul-pos}
use Rattle.pb_rounds.specs.Key.{KeyView, divisor, key_cmp}

-- by the amount of the price over the payers and the weight, which are at least 1
abbrev pub ratio_cmp : KeyView → KeyView → Ordering
ratio_cmp a b = nat_cmp (a.price.amount * divisor b) (b.price.amount * divisor a)

pub divisor_positive : (k : KeyView) → 0 < divisor k
divisor_positive k = mul-pos (omega arith) (omega arith)

pub less_from : (x y : ℕ) → x < y → nat_cmp x y ≡ Less
less_from x y h = rw (lt-ltb x y h) refl

pub greater_from : (x y : ℕ) → y < x → nat_cmp x y ≡ Greater
greater_from x y h =
    let other : x ≡ y → ⊥ = λ e. omega (arith, e) in
    rw (le-ltb x y (omega arith), ne_eqb x y other) refl

-- numbers compare as their multiples do
scaled : (x y k : ℕ) → 0 < k → nat_cmp (x * k) (y * k) ≡ nat_cmp x y
scaled x y k h = elim (cases_lt x y) [
  | inl less ↦ less_from (x * k) (y * k) (mul-lt-mul_of_pos_right less h) ∙ sym (less_from x y less)
  | inr least ↦ elim (cases_eq x y) [
    | inl same ↦ ap (λ n. nat_cmp (n * k) (y * k)) same ∙ tied_itself nat_cmp_total (y * k)
        ∙ sym (ap (λ n. nat_cmp n y) same ∙ tied_itself nat_cmp_total y)
    | inr other ↦
        let more : y < x = omega arith in
        greater_from (x * k) (y * k) (mul-lt-mul_of_pos_right more h) ∙ sym (greater_from x y more)
  ]
]

module _ (a b c u v w : ℕ) (hu : 0 < u) (hv : 0 < v) (hw : 0 < w) where
  -- both ratios by the third weight
  third : nat_cmp (a * w) (c * u) ≡ nat_cmp (a * v * w) (c * v * u)
  third =
      let left : a * w * v ≡ a * v * w = omega arith in
      let right : c * u * v ≡ c * v * u = omega arith in
      sym (scaled (a * w) (c * u) v hv) ∙ ap (λ n. nat_cmp n (c * u * v)) left
      ∙ ap (nat_cmp (a * v * w)) right

  middle : b * u * w ≡ b * w * u
  middle = omega arith

  trans-ratios : nat_cmp (a * v) (b * u) ≡ Less → nat_cmp (b * w) (c * v) ≡ Less
      → nat_cmp (a * w) (c * u) ≡ Less
  trans-ratios first second =
      third ∙ nat_cmp_total.trans (a * v * w) (b * u * w) (c * v * u) (scaled (a * v) (b * u) w hw ∙ first)
      (ap (λ n. nat_cmp n (c * v * u)) middle ∙ scaled (b * w) (c * v) u hu ∙ second)

  congr-ratios : nat_cmp (a * v) (b * u) ≡ Equal → nat_cmp (a * w) (c * u) ≡ nat_cmp (b * w) (c * v)
  congr-ratios same =
      third ∙ nat_cmp_total.congr (a * v * w) (b * u * w) (c * v * u) (scaled (a * v) (b * u) w hw ∙ same)
      ∙ ap (λ n. nat_cmp n (c * v * u)) middle ∙ scaled (b * w) (c * v) u hu

ratio-total : IsTotalOrder ratio_cmp
ratio-total = record {
  antisymm = λ a b. nat_cmp_total.antisymm (a.price.amount * divisor b) (b.price.amount * divisor a);
  trans = λ a b c.
      trans-ratios a.price.amount b.price.amount c.price.amount (divisor a) (divisor b) (divisor c)
      (divisor_positive a) (divisor_positive b) (divisor_positive c);
  congr = λ a b c.
      congr-ratios a.price.amount b.price.amount c.price.amount (divisor a) (divisor b) (divisor c)
      (divisor_positive a) (divisor_positive b) (divisor_positive c);
}

pub key_cmp-total : IsTotalOrder key_cmp
key_cmp-total =
    then_total ratio-total
    (then_total (on_total (λ k. k.place) nat_cmp_total)
    (then_total (on_total (λ k. k.weight) nat_cmp_total) (on_total (λ k. k.price.payers) nat_cmp_total)))

then_equal : (o p : Ordering) → ordering_then o p ≡ Equal → (o ≡ Equal) × (p ≡ Equal)
then_equal Less p e = absurd (true≢false (sym (ap is_eq e)))
then_equal Equal p e = (refl, e)
then_equal Greater p e = absurd (true≢false (sym (ap is_eq e)))

equal_numbers : (x y : ℕ) → nat_cmp x y ≡ Equal → x ≡ y
equal_numbers x y e = rw e at (ranks x y)

same_fields : (a b : KeyView) → a.price.amount ≡ b.price.amount → a.price.payers ≡ b.price.payers → a.weight ≡ b.weight → a.place ≡ b.place → a ≡ b
same_fields a b amount payers weight place =
    ap (λ n. record { price = record { amount = n; payers = a.price.payers }; weight = a.weight; place = a.place }) amount
    ∙ ap (λ n. record { price = record { amount = b.price.amount; payers = n }; weight = a.weight; place = a.place }) payers
    ∙ ap (λ n. record { price = b.price; weight = n; place = a.place }) weight
    ∙ ap (λ n. record { price = b.price; weight = b.weight; place = n }) place

-- keys that the order does not tell apart are equal
pub tied_keys : (a b : KeyView) → key_cmp a b ≡ Equal → a ≡ b
tied_keys a b e =
    let parts = then_equal _ _ e in
    let later = then_equal _ _ parts.1 in
    let last = then_equal _ _ later.1 in
    let place : a.place ≡ b.place = equal_numbers _ _ later.0 in
    let weight : a.weight ≡ b.weight = equal_numbers _ _ last.0 in
    let payers : a.price.payers ≡ b.price.payers = equal_numbers _ _ last.1 in
    let divisors : divisor b ≡ divisor a = sym (ap (λ n. max 1 n * max 1 a.weight) payers ∙ ap (λ n. max 1 b.price.payers * max 1 n) weight) in
    let ratio : nat_cmp (a.price.amount * divisor a) (b.price.amount * divisor a) ≡ Equal =
    ap (λ n. nat_cmp (a.price.amount * n) (b.price.amount * divisor a)) (sym divisors) ∙ parts.0 in
    let scaled_price = scaled a.price.amount b.price.amount (divisor a) (divisor_positive a) in
    let amount : a.price.amount ≡ b.price.amount = equal_numbers _ _ (sym scaled_price ∙ ratio) in
    same_fields a b amount payers weight place

-- whether all fields of two keys are equal, in the order in which the code has them
abbrev pub have_equal_fields : KeyView → KeyView → Bool
have_equal_fields a b = (a.price.amount == b.price.amount)
    && ((a.weight == b.weight) && ((a.price.payers == b.price.payers) && (a.place == b.place)))

tie_from_fields : (a b : KeyView) → have_equal_fields a b ≡ true → is_eq (key_cmp a b) ≡ true
tie_from_fields a b e =
    let parts = and_parts _ _ e in
    let later = and_parts _ _ parts.1 in
    let last = and_parts _ _ later.1 in
    let same = same_fields a b (eqb-true _ _ parts.0) (eqb-true _ _ last.0) (eqb-true _ _ later.0) (eqb-true _ _ last.1) in
    ap (λ c. is_eq (key_cmp a c)) (sym same) ∙ ap is_eq (tied_itself key_cmp-total a)

fields_from_tie : (a b : KeyView) → is_eq (key_cmp a b) ≡ true → have_equal_fields a b ≡ true
fields_from_tie a b e =
    let same = tied_keys a b ((Equal-is (key_cmp a b)).0 e) in
    and_from _ _ (eq-eqb _ _ (ap (λ (c : KeyView). c.price.amount) same))
    (and_from _ _ (eq-eqb _ _ (ap (λ (c : KeyView). c.weight) same))
    (and_from _ _ (eq-eqb _ _ (ap (λ (c : KeyView). c.price.payers) same))
    (eq-eqb _ _ (ap (λ (c : KeyView). c.place) same))))

-- all fields are equal just where the order does not tell the keys apart
pub fields_tie : (a b : KeyView) → have_equal_fields a b ≡ is_eq (key_cmp a b)
fields_tie a b = both_ways _ _ (tie_from_fields a b) (fields_from_tie a b)
