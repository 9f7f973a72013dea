-- Unrounded prices: one for each project that can be paid; what they are to each other and to payments of whole parts.
use Rattle.std.proofs.Common.{◌≡◌, ℕ, zero, suc, ◌+◌, ◌-◌, ◌*◌, ◌/◌, ◌%◌, ◌<◌, ◌≤◌, min, Bool, true, false, cond, List, [], ◌∷◌, length, refl, sym, subst, ◌∙◌, ap, inl, inr, arith}
use Rattle.std.specs.Prelude.{◌⊎◌, count_by, nat_le, slice_index, sum_by}
use Rattle.std.proofs.Math.Nat.{mul-le-mul_left, mul-le-mul_right, mul-lt-mul_of_pos_right, le_of_mul-le-mul_left, eq_of_mul-eq-mul_left}
use Rattle.std.specs.Cmp.{both_ways}
use Rattle.std.proofs.lemmas.Bool.{cases_eq, cases_lt, le-leb, leb-true, lt-leb}
use Rattle.std.proofs.lemmas.Grind.{div_ceil_times}
use Rattle.std.proofs.lemmas.List.Sums.{count_by-le-length, sum_by-le}
use Rattle.pb_price.specs.Inner.Lists.{NoRestRises}
use Rattle.pb_price.specs.Inner.Payment.{payers_from, total_below}
use Rattle.pb_price.specs.Price.{IsLeastPayment, IsUnrounded, PriceView, paid_at, price_from, total_rest}
use Rattle.pb_price.specs.declared.grain.Grain.TheVariants.{Fine}
use Rattle.pb_price.proofs.PairSums.{same_sums, sums_at_most}

-- the price is less than the other, or they are the same
abbrev pub IsBelow : PriceView → PriceView → Type 0
IsBelow p q = (p.amount * q.payers < q.amount * p.payers) ⊎ (p ≡ q)

-- 1 where the test passes
abbrev pub one_if : Bool → ℕ
one_if b = cond b 1 0

-- what is left to who does not pass
abbrev pub rest_unless : Bool → ℕ → ℕ
rest_unless b rest = cond b 0 rest

-- a voter has enough left to pay it in full
abbrev pub is_payer : PriceView → ℕ → Bool
is_payer p rest = nat_le p.amount (p.payers * rest)

-- ---- two prices, the later one at rests that did not rise

module _ (n d m e before after : ℕ) (falls : after ≤ before) where
  lower_pays : e * after ≤ e * before
  lower_pays = mul-le-mul_left e falls

  -- at a smaller ratio nobody pays more, and who pays the larger one in full pays less
  smaller_pays : m * d < n * e → d * min (e * after) m + 1 * one_if (nat_le n (d * before)) ≤ e * min (d * before) n + 0 * zero + 0 * zero
  smaller_pays less = elim (cases_lt (d * before) n) [
    | inl poor ↦
        let test : one_if (nat_le n (d * before)) ≡ 0 = ap one_if (lt-leb n (d * before) poor) in
        let all : e * min (d * before) n ≡ e * (d * before) = ap (λ k. e * k) (omega (arith, poor)) in
        let part : d * min (e * after) m ≤ d * (e * before) = mul-le-mul_left d (omega (arith, lower_pays)) in
        omega (arith, test, all, part)
    | inr rich ↦
        let test : one_if (nat_le n (d * before)) ≡ 1 = ap one_if (le-leb n (d * before) (omega (arith, rich))) in
        let all : e * min (d * before) n ≡ e * n = ap (λ k. e * k) (omega (arith, rich)) in
        let part : d * min (e * after) m ≤ d * m = mul-le-mul_left d (omega arith) in
        omega (arith, test, all, part, less)
  ]

  -- at the same ratio who pays in full only before pays less
  same_pays : m * d ≡ n * e → 0 < d
      → d * min (e * after) m + 1 * one_if (nat_le n (d * before)) ≤ e * min (d * before) n + 1 * one_if (nat_le m (e * after)) + 0 * zero
  same_pays same some = elim (cases_lt (d * before) n) [
    | inl poor ↦
        let test : one_if (nat_le n (d * before)) ≡ 0 = ap one_if (lt-leb n (d * before) poor) in
        let all : e * min (d * before) n ≡ e * (d * before) = ap (λ k. e * k) (omega (arith, poor)) in
        let part : d * min (e * after) m ≤ d * (e * before) = mul-le-mul_left d (omega (arith, lower_pays)) in
        omega (arith, test, all, part)
    | inr rich ↦
        let test : one_if (nat_le n (d * before)) ≡ 1 = ap one_if (le-leb n (d * before) (omega (arith, rich))) in
        let all : e * min (d * before) n ≡ e * n = ap (λ k. e * k) (omega (arith, rich)) in
        elim (cases_lt (e * after) m) [
          | inl short ↦
              let part : d * min (e * after) m ≡ d * (e * after) = ap (λ k. d * k) (omega (arith, short)) in
              let less : d * suc (e * after) ≤ d * m = mul-le-mul_left d (omega (arith, short)) in
              omega (arith, test, all, part, less, same, some)
          | inr still ↦
              let other : one_if (nat_le m (e * after)) ≡ 1 = ap one_if (le-leb m (e * after) (omega (arith, still))) in
              let part : d * min (e * after) m ≤ d * m = mul-le-mul_left d (omega arith) in
              omega (arith, test, all, part, other, same)
        ]
  ]

  -- at the same ratio who can pay in full could before
  payer_before : m * d ≡ n * e → 0 < e
      → 1 * one_if (nat_le m (e * after)) + 0 * zero ≤ 1 * one_if (nat_le n (d * before)) + 0 * zero + 0 * zero
  payer_before same some = elim (cases_lt (e * after) m) [
    | inl short ↦
        let test : one_if (nat_le m (e * after)) ≡ 0 = ap one_if (lt-leb m (e * after) short) in omega (arith, test)
    | inr still ↦
        let test : one_if (nat_le m (e * after)) ≡ 1 = ap one_if (le-leb m (e * after) (omega (arith, still))) in
        let scaled : m * d ≤ e * after * d = mul-le-mul_right d (omega (arith, still)) in
        let more : e * after * d ≤ e * before * d = mul-le-mul_right d lower_pays in
        let paid : e * n ≤ e * (d * before) = omega (arith, scaled, more, same) in
        let other : one_if (nat_le n (d * before)) ≡ 1 = ap one_if (le-leb n (d * before) (le_of_mul-le-mul_left paid some)) in
        omega (arith, test, other)
  ]

pub same_price : (p q : PriceView) → p.amount ≡ q.amount → p.payers ≡ q.payers → p ≡ q
same_price p q amount payers =
    ap (λ n. record { amount = n; payers = p.payers }) amount ∙ ap (λ n. record { amount = q.amount; payers = n }) payers

-- of two prices of one ratio and as many payers the amounts are one
pub one_amount : (p q : PriceView) → 0 < p.payers → p.payers ≡ q.payers → q.amount * p.payers ≡ p.amount * q.payers → p ≡ q
one_amount p q some payers same =
    let there : p.payers * q.amount ≡ p.payers * p.amount =
    let fewer : p.amount * q.payers ≡ p.amount * p.payers = ap (λ n. p.amount * n) (sym payers) in omega (arith, same, fewer) in
    same_price p q (sym (eq_of_mul-eq-mul_left p.payers some q.amount p.amount there)) payers

-- the prices of one project, at rests of which none rises
module _ (supporters before after : List ℕ) (falls : NoRestRises before after) (cost : ℕ) (p q : PriceView)
    (earlier : IsUnrounded supporters before cost p) (later : IsUnrounded supporters after cost q) where
  paid_before : q.payers * sum_by (λ v. min (p.payers * slice_index before v) p.amount) supporters ≡ q.payers * (p.payers * cost)
  paid_before = ap (λ n. q.payers * n) earlier.exactly

  paid_after : p.payers * sum_by (λ v. min (q.payers * slice_index after v) q.amount) supporters ≡ p.payers * (q.payers * cost)
  paid_after = ap (λ n. p.payers * n) later.exactly

  no_smaller : q.amount * p.payers < p.amount * q.payers → ⊥
  no_smaller less =
      let sums = sums_at_most p.payers 1 q.payers 0 0 (λ v. min (q.payers * slice_index after v) q.amount) (λ v. one_if (is_payer p (slice_index before v)))
      (λ v. min (p.payers * slice_index before v) p.amount) (λ v. zero) (λ v. zero)
      (λ v. smaller_pays p.amount p.payers q.amount q.payers (slice_index before v) (slice_index after v) (falls v) less) supporters in
      omega (arith, sums, paid_before, paid_after, earlier.in_full, earlier.some)

  same_payers : q.amount * p.payers ≡ p.amount * q.payers → p.payers ≡ q.payers
  same_payers same =
      let sums = sums_at_most p.payers 1 q.payers 1 0 (λ v. min (q.payers * slice_index after v) q.amount) (λ v. one_if (is_payer p (slice_index before v)))
      (λ v. min (p.payers * slice_index before v) p.amount) (λ v. one_if (is_payer q (slice_index after v))) (λ v. zero)
      (λ v. same_pays p.amount p.payers q.amount q.payers (slice_index before v) (slice_index after v) (falls v) same earlier.some) supporters in
      let back = sums_at_most 1 0 1 0 0 (λ v. one_if (is_payer q (slice_index after v))) (λ v. zero) (λ v. one_if (is_payer p (slice_index before v))) (λ v. zero) (λ v. zero)
      (λ v. payer_before p.amount p.payers q.amount q.payers (slice_index before v) (slice_index after v) (falls v) same later.some) supporters in
      omega (arith, sums, back, paid_before, paid_after, earlier.in_full, later.in_full)

  -- the later one is higher, or the same
  pub unrounded_rises : IsBelow p q
  unrounded_rises = elim (cases_lt (q.amount * p.payers) (p.amount * q.payers)) [
    | inl less ↦ absurd (no_smaller less)
    | inr most ↦ elim (cases_eq (q.amount * p.payers) (p.amount * q.payers)) [
      | inl same ↦ inr (one_amount p q earlier.some (same_payers same) same)
      | inr other ↦ inl (omega (arith, most, other))
    ]
  ]

-- one price for each project
pub unrounded_is_unique : (supporters rests : List ℕ) (cost : ℕ) (p q : PriceView) → IsUnrounded supporters rests cost p → IsUnrounded supporters rests cost q → p ≡ q
unrounded_is_unique supporters rests cost p q one other =
    elim (unrounded_rises supporters rests rests (λ v. omega arith) cost p q one other) [
      | inl less ↦ elim (unrounded_rises supporters rests rests (λ v. omega arith) cost q p other one) [
        | inl more ↦ absurd (omega (arith, less, more))
        | inr same ↦ sym same
      ]
      | inr same ↦ same
    ]

-- ---- who pays in full, and what the others have

module _ (n d rest : ℕ) where
  split_one : d * rest_unless (nat_le n (d * rest)) rest + n * one_if (nat_le n (d * rest)) ≡ min (d * rest) n
  split_one = elim (cases_lt (d * rest) n) [
    | inl poor ↦ rw (lt-leb n (d * rest) poor) (omega (arith, poor))
    | inr rich ↦ rw (le-leb n (d * rest) (omega (arith, rich))) (omega (arith, rich))
  ]

module _ (supporters rests : List ℕ) (p : PriceView) where
  -- what those have together who can't pay it in full, and how many can
  abbrev pub poor_rests : ℕ
  poor_rests = sum_by (λ v. rest_unless (is_payer p (slice_index rests v)) (slice_index rests v)) supporters

  abbrev pub rich_count : ℕ
  rich_count = count_by (λ v. is_payer p (slice_index rests v)) supporters

  pub paid_by_split : p.payers * poor_rests + p.amount * rich_count ≡ sum_by (λ v. min (p.payers * slice_index rests v) p.amount) supporters
  paid_by_split =
      let most = sums_at_most p.payers p.amount 1 0 0 (λ v. rest_unless (is_payer p (slice_index rests v)) (slice_index rests v)) (λ v. one_if (is_payer p (slice_index rests v)))
      (λ v. min (p.payers * slice_index rests v) p.amount) (λ v. zero) (λ v. zero) (λ v. let here = split_one p.amount p.payers (slice_index rests v) in omega (arith, here)) supporters in
      let least = sums_at_most 1 0 p.payers p.amount 0 (λ v. min (p.payers * slice_index rests v) p.amount) (λ v. zero)
      (λ v. rest_unless (is_payer p (slice_index rests v)) (slice_index rests v)) (λ v. one_if (is_payer p (slice_index rests v))) (λ v. zero)
      (λ v. let here = split_one p.amount p.payers (slice_index rests v) in omega (arith, here)) supporters in
      omega (arith, most, least)

-- ---- a payment of whole parts that tells the same people apart

-- whoever has the payment left can pay the price in full, and nobody else
abbrev pub TellsPayers : ℕ → PriceView → Type 0
TellsPayers payment p = (rest : ℕ) → nat_le payment rest ≡ is_payer p rest

module _ (supporters rests : List ℕ) (payment : ℕ) (p : PriceView) (tells : TellsPayers payment p) where
  pub below_is_poor : total_below supporters rests payment ≡ poor_rests supporters rests p
  below_is_poor = same_sums _ _ (λ v. ap (λ b. rest_unless b (slice_index rests v)) (tells (slice_index rests v))) supporters

  pub from_is_rich : payers_from supporters rests payment ≡ rich_count supporters rests p
  from_is_rich = same_sums _ _ (λ v. ap one_if (tells (slice_index rests v))) supporters

-- the price rounded up does so
pub rounded_up_tells : (p : PriceView) → 0 < p.payers → TellsPayers (p.amount / p.payers + min 1 (p.amount % p.payers)) p
rounded_up_tells p some rest = both_ways _ _ there back
  where
    up : ℕ
    up = p.amount / p.payers + min 1 (p.amount % p.payers)

    there : nat_le up rest ≡ true → is_payer p rest ≡ true
    there h =
        let most : up * p.payers ≤ rest * p.payers = mul-le-mul_right p.payers (leb-true up rest h) in
        let bounds = div_ceil_times p.amount p.payers some in
        le-leb p.amount (p.payers * rest) (omega (arith, most, bounds.0))

    back : is_payer p rest ≡ true → nat_le up rest ≡ true
    back h = elim (cases_lt rest up) [
      | inl less ↦
          let most : suc rest * p.payers ≤ up * p.payers = mul-le-mul_right p.payers (omega (arith, less)) in
          let bounds = div_ceil_times p.amount p.payers some in
          let enough = leb-true p.amount (p.payers * rest) h in
          absurd (omega (arith, most, bounds.1, enough))
      | inr enough ↦ le-leb up rest (omega (arith, enough))
    ]

-- two prices that the same rests can pay
module _ (supporters rests : List ℕ) (p q : PriceView) (tests : (rest : ℕ) → is_payer p rest ≡ is_payer q rest) where
  pub same_rich : rich_count supporters rests p ≡ rich_count supporters rests q
  same_rich = same_sums _ _ (λ v. ap one_if (tests (slice_index rests v))) supporters

  pub same_poor : poor_rests supporters rests p ≡ poor_rests supporters rests q
  same_poor = same_sums _ _ (λ v. ap (λ b. rest_unless b (slice_index rests v)) (tests (slice_index rests v))) supporters
