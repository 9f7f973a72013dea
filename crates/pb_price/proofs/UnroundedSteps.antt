-- Unrounded prices from payments of whole parts, and in steps from a lower bound.
use Rattle.std.proofs.Common.{◌≡◌, ℕ, zero, suc, ◌+◌, ◌-◌, ◌*◌, ◌<◌, ◌≤◌, min, Bool, List, [], ◌∷◌, length, refl, sym, subst, ◌∙◌, ap, inl, inr, arith}
use Rattle.std.specs.Prelude.{All, count_by, nat_le, slice_index, sum_by}
use Rattle.std.specs.Cmp.{both_ways}
use Rattle.std.proofs.Math.Nat.{mul-le-mul_left, mul-le-mul_right, le_of_mul-le-mul_left, lt_of_mul-lt-mul_left, eq_of_mul-eq-mul_left}
use Rattle.std.proofs.lemmas.Bool.{cases_eq, cases_lt, le-leb, leb-true, leb-false, lt-leb}
use Rattle.std.proofs.lemmas.List.Elements.{All-tail}
use Rattle.std.proofs.lemmas.List.Sums.{count_by-le-length, sum_by-cons}
use Rattle.pb_price.specs.Inner.Payment.{payers_from, total_below}
use Rattle.pb_price.specs.Price.{IsLeastPayment, IsUnrounded, PriceView, paid_at, price_from, total_rest}
use Rattle.pb_price.specs.declared.grain.Grain.TheVariants.{Fine}
use Rattle.pb_price.proofs.PairSums.{sums_at_most}
use Rattle.pb_price.proofs.Payments.{paid_at-le-total_rest, paid_at-zero}
use Rattle.pb_price.proofs.Unrounded.{IsBelow, TellsPayers, below_is_poor, from_is_rich, is_payer, one_amount, one_if, rest_unless, paid_by_split, poor_rests, rich_count, same_poor, same_rich, unrounded_is_unique}

-- ---- from the least payment of whole parts

module _ (supporters rests : List ℕ) (payment : ℕ) where
  pay_one : (rest : ℕ) → rest_unless (nat_le payment rest) rest + payment * one_if (nat_le payment rest) ≡ min rest payment
  pay_one rest = elim (cases_lt rest payment) [
    | inl poor ↦ rw (lt-leb payment rest poor) (omega (arith, poor))
    | inr rich ↦ rw (le-leb payment rest (omega (arith, rich))) (omega (arith, rich))
  ]

  pay_one_less : (rest : ℕ) → 0 < payment
      → min rest (payment - 1) ≡ rest_unless (nat_le payment rest) rest + (payment - 1) * one_if (nat_le payment rest)
  pay_one_less rest some = elim (cases_lt rest payment) [
    | inl poor ↦ rw (lt-leb payment rest poor) (omega (arith, poor, some))
    | inr rich ↦ rw (le-leb payment rest (omega (arith, rich))) (omega (arith, rich, some))
  ]

  -- what is paid at the payment, and at one part less
  pub paid_split : total_below supporters rests payment + payment * payers_from supporters rests payment ≡ paid_at supporters rests payment
  paid_split =
      let most = sums_at_most 1 payment 1 0 0 (λ v. rest_unless (nat_le payment (slice_index rests v)) (slice_index rests v)) (λ v. one_if (nat_le payment (slice_index rests v)))
      (λ v. min (slice_index rests v) payment) (λ v. zero) (λ v. zero) (λ v. let here = pay_one (slice_index rests v) in omega (arith, here)) supporters in
      let least = sums_at_most 1 0 1 payment 0 (λ v. min (slice_index rests v) payment) (λ v. zero)
      (λ v. rest_unless (nat_le payment (slice_index rests v)) (slice_index rests v)) (λ v. one_if (nat_le payment (slice_index rests v))) (λ v. zero)
      (λ v. let here = pay_one (slice_index rests v) in omega (arith, here)) supporters in
      omega (arith, most, least)

  pub paid_less_split : 0 < payment
      → total_below supporters rests payment + (payment - 1) * payers_from supporters rests payment ≤ paid_at supporters rests (payment - 1)
  paid_less_split some =
      let most = sums_at_most 1 (payment - 1) 1 0 0 (λ v. rest_unless (nat_le payment (slice_index rests v)) (slice_index rests v)) (λ v. one_if (nat_le payment (slice_index rests v)))
      (λ v. min (slice_index rests v) (payment - 1)) (λ v. zero) (λ v. zero) (λ v. let here = pay_one_less (slice_index rests v) some in omega (arith, here)) supporters in
      omega (arith, most)

module _ (supporters rests : List ℕ) (cost payment : ℕ) (some : 0 < cost) (least : IsLeastPayment supporters rests cost payment) where
  some_payment : 0 < payment
  some_payment = elim (cases_lt 0 payment) [
    | inl more ↦ more
    | inr none ↦
        let nothing : paid_at supporters rests payment ≡ 0 = ap (paid_at supporters rests) (omega (arith, none)) ∙ paid_at-zero supporters rests in
        absurd (omega (arith, nothing, least.covers, some))
  ]

  abbrev pub found : PriceView
  found = price_from Fine supporters rests cost payment

  -- the amount is what the others leave of the cost
  found_amount : found.amount + total_below supporters rests payment ≡ cost
  found_amount =
      let paid = paid_split supporters rests payment in
      let less = paid_less_split supporters rests payment some_payment in
      let short = least.least (payment - 1) (omega (arith, some_payment)) in
      omega (arith, paid, less, short)

  -- it is above all payments of one part less, and at most the payment
  found_above : (payment - 1) * found.payers < found.amount
  found_above =
      let less = paid_less_split supporters rests payment some_payment in
      let short = least.least (payment - 1) (omega (arith, some_payment)) in
      omega (arith, less, short, found_amount)

  found_within : found.amount ≤ payment * found.payers
  found_within = omega (arith, paid_split supporters rests payment, least.covers, found_amount)

  some_payers : 0 < found.payers
  some_payers = elim (cases_lt 0 found.payers) [
    | inl more ↦ more
    | inr none ↦
        let none_is : found.payers ≡ 0 = omega (arith, none) in
        let nothing : payment * found.payers ≡ payment * 0 = ap (λ n. payment * n) none_is in
        absurd (omega (arith, nothing, found_within, found_above))
  ]

  found_tells : TellsPayers payment found
  found_tells rest = both_ways _ _
      (λ h. let most : payment * found.payers ≤ rest * found.payers = mul-le-mul_right found.payers (leb-true payment rest h) in
      le-leb found.amount (found.payers * rest) (omega (arith, most, found_within)))
      (λ h. elim (cases_lt rest payment) [
        | inl less ↦
            let most : rest * found.payers ≤ (payment - 1) * found.payers = mul-le-mul_right found.payers (omega (arith, less)) in
            let enough = leb-true found.amount (found.payers * rest) h in
            absurd (omega (arith, most, enough, found_above))
        | inr enough ↦ le-leb payment rest (omega (arith, enough))
      ])

  -- the price that is computed from it is unrounded
  pub unrounded_from_least : IsUnrounded supporters rests cost found
  unrounded_from_least = record {
    some = some_payers;
    in_full = from_is_rich supporters rests payment found found_tells;
    exactly =
        let poor = below_is_poor supporters rests payment found found_tells in
        let rich = from_is_rich supporters rests payment found found_tells in
        let paid = paid_by_split supporters rests found in
        let others : found.payers * poor_rests supporters rests found ≡ found.payers * total_below supporters rests payment = ap (λ n. found.payers * n) (sym poor) in
        let all : found.amount * rich_count supporters rests found ≡ found.amount * found.payers = ap (λ n. found.amount * n) (sym rich) in
        let whole : found.payers * cost ≡ found.payers * (found.amount + total_below supporters rests payment) = ap (λ n. found.payers * n) (sym found_amount) in
        omega (arith, others, all, whole, paid);
  }

-- ---- a price, as it is to the rests together

module _ (supporters rests : List ℕ) (cost : ℕ) (p : PriceView) (price : IsUnrounded supporters rests cost p) where
  -- there is one only where the rests together cover the cost
  pub unrounded_covers : cost ≤ total_rest supporters rests
  unrounded_covers =
      let sums = sums_at_most 1 0 p.payers 0 0 (λ v. min (p.payers * slice_index rests v) p.amount) (λ v. zero) (λ v. slice_index rests v) (λ v. zero) (λ v. zero)
      (λ v. omega arith) supporters in
      let within : p.payers * cost ≤ p.payers * total_rest supporters rests = omega (arith, sums, price.exactly) in
      le_of_mul-le-mul_left within price.some

  -- it is paid by supporters
  pub few_payers : p.payers ≤ length supporters
  few_payers = let few = count_by-le-length (λ v. is_payer p (slice_index rests v)) supporters in omega (arith, few, price.in_full)

  pub amount_within : p.amount ≤ cost
  amount_within =
      let paid = paid_by_split supporters rests p in
      let all : p.amount * rich_count supporters rests p ≡ p.amount * p.payers = ap (λ n. p.amount * n) (sym price.in_full) in
      let within : p.payers * p.amount ≤ p.payers * cost = omega (arith, paid, all, price.exactly) in
      le_of_mul-le-mul_left within price.some

-- ---- one step from a lower bound

-- a bound n over d, and a price m over e that is not below it, for a voter who has this rest
module _ (n d m e rest : ℕ) (some : 0 < d) (payers : 0 < e) (less : n * e ≤ m * d) where
  -- who can't pay the bound has less than the price
  poor_has_less : d * rest < n → e * rest < m
  poor_has_less poor =
      let strict : suc (d * rest) * e ≤ n * e = mul-le-mul_right e (omega (arith, poor)) in
      let within : d * (e * rest) < d * m = omega (arith, strict, less, payers) in
      lt_of_mul-lt-mul_left d within

  poor_pays : e * rest_unless (nat_le n (d * rest)) rest + 0 * zero ≤ 1 * min (e * rest) m + 0 * zero + 0 * zero
  poor_pays = elim (cases_lt (d * rest) n) [
    | inl poor ↦
        let all : e * rest_unless (nat_le n (d * rest)) rest ≡ e * rest = ap (λ b. e * rest_unless b rest) (lt-leb n (d * rest) poor) in
        omega (arith, all, poor_has_less poor)
    | inr rich ↦
        let none : e * rest_unless (nat_le n (d * rest)) rest ≡ e * 0 = ap (λ b. e * rest_unless b rest) (le-leb n (d * rest) (omega (arith, rich))) in
        omega (arith, none)
  ]

  -- who can pay the price can pay the bound
  payer_of_both : 1 * one_if (nat_le m (e * rest)) + 0 * zero ≤ 1 * one_if (nat_le n (d * rest)) + 0 * zero + 0 * zero
  payer_of_both = elim (cases_lt (d * rest) n) [
    | inl poor ↦
        let test : one_if (nat_le m (e * rest)) ≡ 0 = ap (λ b. one_if b) (lt-leb m (e * rest) (poor_has_less poor)) in omega (arith, test)
    | inr rich ↦
        let other : one_if (nat_le n (d * rest)) ≡ 1 = ap (λ b. one_if b) (le-leb n (d * rest) (omega (arith, rich))) in
        elim (cases_lt (e * rest) m) [
          | inl short ↦ let test : one_if (nat_le m (e * rest)) ≡ 0 = ap (λ b. one_if b) (lt-leb m (e * rest) short) in omega (arith, test)
          | inr enough ↦
              let test : one_if (nat_le m (e * rest)) ≡ 1 = ap (λ b. one_if b) (le-leb m (e * rest) (omega (arith, enough))) in
              omega (arith, test, other)
        ]
  ]

  -- what is paid of the price: all that the poor have, and from the others the price, or at least one less
  price_pays : 1 * min (e * rest) m + 1 * one_if (nat_le n (d * rest))
      ≤ e * rest_unless (nat_le n (d * rest)) rest + m * one_if (nat_le n (d * rest)) + 1 * one_if (nat_le m (e * rest))
  price_pays = elim (cases_lt (d * rest) n) [
    | inl poor ↦
        let all : e * rest_unless (nat_le n (d * rest)) rest ≡ e * rest = ap (λ b. e * rest_unless b rest) (lt-leb n (d * rest) poor) in
        let none : m * one_if (nat_le n (d * rest)) ≡ m * 0 = ap (λ b. m * one_if b) (lt-leb n (d * rest) poor) in
        let test : one_if (nat_le n (d * rest)) ≡ 0 = ap (λ b. one_if b) (lt-leb n (d * rest) poor) in
        omega (arith, all, none, test)
    | inr rich ↦
        let none : e * rest_unless (nat_le n (d * rest)) rest ≡ e * 0 = ap (λ b. e * rest_unless b rest) (le-leb n (d * rest) (omega (arith, rich))) in
        let one : m * one_if (nat_le n (d * rest)) ≡ m * 1 = ap (λ b. m * one_if b) (le-leb n (d * rest) (omega (arith, rich))) in
        let test : one_if (nat_le n (d * rest)) ≡ 1 = ap (λ b. one_if b) (le-leb n (d * rest) (omega (arith, rich))) in
        elim (cases_lt (e * rest) m) [
          | inl short ↦ omega (arith, none, one, test, short)
          | inr enough ↦
              let payer : one_if (nat_le m (e * rest)) ≡ 1 = ap (λ b. one_if b) (le-leb m (e * rest) (omega (arith, enough))) in
              omega (arith, none, one, test, payer)
        ]
  ]

  -- the bound pays no more of the cost than the price
  bound_pays : e * min (d * rest) n + 0 * zero ≤ d * min (e * rest) m + 0 * zero + 0 * zero
  bound_pays = elim (cases_lt (e * rest) m) [
    | inl short ↦
        let all : d * min (e * rest) m ≡ d * (e * rest) = ap (λ k. d * k) (omega (arith, short)) in
        let part : e * min (d * rest) n ≤ e * (d * rest) = mul-le-mul_left e (omega arith) in
        omega (arith, all, part)
    | inr enough ↦
        let all : d * min (e * rest) m ≡ d * m = ap (λ k. d * k) (omega (arith, enough)) in
        let part : e * min (d * rest) n ≤ e * n = mul-le-mul_left e (omega arith) in
        omega (arith, all, part, less)
  ]

pub ratio_at_most : (p q : PriceView) → IsBelow p q → p.amount * q.payers ≤ q.amount * p.payers
ratio_at_most p q (inl less) = omega (arith, less)
ratio_at_most p q (inr same) = subst (λ (r : PriceView). p.amount * r.payers ≤ r.amount * p.payers) same (omega arith)

-- From a lower bound of the price: who can't pay it gives all, and the others pay what is missing.
module _ (supporters rests : List ℕ) (cost : ℕ) (bound p : PriceView) (some : 0 < bound.payers) (price : IsUnrounded supporters rests cost p)
    (at_most : IsBelow bound p) where
  ratio : bound.amount * p.payers ≤ p.amount * bound.payers
  ratio = ratio_at_most bound p at_most

  abbrev pub poor : ℕ
  poor = poor_rests supporters rests bound

  abbrev pub rich : ℕ
  rich = rich_count supporters rests bound

  -- what they have is within the cost
  poor_scaled : p.payers * poor ≤ p.payers * cost
  poor_scaled =
      let sums = sums_at_most p.payers 0 1 0 0 (λ v. rest_unless (is_payer bound (slice_index rests v)) (slice_index rests v)) (λ v. zero)
      (λ v. min (p.payers * slice_index rests v) p.amount) (λ v. zero) (λ v. zero)
      (λ v. poor_pays bound.amount bound.payers p.amount p.payers (slice_index rests v) some price.some ratio) supporters in
      omega (arith, sums, price.exactly)

  pub poor_within : poor ≤ cost
  poor_within = le_of_mul-le-mul_left poor_scaled price.some

  -- all who pay the price are among the others
  pub payers_within : p.payers ≤ rich
  payers_within =
      let sums = sums_at_most 1 0 1 0 0 (λ v. one_if (is_payer p (slice_index rests v))) (λ v. zero) (λ v. one_if (is_payer bound (slice_index rests v))) (λ v. zero) (λ v. zero)
      (λ v. payer_of_both bound.amount bound.payers p.amount p.payers (slice_index rests v) some price.some ratio) supporters in
      omega (arith, sums, price.in_full)

  -- what the price collects
  price_sums : p.payers * cost + rich ≤ p.payers * poor + p.amount * rich + p.payers
  price_sums =
      let sums = sums_at_most 1 1 p.payers p.amount 1 (λ v. min (p.payers * slice_index rests v) p.amount) (λ v. one_if (is_payer bound (slice_index rests v)))
      (λ v. rest_unless (is_payer bound (slice_index rests v)) (slice_index rests v)) (λ v. one_if (is_payer bound (slice_index rests v))) (λ v. one_if (is_payer p (slice_index rests v)))
      (λ v. price_pays bound.amount bound.payers p.amount p.payers (slice_index rests v) some price.some ratio) supporters in
      omega (arith, sums, price.exactly, price.in_full)

  -- and the bound
  bound_sums : bound.payers * poor + bound.amount * rich ≤ bound.payers * cost
  bound_sums =
      let sums = sums_at_most p.payers 0 bound.payers 0 0 (λ v. min (bound.payers * slice_index rests v) bound.amount) (λ v. zero) (λ v. min (p.payers * slice_index rests v) p.amount)
      (λ v. zero) (λ v. zero) (λ v. bound_pays bound.amount bound.payers p.amount p.payers (slice_index rests v) some price.some ratio) supporters in
      let split : p.payers * (bound.payers * poor + bound.amount * rich)
      ≡ p.payers * sum_by (λ v. min (bound.payers * slice_index rests v) bound.amount) supporters = ap (λ k. p.payers * k) (paid_by_split supporters rests bound) in
      let paid : bound.payers * sum_by (λ v. min (p.payers * slice_index rests v) p.amount) supporters ≡ bound.payers * (p.payers * cost) = ap (λ k. bound.payers * k) price.exactly in
      let within : p.payers * (bound.payers * poor + bound.amount * rich) ≤ p.payers * (bound.payers * cost) = omega (arith, sums, split, paid) in
      le_of_mul-le-mul_left within price.some

  abbrev pub next : PriceView
  next = record { amount = cost - poor; payers = rich }

  pub next_payers : 0 < rich
  next_payers = omega (arith, payers_within, price.some)

  missing : (k : ℕ) → k * (cost - poor) + k * poor ≡ k * cost
  missing k = let whole : k * (cost - poor + poor) ≡ k * cost = ap (λ j. k * j) (omega (arith, poor_within)) in omega (arith, whole)

  next_sums : p.payers * next.amount + rich ≤ p.amount * rich + p.payers
  next_sums = omega (arith, missing p.payers, price_sums)

  -- the next bound is not above the price
  pub next_at_most : IsBelow next p
  next_at_most = elim (cases_lt (next.amount * p.payers) (p.amount * next.payers)) [
    | inl less ↦ inl less
    | inr least ↦
        let all_pay : rich ≡ p.payers = omega (arith, least, next_sums, payers_within) in
        inr (one_amount next p next_payers all_pay
        (let fewer : p.amount * next.payers ≡ p.amount * p.payers = ap (λ k. p.amount * k) all_pay in
        let others : p.payers * next.amount ≡ rich * next.amount = ap (λ k. k * next.amount) (sym all_pay) in
        omega (arith, least, next_sums, all_pay, fewer, others)))
  ]

  bound_ratio : bound.amount * rich ≤ next.amount * bound.payers
  bound_ratio = omega (arith, missing bound.payers, bound_sums)

  -- where it is the same ratio, the next bound is the price
  module _ (same : next.amount * bound.payers ≡ bound.amount * rich) where
    tests : (rest : ℕ) → is_payer next rest ≡ is_payer bound rest
    tests rest = both_ways _ _
        (λ h. let enough = leb-true next.amount (rich * rest) h in
        let scaled : next.amount * bound.payers ≤ rich * rest * bound.payers = mul-le-mul_right bound.payers enough in
        let within : rich * bound.amount ≤ rich * (bound.payers * rest) = omega (arith, scaled, same) in
        le-leb bound.amount (bound.payers * rest) (le_of_mul-le-mul_left within next_payers))
        (λ h. let enough = leb-true bound.amount (bound.payers * rest) h in
        let scaled : bound.amount * rich ≤ bound.payers * rest * rich = mul-le-mul_right rich enough in
        let within : bound.payers * next.amount ≤ bound.payers * (rich * rest) = omega (arith, scaled, same) in
        le-leb next.amount (rich * rest) (le_of_mul-le-mul_left within some))

    next_is_price : IsUnrounded supporters rests cost next
    next_is_price = record {
      some = next_payers;
      in_full = sym (same_rich supporters rests next bound tests);
      exactly =
          let poors : rich * poor_rests supporters rests next ≡ rich * poor = ap (λ k. rich * k) (same_poor supporters rests next bound tests) in
          let riches : next.amount * rich_count supporters rests next ≡ next.amount * rich = ap (λ k. next.amount * k) (same_rich supporters rests next bound tests) in
          omega (arith, paid_by_split supporters rests next, poors, riches, missing rich);
    }

    bound_is_price : bound ≡ p
    bound_is_price = elim at_most [
      | inl less ↦
          let is = unrounded_is_unique supporters rests cost next p next_is_price price in
          let there : p.amount * bound.payers ≡ bound.amount * p.payers = subst (λ (q : PriceView). q.amount * bound.payers ≡ bound.amount * q.payers) is same in
          absurd (omega (arith, less, there))
      | inr is ↦ is
    ]

  -- the next bound is above the bound, or the same
  pub next_rises : IsBelow bound next
  next_rises = elim (cases_lt (bound.amount * next.payers) (next.amount * bound.payers)) [
    | inl less ↦ inl less
    | inr least ↦
        let same : next.amount * bound.payers ≡ bound.amount * rich = omega (arith, least, bound_ratio) in
        inr (bound_is_price same ∙ sym (unrounded_is_unique supporters rests cost next p (next_is_price same) price))
  ]

  -- and where it is the bound, that is the price
  pub price_where_next_is_bound : next ≡ bound → IsUnrounded supporters rests cost bound
  price_where_next_is_bound e =
      subst (IsUnrounded supporters rests cost) e
      (next_is_price (ap (λ (q : PriceView). q.amount * bound.payers) e ∙ ap (λ k. bound.amount * k) (sym (ap (λ (q : PriceView). q.payers) e))))

-- ---- the cost over the supporters

module _ (supporters rests : List ℕ) (cost : ℕ) (p : PriceView) (price : IsUnrounded supporters rests cost p) where
  shares_sum : p.payers * cost + length supporters ≤ p.amount * length supporters + p.payers
  shares_sum =
      let sums = sums_at_most 1 1 p.amount 1 0 (λ v. min (p.payers * slice_index rests v) p.amount) (λ v. 1) (λ v. 1) (λ v. one_if (is_payer p (slice_index rests v))) (λ v. zero)
      (λ v. pay_or_less p.amount (p.payers * slice_index rests v)) supporters in
      let counted : p.amount * sum_by (λ v. 1) supporters ≡ p.amount * length supporters = ap (λ n. p.amount * n) (ones supporters) in
      omega (arith, sums, price.exactly, price.in_full, ones supporters, counted)
    where
      pay_or_less : (amount paid : ℕ) → 1 * min paid amount + 1 * 1 ≤ amount * 1 + 1 * one_if (nat_le amount paid) + 0 * zero
      pay_or_less amount paid = elim (cases_lt paid amount) [
        | inl less ↦ omega (arith, less)
        | inr enough ↦ let test : one_if (nat_le amount paid) ≡ 1 = ap (λ b. one_if b) (le-leb amount paid (omega (arith, enough))) in omega (arith, test)
      ]

      ones : (xs : List ℕ) → sum_by (λ v. 1) xs ≡ length xs
      ones [] = refl
      ones (x ∷ xs) = omega (arith, sum_by-cons (λ (v : ℕ). 1) x xs, ones xs)

  -- it is not above the price
  pub base_at_most : IsBelow (record { amount = cost; payers = length supporters }) p
  base_at_most = elim (cases_lt (cost * p.payers) (p.amount * length supporters)) [
    | inl less ↦ inl less
    | inr least ↦
        let few = few_payers supporters rests cost p price in
        let all_pay : length supporters ≡ p.payers = omega (arith, least, shares_sum, few) in
        let some : 0 < length supporters = omega (arith, all_pay, price.some) in
        inr (one_amount (record { amount = cost; payers = length supporters }) p some all_pay
        (let fewer : p.amount * length supporters ≡ p.amount * p.payers = ap (λ k. p.amount * k) all_pay in
        let others : cost * length supporters ≡ cost * p.payers = ap (λ k. cost * k) all_pay in
        omega (arith, least, shares_sum, all_pay, fewer, others)))
  ]

-- where everybody has one rest that covers it, it is the price; where that does not, there is none
module _ (rests : List ℕ) (share : ℕ) (alike : All (λ rest. rest ≡ share) rests) where
  sum_alike : (f : ℕ → ℕ) (supporters : List ℕ) → All (λ v. v < length rests) supporters
      → sum_by (λ v. f (slice_index rests v)) supporters ≡ length supporters * f share
  sum_alike f [] known = omega arith
  sum_alike f (v ∷ vs) known =
      let rest : f (slice_index rests v) ≡ f share = ap f (alike v 0 (known 0 0 (omega arith))) in
      let others = sum_alike f vs (All-tail (λ v. v < length rests) v vs known) in
      omega (arith, sum_by-cons (λ v. f (slice_index rests v)) v vs, rest, others)

  pub base_is_price : (supporters : List ℕ) (cost : ℕ) → All (λ v. v < length rests) supporters → 0 < length supporters
      → cost ≤ share * length supporters → IsUnrounded supporters rests cost (record { amount = cost; payers = length supporters })
  base_is_price supporters cost known some within = record {
    some = some;
    in_full =
        let all = sum_alike (λ rest. one_if (nat_le cost (length supporters * rest))) supporters known in
        let test : one_if (nat_le cost (length supporters * share)) ≡ 1 = ap (λ b. one_if b) (le-leb cost (length supporters * share) (omega (arith, within))) in
        let each : length supporters * one_if (nat_le cost (length supporters * share)) ≡ length supporters * 1 = ap (λ k. length supporters * k) test in
        omega (arith, all, each);
    exactly =
        let all = sum_alike (λ rest. min (length supporters * rest) cost) supporters known in
        let each : length supporters * min (length supporters * share) cost ≡ length supporters * cost = ap (λ k. length supporters * k) (omega (arith, within)) in
        omega (arith, all, each);
  }

  pub none_at_share : (supporters : List ℕ) (cost : ℕ) → All (λ v. v < length rests) supporters
      → share * length supporters < cost → total_rest supporters rests < cost
  none_at_share supporters cost known beyond = let all = sum_alike (λ rest. rest) supporters known in omega (arith, all, beyond)
