-- What an unrounded price collects where it is rounded down, and where it is found again.
use Rattle.std.proofs.Common.{◌≡◌, ℕ, zero, suc, ◌+◌, ◌-◌, ◌*◌, ◌/◌, ◌<◌, ◌≤◌, min, get_or, List, [], ◌∷◌, length, max, refl, sym, subst, ◌∙◌, ap, inl, inr, arith}
use Rattle.std.specs.Prelude.{All, count_by, nat_le, slice_index, sum_by}
use Rattle.std.proofs.Math.Nat.{div-mul-le_self, div-one, le-div_iff_mul-le, lt-div-mul-add, le_of_mul-le-mul_left, lt_of_mul-lt-mul_left, mul-le-mul_left, mul-le-mul_right}
use Rattle.std.proofs.lemmas.Bool.{cases_lt, le-leb, lt-leb}
use Rattle.std.proofs.lemmas.List.Elements.{All-tail}
use Rattle.std.proofs.lemmas.List.Sums.{sum_by-cons}
use Rattle.pb_price.specs.Inner.Lists.{NoRestRises}
use Rattle.pb_price.specs.Price.{IsPriceIn, IsUnrounded, PriceView, due, paid_at}
use Rattle.pb_price.specs.declared.grain.Grain.{Grain}
use Rattle.pb_price.specs.declared.grain.Grain.TheVariants.{Hundredths, Fine}
use Rattle.pb_price.proofs.PairSums.{sums_at_most}
use Rattle.pb_price.proofs.PriceSteps.{none_pays_more}
use Rattle.pb_price.proofs.RestsFall.{paid_at_falls}
use Rattle.pb_price.proofs.Unrounded.{is_payer, one_if}
use Rattle.pb_price.proofs.UnroundedSteps.{few_payers}

-- ---- rounded down

module _ (n d rest : ℕ) (some : 0 < d) where
  floor_is : n / d * d ≤ n
  floor_is = div-mul-le_self n d

  floor_next : n < n / d * d + d
  floor_next = lt-div-mul-add some

  -- nobody pays more than at the price
  due_pays : d * min rest (n / d) + 0 * zero ≤ 1 * min (d * rest) n + 0 * zero + 0 * zero
  due_pays =
      let most : d * min rest (n / d) ≤ d * rest = mul-le-mul_left d (omega arith) in
      let within : d * min rest (n / d) ≤ d * (n / d) = mul-le-mul_left d (omega arith) in
      omega (arith, most, within, floor_is)

  -- who can pay it in full pays less than a part less, and nobody else less
  due_pays_most : 1 * min (d * rest) n + 1 * one_if (nat_le n (d * rest)) ≤ d * min rest (n / d) + d * one_if (nat_le n (d * rest)) + 0 * zero
  due_pays_most = elim (cases_lt (d * rest) n) [
    | inl poor ↦
        let test : one_if (nat_le n (d * rest)) ≡ 0 = ap (λ b. one_if b) (lt-leb n (d * rest) poor) in
        let none : d * one_if (nat_le n (d * rest)) ≡ d * 0 = ap (λ k. d * k) test in
        let within : rest ≤ n / d = (le-div_iff_mul-le some).1 (omega (arith, poor)) in
        let all : d * min rest (n / d) ≡ d * rest = ap (λ k. d * k) (omega (arith, within)) in
        omega (arith, test, none, all, poor)
    | inr rich ↦
        let test : one_if (nat_le n (d * rest)) ≡ 1 = ap (λ b. one_if b) (le-leb n (d * rest) (omega (arith, rich))) in
        let one : d * one_if (nat_le n (d * rest)) ≡ d * 1 = ap (λ k. d * k) test in
        let below : d * (n / d) ≤ d * rest = omega (arith, floor_is, rich) in
        let enough : n / d ≤ rest = le_of_mul-le-mul_left below some in
        let all : d * min rest (n / d) ≡ d * (n / d) = ap (λ k. d * k) (omega (arith, enough)) in
        omega (arith, test, one, all, floor_next)
  ]

module _ (supporters rests : List ℕ) (cost : ℕ) (p : PriceView) (price : IsUnrounded supporters rests cost p) where
  -- what is collected is at most the cost
  quotient_within : paid_at supporters rests (p.amount / p.payers) ≤ cost
  quotient_within =
      let sums = sums_at_most p.payers 0 1 0 0 (λ v. min (slice_index rests v) (p.amount / p.payers)) (λ v. zero) (λ v. min (p.payers * slice_index rests v) p.amount) (λ v. zero) (λ v. zero)
      (λ v. due_pays p.amount p.payers (slice_index rests v) price.some) supporters in
      let within : p.payers * paid_at supporters rests (p.amount / p.payers) ≤ p.payers * cost = omega (arith, sums, price.exactly) in
      le_of_mul-le-mul_left within price.some

  -- and less than a part a payer is missing
  quotient_leaves_little : cost < paid_at supporters rests (p.amount / p.payers) + length supporters
  quotient_leaves_little =
      let sums = sums_at_most 1 1 p.payers p.payers 0 (λ v. min (p.payers * slice_index rests v) p.amount) (λ v. one_if (is_payer p (slice_index rests v)))
      (λ v. min (slice_index rests v) (p.amount / p.payers)) (λ v. one_if (is_payer p (slice_index rests v))) (λ v. zero)
      (λ v. due_pays_most p.amount p.payers (slice_index rests v) price.some) supporters in
      let square : p.payers * count_by (λ v. is_payer p (slice_index rests v)) supporters ≡ p.payers * p.payers = ap (λ k. p.payers * k) (sym price.in_full) in
      let short : p.payers * cost < p.payers * (paid_at supporters rests (p.amount / p.payers) + p.payers) = omega (arith, sums, price.exactly, price.in_full, square, price.some) in
      let less : cost < paid_at supporters rests (p.amount / p.payers) + p.payers = lt_of_mul-lt-mul_left p.payers short in
      omega (arith, less, few_payers supporters rests cost p price)

  due_is : p.amount / p.payers ≡ due p
  due_is = ap (λ n. p.amount / n) (let some = price.some in omega arith)

  pub due_within : paid_at supporters rests (due p) ≤ cost
  due_within = subst (λ n. paid_at supporters rests n ≤ cost) due_is quotient_within

  pub due_leaves_little : cost < paid_at supporters rests (due p) + length supporters
  due_leaves_little = subst (λ n. cost < paid_at supporters rests n + length supporters) due_is quotient_leaves_little

  -- where an amount from each covers the cost, the price is at most the amount
  pub unrounded_within : (amount : ℕ) → cost ≤ paid_at supporters rests amount → p.amount ≤ amount * p.payers
  unrounded_within amount covers = elim (cases_lt (amount * p.payers) p.amount) [
    | inr within ↦ omega (arith, within)
    | inl above ↦
        let sums = sums_at_most p.payers 1 1 0 0 (λ v. min (slice_index rests v) amount) (λ v. one_if (is_payer p (slice_index rests v))) (λ v. min (p.payers * slice_index rests v) p.amount) (λ v. zero) (λ v. zero)
        (λ v. pays_less p.amount p.payers amount (slice_index rests v) above) supporters in
        let covered : p.payers * cost ≤ p.payers * paid_at supporters rests amount = mul-le-mul_left p.payers covers in
        absurd (omega (arith, sums, covered, price.exactly, price.in_full, price.some))
  ]
    where
      pays_less : (n d amount rest : ℕ) → amount * d < n
          → d * min rest amount + 1 * one_if (nat_le n (d * rest)) ≤ 1 * min (d * rest) n + 0 * zero + 0 * zero
      pays_less n d amount rest above =
          let most : d * min rest amount ≤ d * rest = mul-le-mul_left d (omega arith) in
          let within : d * min rest amount ≤ d * amount = mul-le-mul_left d (omega arith) in
          elim (cases_lt (d * rest) n) [
            | inl poor ↦
                let test : one_if (nat_le n (d * rest)) ≡ 0 = ap (λ b. one_if b) (lt-leb n (d * rest) poor) in omega (arith, test, most, within, poor, above)
            | inr rich ↦
                let test : one_if (nat_le n (d * rest)) ≡ 1 = ap (λ b. one_if b) (le-leb n (d * rest) (omega (arith, rich))) in omega (arith, test, within, above, rich)
          ]

-- ---- where all can pay it in full, it stays

module _ (rests : List ℕ) (p : PriceView) where
  all_pay : (supporters : List ℕ) → All (λ v. p.amount ≤ p.payers * slice_index rests v) supporters
      → (sum_by (λ v. min (p.payers * slice_index rests v) p.amount) supporters ≡ length supporters * p.amount)
      × (count_by (λ v. is_payer p (slice_index rests v)) supporters ≡ length supporters)
  all_pay [] enough = (omega arith, refl)
  all_pay (v ∷ vs) enough =
      let others = all_pay vs (All-tail (λ v. p.amount ≤ p.payers * slice_index rests v) v vs enough) in
      let here : p.amount ≤ p.payers * slice_index rests v = enough 0 0 (omega arith) in
      let test : one_if (is_payer p (slice_index rests v)) ≡ 1 = ap (λ b. one_if b) (le-leb p.amount (p.payers * slice_index rests v) here) in (
        omega (arith, sum_by-cons (λ v. min (p.payers * slice_index rests v) p.amount) v vs, others.0, here),
        omega (arith, sum_by-cons (λ v. one_if (is_payer p (slice_index rests v))) v vs, others.1, test),
      )

pub unrounded_stays : (supporters before after : List ℕ) (cost : ℕ) (p : PriceView) → NoRestRises before after
    → All (λ v. p.amount ≤ p.payers * slice_index after v) supporters → IsUnrounded supporters before cost p → IsUnrounded supporters after cost p
unrounded_stays supporters before after cost p falls enough price =
    let earlier : All (λ v. p.amount ≤ p.payers * slice_index before v) supporters = λ k d below.
    let here = enough k d below in
    let more = mul-le-mul_left p.payers (falls (get_or supporters k d)) in omega (arith, here, more) in
    let then_paid = all_pay before p supporters earlier in
    let now_paid = all_pay after p supporters enough in
    record {
      some = price.some;
      in_full = price.in_full ∙ then_paid.1 ∙ sym now_paid.1;
      exactly = now_paid.0 ∙ sym then_paid.0 ∙ price.exactly;
    }

-- where an amount from each covers the cost, the price is at most that
pub price_within : (grain : Grain) (supporters rests : List ℕ) (cost : ℕ) (p : PriceView) (amount : ℕ) → cost ≤ paid_at supporters rests amount
    → IsPriceIn grain supporters rests cost p → p.amount ≤ amount * p.payers
price_within Hundredths supporters rests cost p amount covers price = elim (cases_lt amount p.amount) [
  | inl less ↦ absurd (omega (arith, price.0.least amount less, covers))
  | inr most ↦ let same : amount * p.payers ≡ amount * 1 = ap (λ n. amount * n) price.1 in omega (arith, most, same)
]
price_within Fine supporters rests cost p amount covers price = unrounded_within supporters rests cost p price amount covers

-- a whole price is due as it is
pub whole_due : (p : PriceView) → p.payers ≡ 1 → due p ≡ p.amount
whole_due p one = ap (λ n. p.amount / max 1 n) one ∙ div-one p.amount

-- where all can pay it in full, a price stays
full_pays : (supporters rests : List ℕ) (p : ℕ) → All (λ v. p ≤ slice_index rests v) supporters → length supporters * p ≤ paid_at supporters rests p
full_pays [] rests p enough = omega arith
full_pays (v ∷ vs) rests p enough =
    let here : p ≤ slice_index rests v = enough 0 0 (omega arith) in
    let others = full_pays vs rests p (All-tail (λ v. p ≤ slice_index rests v) v vs enough) in
    omega (arith, sum_by-cons (λ v. min (slice_index rests v) p) v vs, here, others)

pub price_stays : (grain : Grain) (supporters before after : List ℕ) (cost : ℕ) (p : PriceView) → NoRestRises before after
    → All (λ v. p.amount ≤ p.payers * slice_index after v) supporters → IsPriceIn grain supporters before cost p → IsPriceIn grain supporters after cost p
price_stays Hundredths supporters before after cost p falls enough price =
    let each : All (λ v. p.amount ≤ slice_index after v) supporters = λ k d below.
    let here = enough k d below in
    let alone : p.payers * slice_index after (get_or supporters k d) ≡ 1 * slice_index after (get_or supporters k d) = ap (λ n. n * slice_index after (get_or supporters k d)) price.1 in
    omega (arith, here, alone) in (
      record {
        covers = omega (arith, price.0.covers, none_pays_more supporters before p.amount, full_pays supporters after p.amount each);
        least = λ q less. omega (arith, price.0.least q less, paid_at_falls supporters before after q falls);
      },
      price.1,
    )
price_stays Fine supporters before after cost p falls enough price = unrounded_stays supporters before after cost p falls enough price
