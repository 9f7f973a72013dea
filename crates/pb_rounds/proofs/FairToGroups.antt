-- Every outcome is fair to groups.
use Rattle.std.proofs.Common.{◌≡◌, ◌≢◌, ℕ, suc, ◌+◌, ◌*◌, ◌/◌, ◌<◌, ◌≤◌, max, min, List, [], ◌∷◌, ◌++◌, length, Bool, true, false, cond, Option, Some, None, refl, sym, subst, ◌∙◌, ap, inl, inr, arith}
use Rattle.std.specs.List.{list_any}
use Rattle.std.specs.Prelude.{All, Any, ◌==◌, ◌⊎◌, filter, nat_le, replicate, slice_index, sum_by, zip, if◌then◌else◌}
use Rattle.std.proofs.Math.Nat.{div-mul-le_self, le_of_mul-le-mul_left, mul-le-mul_right, mul-pos}
use Rattle.std.proofs.lemmas.Bool.{cases_lt, le-leb, leb-true, cond-true}
use Rattle.std.proofs.lemmas.List.{get_or-replicate, length-replicate}
use Rattle.std.proofs.lemmas.List.Elements.{All-nil, All-cons, All-head, All-tail, All-filter, All-weaker}
use Rattle.std.proofs.lemmas.List.Sums.{sum_by-cons}
use Rattle.pb_price.specs.Price.{IsPrice, PriceView, due, paid_at, price_at, total_rest}
use Rattle.pb_price.specs.Supporters.{SupportView, IsSupport, supporters_at, cost_in_parts}
use Rattle.pb_price.proofs.Dues.{price_within as price_in_within}
use Rattle.pb_price.proofs.Payments.{paid_at-le-total_rest}
use Rattle.pb_price.proofs.Prices.{price_at_is_price, price_has_payers}
use Rattle.pb_price.proofs.SupporterLists.{cost_positive, known_voters, support_form}
use Rattle.pb_rounds.specs.declared.measure.Measure.{Measure}
use Rattle.pb_rounds.specs.declared.measure.Measure.TheVariants.{Votes, Cost}
use Rattle.pb_rounds.specs.Inner.Cheapest.{ComesFirst}
use Rattle.pb_rounds.specs.Cheapest.{IsCheaper, IsLeft, IsRun, rests_after}
use Rattle.pb_rounds.specs.Fairness.{paid_within}
use Rattle.pb_rounds.specs.Inner.Fairness.{IsFairToGroups, GroupsHaveWinners}
use Rattle.pb_rounds.specs.Inner.Listed.{is_listed}
use Rattle.pb_rounds.specs.Payments.{paid_in_turn, payments_of}
use Rattle.pb_rounds.specs.Run.{ElectedView, charged, payment_of, weight_of}
use Rattle.pb_rounds.proofs.Charged.{charged_at, payment_at, payment-within_price}
use Rattle.pb_rounds.proofs.Explained.{paid_in_turn-cons}

-- the elected projects that a voter supports
abbrev supported_by : SupportView → (voter : ℕ) → List ElectedView → List ElectedView
supported_by s voter elected = filter (λ w. list_any (λ v. v == voter) (supporters_at s w.place)) elected

-- some number is above the limit, or none is
some_or_none : (f : ℕ → ℕ) (limit : ℕ) (xs : List ℕ) → Any (λ x. limit < f x) xs ⊎ All (λ x. f x ≤ limit) xs
some_or_none f limit [] = inr (All-nil (λ x. f x ≤ limit))
some_or_none f limit (x ∷ xs) = elim (cases_lt limit (f x)) [
  | inl above ↦ inl (0, x, omega arith, refl, above)
  | inr within ↦ elim (some_or_none f limit xs) [
    | inl (k, y, below, here, above) ↦ inl (suc k, y, omega (arith, below), here, above)
    | inr others ↦ inr (All-cons (λ x. f x ≤ limit) x xs (omega (arith, within)) others)
  ]
]

-- where each member of a group has the amount left, all supporters together can pay as many amounts
group_pays_step : (b : Bool) (rests : List ℕ) (v : ℕ) (vs : List ℕ) (amount total : ℕ)
    → (All (λ v. amount ≤ slice_index rests v) vs → length vs * amount ≤ total)
    → All (λ v. amount ≤ slice_index rests v) (cond b (v ∷ vs) vs)
    → length (cond b (v ∷ vs) vs) * amount ≤ min (slice_index rests v) amount + total
group_pays_step true rests v vs amount total others enough =
    let here = All-head (λ v. amount ≤ slice_index rests v) v vs enough in
    let there = others (All-tail (λ v. amount ≤ slice_index rests v) v vs enough) in
    omega (arith, here, there)
group_pays_step false rests v vs amount total others enough = let there = others enough in omega (arith, there)

group_pays : (is_member : ℕ → Bool) (rests : List ℕ) (amount : ℕ) (supporters : List ℕ)
    → All (λ v. amount ≤ slice_index rests v) (filter is_member supporters)
    → length (filter is_member supporters) * amount ≤ paid_at supporters rests amount
group_pays is_member rests amount [] enough = omega arith
group_pays is_member rests amount (v ∷ vs) enough =
    let all = group_pays_step (is_member v) rests v (filter is_member vs) amount (paid_at vs rests amount) (group_pays is_member rests amount vs) enough in
    omega (arith, all, sum_by-cons (λ v. min (slice_index rests v) amount) v vs)

-- where the supporters together cover the cost at an amount, there is a price of at most this amount
price_found : (s : SupportView) (place : ℕ) (rests : List ℕ) (amount : ℕ) → cost_in_parts s place ≤ paid_at (supporters_at s place) rests amount
    → (o : Option PriceView) → IsPrice s rests place o
    → (price : PriceView) × (price.amount ≤ amount * price.payers) × IsPrice s rests place (Some price)
price_found s place rests amount covered None short =
    absurd (omega (arith, short, covered, paid_at-le-total_rest (supporters_at s place) rests amount))
price_found s place rests amount covered (Some price) is =
    (price, price_in_within s.grain (supporters_at s place) rests (cost_in_parts s place) price amount covered is, is)

price_within : (s : SupportView) (place : ℕ) → 0 < cost_in_parts s place → (rests : List ℕ) (amount : ℕ) → cost_in_parts s place ≤ paid_at (supporters_at s place) rests amount
    → (price : PriceView) × (price.amount ≤ amount * price.payers) × IsPrice s rests place (Some price)
price_within s place some rests amount covered = price_found s place rests amount covered (price_at s rests place) (price_at_is_price s rests place some)

-- in cross products: n over d is at most nc over dc, for as much weight
takes_less : (n d nc dc amount paid weight own : ℕ) → 0 < d → 0 < dc → n * (dc * weight) ≤ nc * (d * own) → nc ≤ amount * dc → paid * d ≤ n
    → paid * weight ≤ amount * own
takes_less n d nc dc amount paid weight own some other cheaper small pays =
    let one : paid * d * (dc * weight) ≤ n * (dc * weight) = mul-le-mul_right (dc * weight) pays in
    let two : nc * (d * own) ≤ amount * dc * (d * own) = mul-le-mul_right (d * own) small in
    let all : d * dc * (paid * weight) ≤ d * dc * (amount * own) = omega (arith, one, two, cheaper) in
    le_of_mul-le-mul_left all (mul-pos some other)

first_at_most : (number other place other_place : ℕ) → ComesFirst number other place other_place → number ≤ other
first_at_most number other place other_place (inl less) = omega (arith, less)
first_at_most number other place other_place (inr same) = omega (arith, same.0)

-- what is cheaper than a project at a price takes at most this price
cheaper_takes_less : (m : Measure) (s : SupportView) (place : ℕ) (price : PriceView) (amount : ℕ) (w : ElectedView) (paid : ℕ)
    → IsCheaper m s w.place w.exact place price → 0 < price.payers → 0 < w.exact.payers → price.amount ≤ amount * price.payers → paid ≤ due w.exact
    → nat_le (paid * weight_of m s place) (amount * weight_of m s w.place) ≡ true
cheaper_takes_less m s place price amount w paid cheaper some other within small =
    let divides : max 1 w.exact.payers ≡ w.exact.payers = omega (arith, other) in
    let own : due w.exact * max 1 w.exact.payers ≤ w.exact.amount = div-mul-le_self w.exact.amount (max 1 w.exact.payers) in
    let same : due w.exact * max 1 w.exact.payers ≡ due w.exact * w.exact.payers = ap (λ n. due w.exact * n) divides in
    let pays : paid * w.exact.payers ≤ due w.exact * w.exact.payers = mul-le-mul_right w.exact.payers small in
    le-leb _ _ (takes_less w.exact.amount w.exact.payers price.amount price.payers amount paid (weight_of m s place) (weight_of m s w.place) other some
    (first_at_most _ _ w.place place cheaper) within (omega (arith, own, same, pays)))

-- each of these, elected from these rests on, was cheaper than the project at this place
abbrev pub WereCheaper : Measure → SupportView → (place : ℕ) → List ℕ → List ElectedView → Type 0
WereCheaper m s place rests elected = (before : List ElectedView) (w : ElectedView) (later : List ElectedView) → elected ≡ before ++ w ∷ later
    → (w.price ≡ due w.exact) × (0 < w.exact.payers)
    × ((price : PriceView) → IsPrice s (rests_after s rests before) place (Some price) → IsCheaper m s w.place w.exact place price)

weigh_together : (a b weight amount x y all : ℕ) → all ≡ x + y → a * weight ≤ amount * x → b * weight ≤ amount * y → (a + b) * weight ≤ amount * all
weigh_together a b weight amount x y all e one other = rw e (omega (arith, one, other))

module _ (m : Measure) (s : SupportView) (place amount : ℕ) where
  -- what was paid, where it is within the amount
  abbrev within_of : ElectedView → ℕ → ℕ
  within_of w paid = if nat_le (paid * weight_of m s place) (amount * weight_of m s w.place) then paid else 0

  -- what a voter pays within the amount, out of these rests
  abbrev within_from : List ℕ → List ElectedView → ℕ → ℕ
  within_from rests elected v = sum_by (λ row. within_of row.0 (slice_index row.1 v)) (zip elected (paid_in_turn s rests elected))

  within_step : (b : Bool) (paid most : ℕ) → nat_le (paid * weight_of m s place) most ≡ b → (if b then paid else 0) * weight_of m s place ≤ most
  within_step true paid most e = leb-true (paid * weight_of m s place) most e
  within_step false paid most e = omega arith

  within_is_within : (w : ElectedView) (paid : ℕ) → within_of w paid * weight_of m s place ≤ amount * weight_of m s w.place
  within_is_within w paid = within_step _ paid (amount * weight_of m s w.place) refl

  nothing_either_way : (b : Bool) (paid : ℕ) → paid ≡ 0 → (if b then paid else 0) ≡ 0
  nothing_either_way true paid none = none
  nothing_either_way false paid none = refl

  -- what is paid for the first of the elected, and for the others
  within_from-cons : (rests : List ℕ) (w : ElectedView) (elected : List ElectedView) (v : ℕ)
      → within_from rests (w ∷ elected) v
      ≡ within_of w (payment_of (supporters_at s w.place) w.price rests v) + within_from (charged (supporters_at s w.place) w.price rests) elected v
  within_from-cons rests w elected v =
      let later = paid_in_turn s (charged (supporters_at s w.place) w.price rests) elected in
      ap (λ rows. sum_by (λ row. within_of row.0 (slice_index row.1 v)) (zip (w ∷ elected) rows)) (paid_in_turn-cons s rests w elected)
      ∙ sum_by-cons (λ row. within_of row.0 (slice_index row.1 v)) (w, payments_of (supporters_at s w.place) w.price rests) (zip elected later)
      ∙ ap (λ paid. within_of w paid + within_from (charged (supporters_at s w.place) w.price rests) elected v) (payment_at (supporters_at s w.place) w.price rests v)

  -- what is paid within the amount is within it for all that the voter supports
  within_weighs_step : (is_supporter : Bool) (w : ElectedView) (elected : List ElectedView) (paid rest others : ℕ)
      → others * weight_of m s place ≤ amount * sum_by (λ w. weight_of m s w.place) elected
      → paid ≡ cond is_supporter (min rest w.price) 0
      → (within_of w paid + others) * weight_of m s place ≤ amount * sum_by (λ w. weight_of m s w.place) (cond is_supporter (w ∷ elected) elected)
  within_weighs_step true w elected paid rest others less pays =
      weigh_together (within_of w paid) others (weight_of m s place) amount (weight_of m s w.place) (sum_by (λ w. weight_of m s w.place) elected) _
      (sum_by-cons (λ w. weight_of m s w.place) w elected) (within_is_within w paid) less
  within_weighs_step false w elected paid rest others less pays =
      let nothing : within_of w paid ≡ 0 = nothing_either_way _ paid pays in
      subst (λ n. n * weight_of m s place ≤ amount * sum_by (λ w. weight_of m s w.place) elected) (omega (arith, nothing)) less

  within_weighs : (elected : List ElectedView) (rests : List ℕ) (v : ℕ)
      → within_from rests elected v * weight_of m s place ≤ amount * sum_by (λ w. weight_of m s w.place) (supported_by s v elected)
  within_weighs [] rests v = omega arith
  within_weighs (w ∷ elected) rests v =
      let supporters = supporters_at s w.place in
      let paid = payment_of supporters w.price rests v in
      let later = within_from (charged supporters w.price rests) elected v in
      subst (λ n. n * weight_of m s place ≤ amount * sum_by (λ w. weight_of m s w.place) (supported_by s v (w ∷ elected)))
      (sym (within_from-cons rests w elected v))
      (within_weighs_step (is_listed supporters v) w (supported_by s v elected) paid (slice_index rests v) later
      (within_weighs elected (charged supporters w.price rests) v) refl)

  module _ (is_member : ℕ → Bool) (some : 0 < cost_in_parts s place) (covers : cost_in_parts s place ≤ length (filter is_member (supporters_at s place)) * amount) where
    -- the members can pay at the end where none paid too much within the amount
    group_keeps : (elected : List ElectedView) (rests : List ℕ) → WereCheaper m s place rests elected
        → All (λ v. within_from rests elected v + amount ≤ slice_index rests v) (filter is_member (supporters_at s place))
        → All (λ v. amount ≤ slice_index (rests_after s rests elected) v) (filter is_member (supporters_at s place))
    group_keeps [] rests were enough = λ k d below. let here = enough k d below in omega (arith, here)
    group_keeps (w ∷ elected) rests were enough =
        let supporters = supporters_at s w.place in
        let left : All (λ v. amount ≤ slice_index rests v) (filter is_member (supporters_at s place)) =
        λ k d below. let here = enough k d below in omega (arith, here) in
        let covered : cost_in_parts s place ≤ paid_at (supporters_at s place) rests amount =
        let pays = group_pays is_member rests amount (supporters_at s place) left in omega (arith, pays, covers) in
        let found = price_within s place some rests amount covered in
        let was = were [] w elected refl in
        let cheaper = was.2 found.0 found.2 in
        let payers = price_has_payers s.grain (supporters_at s place) rests (cost_in_parts s place) found.0 found.2 in
        group_keeps elected (charged supporters w.price rests)
        (λ before v later e. were (w ∷ before) v later (ap (λ xs. w ∷ xs) e))
        (All-weaker
        (λ v. within_from rests (w ∷ elected) v + amount ≤ slice_index rests v)
        (λ v. within_from (charged supporters w.price rests) elected v + amount ≤ slice_index (charged supporters w.price rests) v)
        (λ v here.
        let paid = payment_of supporters w.price rests v in
        let took : within_of w paid ≡ paid = cond-true _ _ _ (cheaper_takes_less m s place found.0 amount w paid cheaper payers was.1 found.1 (let most = payment-within_price supporters w.price rests v in omega (arith, most, was.0))) in
        omega (arith, here, took, within_from-cons rests w elected v, charged_at supporters w.price rests v))
        (filter is_member (supporters_at s place)) enough)

-- projects that are left once all are elected are left before
left_before : (s : SupportView) (place : ℕ) (before : List ElectedView) (w : ElectedView) (later : List ElectedView)
    → All (λ v. v.place ≢ place) (before ++ w ∷ later) → All (λ v. v.place ≢ place) before × (w.place ≢ place)
left_before s place [] w later others = (All-nil (λ v. v.place ≢ place), All-head (λ v. v.place ≢ place) w later others)
left_before s place (x ∷ before) w later others =
    let rest = left_before s place before w later (All-tail (λ v. v.place ≢ place) x (before ++ w ∷ later) others) in
    (All-cons (λ v. v.place ≢ place) x before (All-head (λ v. v.place ≢ place) x (before ++ w ∷ later) others) rest.0, rest.1)

run_were_cheaper : (m : Measure) (s : SupportView) (share : ℕ) (elected : List ElectedView) (rests : List ℕ) → IsRun m s share elected rests
    → (place : ℕ) → IsLeft s elected place → WereCheaper m s place (replicate s.voters share) elected
run_were_cheaper m s share elected rests run place left before w later e =
    let others = left_before s place before w later (subst (All (λ v. v.place ≢ place)) e left.1) in
    let was = run.cheapest before w later e in (
      was.rounded,
      price_has_payers s.grain (supporters_at s w.place) (rests_after s (replicate s.voters share) before) (cost_in_parts s w.place) w.exact was.priced,
      λ price is. was.cheapest place price (left.0, others.0) (λ same. others.1 (sym same)) is,
    )

-- each voter has the share at first
share_at : (voters share v n : ℕ) → v < length (replicate voters share) → n ≤ share → n ≤ slice_index (replicate voters share) v
share_at voters share v n is_voter small =
    omega (arith, small, get_or-replicate voters v share 0 (omega (arith, is_voter, length-replicate voters share)))

-- a run is fair to groups
pub run_is_fair_to_groups : (m : Measure) (s : SupportView) (share : ℕ) (elected : List ElectedView) (rests : List ℕ)
    → IsRun m s share elected rests → IsFairToGroups m s share elected
run_is_fair_to_groups m s share elected rests run place amount is_member left covers =
    let supporters = supporters_at s place in
    let opening = replicate s.voters share in
    let known = All-filter is_member (λ v. v < length opening) supporters
    (known_voters s run.is_support place left.0 supporters opening refl (length-replicate s.voters share)) in
    elim (some_or_none (λ v. paid_within m s share elected place amount v + amount) share (filter is_member supporters)) [
      | inl found ↦ found
      | inr none ↦
          let enough : All (λ v. paid_within m s share elected place amount v + amount ≤ slice_index opening v) (filter is_member supporters) =
          λ k d below. share_at s.voters share _ _ (known k d below) (none k d below) in
          let kept = group_keeps m s place amount is_member (cost_positive s run.is_support place left.0) covers elected opening (run_were_cheaper m s share elected rests run place left) enough in
          let pays = group_pays is_member (rests_after s opening elected) amount supporters kept in
          let short = run.none_left place left in
          absurd (omega (arith, pays, covers, paid_at-le-total_rest supporters (rests_after s opening elected) amount, subst (λ r. total_rest supporters r < cost_in_parts s place) run.rests_are short))
    ]

weight_positive : (m : Measure) (s : SupportView) → IsSupport s → (place : ℕ) → place < length s.costs → 0 < weight_of m s place
weight_positive Votes s support place known = omega arith
weight_positive Cost s support place known = (support_form s support).costs_positive place 0 known

enough_winners : (share within amount won weight : ℕ) → 0 < weight → share < within + amount → within * weight ≤ amount * won
    → share * weight < amount * (won + weight)
enough_winners share within amount won weight some above less =
    let more : (share + 1) * weight ≤ (within + amount) * weight = mul-le-mul_right weight (omega (arith, above)) in
    omega (arith, more, less, some)

-- so some member of each group supports winners enough
pub groups_have_winners : (m : Measure) (s : SupportView) (share : ℕ) (elected : List ElectedView) (rests : List ℕ)
    → IsRun m s share elected rests → GroupsHaveWinners m s share elected
groups_have_winners m s share elected rests run place amount is_member left covers =
    let (k, voter, below, here, above) = run_is_fair_to_groups m s share elected rests run place amount is_member left covers in (
      k,
      voter,
      below,
      here,
      enough_winners share (paid_within m s share elected place amount voter) amount
          (sum_by (λ w. weight_of m s w.place) (supported_by s voter elected)) (weight_of m s place)
          (weight_positive m s run.is_support place left.0) above
          (within_weighs m s place amount elected (replicate s.voters share) voter),
    )
