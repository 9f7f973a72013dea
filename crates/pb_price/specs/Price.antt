-- The price of a project: what its supporters pay, and when they cover its cost.
use Rattle.std.specs.Prelude.{◌≡◌, ℕ, ◌+◌, ◌-◌, ◌*◌, ◌/◌, ◌<◌, ◌≤◌, ◌⊎◌, ◌^◌, max, min, List, length, All, Option}
use Rattle.std.specs.Prelude.{MatchOption, count_by, nat_le, find, option_map, sum_by, slice_index}
use Rattle.std.specs.List.{range_with_len}
use Rattle.pb_price.specs.Supporters.{SupportView, supporters_at, cost_in_parts}
use Rattle.pb_price.specs.declared.grain.Grain.{Grain}
use Rattle.pb_price.specs.declared.grain.Grain.TheVariants.{Hundredths, Fine}

-- a price: an amount, divided by how many supporters pay it together
pub record PriceView : Type 0 where
  pub amount : ℕ
  pub payers : ℕ

-- what a supporter pays at most at a price, of which there is a payer or more: it is rounded down
abbrev pub due : PriceView → ℕ
due p = p.amount / max 1 p.payers

-- what the supporters pay together where each pays p, or all that is left where that is less
abbrev pub paid_at : List ℕ → List ℕ → ℕ → ℕ
paid_at supporters rests p = sum_by (λ voter. min (slice_index rests voter) p) supporters

-- what is left to the supporters together
abbrev pub total_rest : List ℕ → List ℕ → ℕ
total_rest supporters rests = sum_by (λ voter. slice_index rests voter) supporters

-- p is the least payment by which the supporters cover the cost
pub record IsLeastPayment (supporters rests : List ℕ) (cost p : ℕ) : Type 0 where
  pub covers : cost ≤ paid_at supporters rests p
  pub least : (q : ℕ) → q < p → paid_at supporters rests q < cost

-- The unrounded price: where each supporter pays it, or all that is left where that is less, they pay the cost
-- exactly. Its payers are those who can pay it in full.
pub record IsUnrounded (supporters rests : List ℕ) (cost : ℕ) (p : PriceView) : Type 0 where
  pub some : 0 < p.payers
  pub in_full : p.payers ≡ count_by (λ voter. nat_le p.amount (p.payers * slice_index rests voter)) supporters
  pub exactly : sum_by (λ voter. min (p.payers * slice_index rests voter) p.amount) supporters ≡ p.payers * cost

-- a price is the least payment that covers the cost, in whole hundredths, which each pays alone; in fine money
-- it is unrounded
abbrev pub IsPriceIn : Grain → (supporters rests : List ℕ) → (cost : ℕ) → PriceView → Type 0
IsPriceIn Hundredths supporters rests cost p = IsLeastPayment supporters rests cost p.amount × (p.payers ≡ 1)
IsPriceIn Fine supporters rests cost p = IsUnrounded supporters rests cost p

-- the price of the project at this place; there is none just where all that is left to its supporters together
-- is below the cost
abbrev pub IsPrice : SupportView → (rests : List ℕ) → (place : ℕ) → Option PriceView → Type 0
IsPrice s rests place answer =
    MatchOption answer (total_rest (supporters_at s place) rests < cost_in_parts s place)
    (IsPriceIn s.grain (supporters_at s place) rests (cost_in_parts s place))

-- the price is less than the other, or they are the same; each has some payers
abbrev pub AtMost : PriceView → PriceView → Type 0
AtMost p q = (p.amount * max 1 q.payers < q.amount * max 1 p.payers) ⊎ (p ≡ q)

-- what a price is of a project of these, or a lower bound of one: some of the voters pay it together; in
-- hundredths each pays it alone
pub record HasPayers (s : SupportView) (p : PriceView) : Type 0 where
  pub some : 1 ≤ p.payers
  pub few : p.payers ≤ max 1 s.voters
  pub alone : s.grain ≡ Hundredths → p.payers ≡ 1

-- the least payment as it is computed: the first, up to the cost, at which the supporters cover the cost
unfoldable pub price_of : List ℕ → List ℕ → ℕ → Option ℕ
price_of supporters rests cost =
    find (λ p. nat_le cost (paid_at supporters rests p)) (range_with_len 0 (cost + 1))

-- the price as it is computed from that: in fine money as many as have so much left pay so much, less what all
-- then pay above the cost
abbrev pub price_from : Grain → (supporters rests : List ℕ) → (cost least : ℕ) → PriceView
price_from Hundredths supporters rests cost least = record { amount = least; payers = 1 }
price_from Fine supporters rests cost least =
    let payers = count_by (λ voter. nat_le least (slice_index rests voter)) supporters in
    record { amount = cost + payers * least - paid_at supporters rests least; payers = payers }

-- the same of the project at this place
abbrev pub price_at : SupportView → List ℕ → ℕ → Option PriceView
price_at s rests place = option_map (price_from s.grain (supporters_at s place) rests (cost_in_parts s place))
    (price_of (supporters_at s place) rests (cost_in_parts s place))

-- the largest share of the budget that a voter is given, in the parts that are counted
abbrev pub largest_share : ℕ
largest_share = 2 ^ 64 - 1

-- what is left to each voter of a share: one rest for each, none above the largest share
pub record AreRests (voters : ℕ) (rests : List ℕ) : Type 0 where
  pub one_each : length rests ≡ voters
  pub bounded : All (λ rest. rest ≤ largest_share) rests

-- what a tally shows: how many prices were computed, and how many workers computed them, list by list
pub record TallyView : Type 0 where
  pub prices : ℕ
  pub workers : ℕ
