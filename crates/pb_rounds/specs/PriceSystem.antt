-- Price systems: payments that explain an outcome.
use Rattle.std.specs.Prelude.{◌≡◌, ℕ, List, ◌+◌, ◌<◌, ◌≤◌, ◌≢◌, length, slice_index, sum, sum_by, All}
use Rattle.std.specs.Prelude.{Contains}
use Rattle.std.specs.List.{AllZip}
use Rattle.pb_price.specs.Supporters.{SupportView, supporters_at, cost_in_parts}
use Rattle.pb_price.specs.declared.grain.Grain.{Grain}
use Rattle.pb_price.specs.declared.grain.Grain.TheVariants.{Hundredths, Fine}
use Rattle.pb_price.specs.Price.{total_rest}
use Rattle.pb_rounds.specs.Run.{ElectedView}

-- The payments of so many supporters cover the cost, and rounding collects less than one hundredth a supporter
-- beyond it; in fine money they are at most the cost, and rounding leaves less than one part a supporter of it.
abbrev pub IsCollected : Grain → (cost supporters collected : ℕ) → Type 0
IsCollected Hundredths cost supporters collected = (cost ≤ collected) × (collected < cost + supporters)
IsCollected Fine cost supporters collected = (collected ≤ cost) × (cost < collected + supporters)

module _ (s : SupportView) where
  -- What each voter pays for one elected project; rests are what the voters have left at the end. Only
  -- supporters pay, each at most the price, rounded down. Together they pay what is collected, which is the cost but
  -- for what is rounded. A supporter who paid less than the price, rounded down, has nothing left.
  pub record PaysFor (rests : List ℕ) (w : ElectedView) (payments : List ℕ) : Type 0 where
    pub one_each : length payments ≡ s.voters
    pub by_supporters : (v : ℕ) → ¬ Contains (supporters_at s w.place) v → slice_index payments v ≡ 0
    pub within_price : (v : ℕ) → slice_index payments v ≤ w.price
    pub collected : sum payments ≡ w.collected
    pub covered : IsCollected s.grain (cost_in_parts s w.place) (length (supporters_at s w.place)) w.collected
    pub spent : (v : ℕ) → Contains (supporters_at s w.place) v → slice_index payments v < w.price
        → slice_index rests v ≡ 0

  -- Priceability (Peters and Skowron 2020; Peters, Pierczynski and Skowron 2021), in whole payments: a list for
  -- each elected project, with a payment of each voter, that explain whom an election at this share elected. A
  -- voter's payments and rest are the share, and a project that is not elected costs more than its supporters
  -- have left together. No round is named.
  pub record IsPriceSystem (share : ℕ) (elected : List ElectedView) (rests : List ℕ)
      (payments : List (List ℕ)) : Type 0 where
    pub paid : AllZip (PaysFor rests) elected payments
    pub endowed : (v : ℕ) → v < s.voters → sum_by (λ row. slice_index row v) payments + slice_index rests v
        ≡ share
    pub too_expensive : (place : ℕ) → place < length s.costs → All (λ w. w.place ≢ place) elected
        → total_rest (supporters_at s place) rests < cost_in_parts s place
