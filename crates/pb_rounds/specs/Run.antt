-- A run of the Method of Equal Shares at one share.
use Rattle.std.specs.Prelude.{ℕ, zero, suc, Bool, Option, List, [], ◌∷◌, ◌-◌, ◌==◌, not, map, filter}
use Rattle.std.specs.Prelude.{filter_map, length, min, option_map, slice_index, replicate, if◌then◌else◌}
use Rattle.std.specs.List.{list_any, range_with_len}
use Rattle.std.specs.Option.{option_map_or}
use Rattle.pb_core.specs.Election.{ElectionView}
use Rattle.pb_price.specs.Supporters.{SupportView, support_in, supporters_at, cost_at}
use Rattle.pb_price.specs.declared.grain.Grain.{Grain}
use Rattle.pb_price.specs.Price.{PriceView, due, paid_at, price_at}
use Rattle.pb_rounds.specs.Key.{KeyView, first_least, is_before}
use Rattle.pb_rounds.specs.declared.measure.Measure.{Measure}
use Rattle.pb_rounds.specs.declared.measure.Measure.TheVariants.{Votes, Cost}

-- an elected project: its place, what each supporter paid at most, which is its price rounded down, that price
-- as it is, and the sum of the payments
pub record ElectedView : Type 0 where
  pub place : ℕ
  pub price : ℕ
  pub exact : PriceView
  pub collected : ℕ

-- what a run gives: the elected in order of election, and what is left of each voter's share
pub record RunView : Type 0 where
  pub elected : List ElectedView
  pub rests : List ℕ

-- what a price is divided by: nothing under measure votes, the cost under measure cost
abbrev pub weight_of : Measure → SupportView → ℕ → ℕ
weight_of Votes s place = 1
weight_of Cost s place = cost_at s place

module _ (m : Measure) (s : SupportView) where
  -- the key of the project at this place; every key is written so
  abbrev pub key_of : ℕ → PriceView → KeyView
  key_of place price = record { price = price; weight = weight_of m s place; place = place }

  -- the project with its price at these rests, where it has one
  abbrev pub key_at : List ℕ → ℕ → Option KeyView
  key_at rests place = option_map (key_of place) (price_at s rests place)

  -- the keys of the projects left, in file order
  abbrev pub keys_at : List ℕ → List ℕ → List KeyView
  keys_at rests left = filter_map (key_at rests) left

  -- the best project of a round: the least price over weight among the projects left, the first one
  -- among equals
  unfoldable pub best_of : List ℕ → List ℕ → Option KeyView
  best_of rests left = first_least is_before (keys_at rests left)

-- what a voter pays: a supporter the price, or all that is left where that is less; nobody else anything
abbrev pub payment_of : List ℕ → ℕ → List ℕ → ℕ → ℕ
payment_of supporters p rests v = if list_any (λ m. m == v) supporters then min (slice_index rests v) p else 0

-- the rests once each voter paid
unfoldable pub charged : List ℕ → ℕ → List ℕ → List ℕ
charged supporters price rests =
    map (λ v. slice_index rests v - payment_of supporters price rests v) (range_with_len 0 (length rests))

-- the project elected by this key
abbrev pub elected_by : SupportView → List ℕ → KeyView → ElectedView
elected_by s rests k = record {
  place = k.place;
  price = due k.price;
  exact = k.price;
  collected = paid_at (supporters_at s k.place) rests (due k.price);
}

-- the projects left without the one at this place
abbrev pub without : ℕ → List ℕ → List ℕ
without place left = filter (λ p. not (p == place)) left

abbrev pub then_run : ElectedView → RunView → RunView
then_run w run = record { elected = w ∷ run.elected; rests = run.rests }

module _ (m : Measure) (s : SupportView) where
  -- a run of this many rounds at most: while there is a best project it is elected, and its supporters pay
  unfoldable pub run_from : ℕ → List ℕ → List ℕ → RunView
  run_from zero rests left = record { elected = []; rests = rests }
  run_from (suc rounds) rests left =
      option_map_or
      (λ k. then_run (elected_by s rests k)
      (run_from rounds (charged (supporters_at s k.place) (due k.price) rests) (without k.place left)))
      (best_of m s rests left)
      (record { elected = []; rests = rests })

  -- a run at a share: all projects are left, and every voter's rest is the share
  unfoldable pub run_of : ℕ → RunView
  run_of share =
      run_from (length s.costs) (replicate s.voters share) (range_with_len 0 (length s.costs))

-- the outcome of an election at a share, counted so finely
abbrev pub outcome_of : Measure → Grain → ElectionView → ℕ → RunView
outcome_of m grain e share = run_of m (support_in grain e) share

abbrev pub is_elected : List ElectedView → ℕ → Bool
is_elected elected place = list_any (λ w. w.place == place) elected
