-- What people pay together at a price, and how prices stand to each other.
use Rattle.std.specs.Prelude.{ℕ, ◌<◌, List, MatchOption, Option, count_by, nat_le, nat_lt}
use Rattle.std.specs.Prelude.{slice_index, sum_by, if◌then◌else◌}
use Rattle.pb_price.specs.Price.{IsLeastPayment, PriceView, total_rest}

-- the answer is the least payment by which these supporters cover this cost; none, where they have less left
-- together
abbrev pub IsPriceFor : List ℕ → List ℕ → ℕ → Option ℕ → Type 0
IsPriceFor supporters rests cost answer =
    MatchOption answer (total_rest supporters rests < cost) (IsLeastPayment supporters rests cost)

-- how many of the supporters have more left than p
abbrev pub payers_above : List ℕ → List ℕ → ℕ → ℕ
payers_above supporters rests p = count_by (λ voter. nat_lt p (slice_index rests voter)) supporters

-- how many of the supporters have at least p left, and what the others have together
abbrev pub payers_from : List ℕ → List ℕ → ℕ → ℕ
payers_from supporters rests p = count_by (λ voter. nat_le p (slice_index rests voter)) supporters

abbrev pub total_below : List ℕ → List ℕ → ℕ → ℕ
total_below supporters rests p =
    sum_by (λ voter. if nat_le p (slice_index rests voter) then 0 else slice_index rests voter) supporters

-- the price at which nobody pays anything
abbrev pub nothing : PriceView
nothing = record { amount = 0; payers = 1 }
