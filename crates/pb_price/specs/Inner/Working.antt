-- What a worker has drawn and answered, and what its answers become together.
use Rattle.std.specs.Prelude.{◌≡◌, ℕ, ◌<◌, ◌≤◌, ◌*◌, List, [], ◌∷◌, ◌++◌, Option, None, All, length, map}
use Rattle.std.specs.Prelude.{fold, count_by, nat_eq, nat_lt, slice_index, slice_index_or, slice_set}
use Rattle.pb_core.specs.Election.{most_projects}
use Rattle.pb_price.specs.Inner.Claims.{past_end}
use Rattle.pb_price.specs.Price.{PriceView, price_at, AreRests}
use Rattle.pb_price.specs.Supporters.{SupportView}
use Rattle.pb_price.specs.declared.answer.Answer.{Answer}
use Rattle.pb_price.specs.declared.claims.drawn.Drawn.{Drawn}

-- what the workers of a batch price: these projects, each a piece, at these rests
pub record IsBatch (s : SupportView) (rests projects : List ℕ) (pieces : ℕ) : Type 0 where
  pub are_rests : AreRests s.voters rests
  pub known : All (λ place. place < length s.costs) projects
  pub few : length projects ≤ most_projects
  pub are_pieces : pieces ≡ length projects

-- the price of the piece's project
pub record IsAnswer (s : SupportView) (rests projects : List ℕ) (answer : Answer) : Type 0 where
  pub is_piece : answer.piece < length projects
  pub is_price : answer.price ≡ price_at s rests (slice_index projects answer.piece)

-- a worker at work: it has an answer for each number that it drew
pub record IsWorking (s : SupportView) (rests projects : List ℕ) (v : Drawn)
    (answers : List Answer) : Type 0 where
  pub one_seat : v.seats ≡ 1
  pub drawn : v.numbers ≡ map (λ answer. answer.piece) answers
  pub right : All (IsAnswer s rests projects) answers
  pub few : length answers ≤ length projects

-- a worker that is done: so for each number but the last, which is no piece
pub record IsDone (s : SupportView) (rests projects : List ℕ) (v : Drawn)
    (answers : List Answer) : Type 0 where
  pub last : ℕ
  pub is_past_end : length projects ≤ last
  pub one_seat : v.seats ≡ 1
  pub drawn : v.numbers ≡ map (λ answer. answer.piece) answers ++ last ∷ []
  pub right : All (IsAnswer s rests projects) answers
  pub few : length answers ≤ length projects

-- the prices after each answer was put in its piece's place
abbrev pub placed : List (Option PriceView) → List Answer → List (Option PriceView)
placed prices answers = fold (λ before answer. slice_set before answer.piece answer.price) prices answers

-- the prices after the answers of some workers were put in their places, the last one's first
abbrev pub gathered : {W : Type 0} → (W → List Answer) → List (Option PriceView) → List W → List (Option PriceView)
gathered answers prices [] = prices
gathered answers prices (w ∷ workers) = placed (gathered answers prices workers) (answers w)

-- how often a number was drawn, and how many pieces were
abbrev pub times : ℕ → List ℕ → ℕ
times number numbers = count_by (λ n. nat_eq n number) numbers

abbrev pub drawn_pieces : ℕ → List ℕ → ℕ
drawn_pieces pieces numbers = count_by (λ n. nat_lt n pieces) numbers

-- the answers of some workers, gathered: each piece that they drew has its price, as many were priced as
-- pieces drawn, and each worker drew a number that is no piece
pub record AreGathered (s : SupportView) (rests projects : List ℕ) (v : Drawn) (prices : List (Option PriceView))
    (priced : ℕ) : Type 0 where
  pub one_each : length prices ≡ length projects
  pub right : (piece : ℕ) → piece < length projects → 0 < times piece v.numbers
      → slice_index_or prices piece None ≡ price_at s rests (slice_index projects piece)
  pub counted : priced ≡ drawn_pieces (length projects) v.numbers
  pub past_end_each : v.seats ≤ past_end (length projects) v.numbers
  pub fits : priced ≤ v.seats * most_projects
