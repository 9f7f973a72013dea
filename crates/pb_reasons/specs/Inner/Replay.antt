-- How many pay in full when the rounds are replayed.
use Rattle.std.specs.Prelude.{ℕ, ◌==◌, List, [], ◌∷◌, count_by, min, slice_index}
use Rattle.pb_price.specs.Supporters.{SupportView, supporters_at}
use Rattle.pb_rounds.specs.Run.{ElectedView, charged}

-- how many of the supporters pay the whole price
abbrev pub full_payers : List ℕ → ℕ → List ℕ → ℕ
full_payers supporters price rests = count_by (λ voter. min (slice_index rests voter) price == price) supporters

-- the same for each of the elected, one after the other, out of these rests
unfoldable pub full_payers_by_round : SupportView → List ℕ → List ElectedView → List ℕ
full_payers_by_round s rests [] = []
full_payers_by_round s rests (w ∷ elected) =
    full_payers (supporters_at s w.place) w.price rests
    ∷ full_payers_by_round s (charged (supporters_at s w.place) w.price rests) elected
