-- What each voter pays for the elected of a run.
use Rattle.std.specs.Prelude.{ℕ, List, [], ◌∷◌, length, map}
use Rattle.std.specs.List.{range_with_len}
use Rattle.pb_price.specs.Supporters.{SupportView, supporters_at}
use Rattle.pb_rounds.specs.Run.{ElectedView, charged, payment_of}

-- what each voter pays
unfoldable pub payments_of : List ℕ → ℕ → List ℕ → List ℕ
payments_of supporters price rests = map (payment_of supporters price rests) (range_with_len 0 (length rests))

-- what each voter pays for each of the elected, one after the other, out of these rests
unfoldable pub paid_in_turn : SupportView → List ℕ → List ElectedView → List (List ℕ)
paid_in_turn s rests [] = []
paid_in_turn s rests (w ∷ elected) =
    payments_of (supporters_at s w.place) w.price rests
    ∷ paid_in_turn s (charged (supporters_at s w.place) w.price rests) elected
