-- Whether an outcome is exhausted, as private contracts tell it.
use Rattle.std.specs.Prelude.{ℕ, ◌&&◌, Bool, true, false, List, nat_le, not}
use Rattle.pb_core.specs.Election.{ElectionView}
use Rattle.pb_rounds.specs.MostVotes.{is_taken}
use Rattle.pb_price.specs.Supporters.{cost_at, support_of}
use Rattle.pb_rounds.specs.Completed.{IsExhausted}
use Rattle.pb_rounds.specs.Outcome.{OutcomeView}

abbrev pub TellsExhausted : ElectionView → OutcomeView → Bool → Type 0
TellsExhausted e o true = IsExhausted (support_of e) e.budget o.elected
TellsExhausted e o false = ¬ IsExhausted (support_of e) e.budget o.elected

-- the project at this place is not among these winners of an election, and it costs at most what is left
abbrev pub leave_room_for : ElectionView × List ℕ → (left place : ℕ) → Bool
leave_room_for winners left place =
    not (is_taken winners.1 place) && nat_le (cost_at (support_of winners.0) place) left
