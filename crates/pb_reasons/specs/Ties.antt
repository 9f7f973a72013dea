-- The ties of a count that the order of the projects decided.
use Rattle.std.specs.Prelude.{ℕ, ◌+◌, ◌*◌, ◌==◌, ◌&&◌, Bool, false, List, [], None, Some, filter}
use Rattle.std.specs.Prelude.{length, map, not, replicate, slice_get, take}
use Rattle.std.specs.List.{range_with_len}
use Rattle.std.specs.Option.{option_map_or}
use Rattle.pb_price.specs.Price.{price_at}
use Rattle.pb_price.specs.Supporters.{SupportView, cost_at}
use Rattle.pb_rounds.specs.Cheapest.{rests_after}
use Rattle.pb_rounds.specs.MostVotes.{is_taken, votes_at}
use Rattle.pb_rounds.specs.Run.{ElectedView, is_elected, weight_of}
use Rattle.pb_rounds.specs.declared.measure.Measure.{Measure}
use Rattle.pb_reasons.specs.Counted.{CountedView, winners_of}
use Rattle.pb_reasons.specs.declared.tie.Tie.{Tie}

-- the project at this place is not elected, and has a price at these rests that is as good as the winner's: the
-- same, or under measure cost the same for its cost, compared by cross products
abbrev pub is_tied : Measure → SupportView → (elected : List ElectedView) (rests : List ℕ) (winner : ElectedView) → ℕ → Bool
is_tied m s elected rests winner place = not (is_elected elected place) && option_map_or
    (λ price. price.amount * (winner.exact.payers * weight_of m s winner.place)
    == winner.exact.amount * (price.payers * weight_of m s place)) (price_at s rests place) false

-- the ties of a round, from 0, in the order of the projects, with those not elected up to then; its rests are those after
-- the rounds before it
abbrev pub ties_in : Measure → SupportView → (share : ℕ) (elected : List ElectedView) → (round : ℕ) → List Tie
ties_in m s share elected round =
    let rests = rests_after s (replicate s.voters share) (take round elected) in option_map_or
    (λ w. map (λ place. record { round = Some (round + 1); winner = w.place; other = place })
    (filter (is_tied m s (take (round + 1) elected) rests w) (range_with_len 0 (length s.costs)))) (slice_get elected round) []

-- the ties of an added project, in the order of the projects: with each that did not win, and has as many votes and
-- the same cost
abbrev pub ties_with_added : SupportView → CountedView → (winner : ℕ) → List Tie
ties_with_added s c winner = map (λ place. record { round = None; winner = winner; other = place })
    (filter (λ place. not (is_taken (winners_of c) place) && ((votes_at s place == votes_at s winner)
    && (cost_at s place == cost_at s winner))) (range_with_len 0 (length s.costs)))
