-- The projects that may be added, as the program lists and passes over them.
use Rattle.std.specs.Prelude.{ℕ, ◌-◌, ◌&&◌, Bool, not, nat_le, nat_lt, List, [], ◌∷◌, filter, length, map}
use Rattle.std.specs.Prelude.{if◌then◌else◌}
use Rattle.std.specs.List.{range_with_len}
use Rattle.pb_price.specs.Supporters.{SupportView, cost_at}
use Rattle.pb_rounds.specs.MostVotes.{is_taken, votes_at}
use Rattle.pb_rounds.specs.declared.by_votes.candidate.Candidate.{Candidate}

-- whether the project at this place has a supporter and is not taken
abbrev pub may_be_added : SupportView → List ℕ → ℕ → Bool
may_be_added s taken place = nat_lt 0 (votes_at s place) && not (is_taken taken place)

abbrev pub candidate_of : SupportView → ℕ → Candidate
candidate_of s place = record { votes = record { 0 = votes_at s place }; cost = cost_at s place; place = place }

unfoldable pub candidates_of : SupportView → List ℕ → List Candidate
candidates_of s taken = map (candidate_of s) (filter (may_be_added s taken) (range_with_len 0 (length s.costs)))

-- the places of the candidates that can be paid, one after the other
unfoldable pub affordable : ℕ → List Candidate → List ℕ
affordable left [] = []
affordable left (c ∷ candidates) =
    if nat_le c.cost left then c.place ∷ affordable (left - c.cost) candidates else affordable left candidates
