-- Voters whose ids are numbers.
use Rattle.std.specs.Prelude.{◌≡◌, ℕ, ◌≤◌, List, All, decimal, length, map}
use Rattle.std.specs.List.{range_with_len}
use Rattle.pb_core.specs.Election.{IsVoter, VoterView, most_voters}

-- voters of an election with so many projects, the first one with the id 0, the next with 1, and so on
pub record AreNumbered (projects : ℕ) (voters : List VoterView) : Type 0 where
  pub few : length voters ≤ most_voters
  pub are_voters : All (IsVoter projects) voters
  pub numbered : map (λ v. v.id) voters ≡ map decimal (range_with_len 0 (length voters))
