-- Elections: their projects, their voters and their limits.
use Rattle.std.specs.Prelude.{◌≢◌, ℕ, ◌<◌, ◌≤◌, List, [], length, All, Option, map}
use Rattle.std.specs.List.{AllPairs}
use Rattle.std.specs.List.Sorted.{IsStrictlyIncreasing}
use Rattle.pb_core.specs.Ballot.{IsVoterId}
use Rattle.pb_core.specs.Money.{largest_money}

-- what contracts see of a project; the cost is in hundredths
pub record ProjectView : Type 0 where
  pub id : List ℕ
  pub name : List ℕ
  pub cost : ℕ

-- what contracts see of a voter; the ballot lists the places of the approved projects
pub record VoterView : Type 0 where
  pub id : List ℕ
  pub ballot : List ℕ

-- what contracts see of an election: projects and voters stand in file order, and the length of a ballot that
-- a clerk asks for may have a limit
pub record ElectionView : Type 0 where
  pub budget : ℕ
  pub max_length : Option ℕ
  pub projects : List ProjectView
  pub voters : List VoterView

-- a project has an id, and costs something
pub record IsProject (p : ProjectView) : Type 0 where
  pub has_id : p.id ≢ []
  pub costs : 0 < p.cost
  pub affordable : p.cost ≤ largest_money

-- a voter approves some of this many projects; a ballot is a list of places that rises, so that none stands
-- twice
pub record IsVoter (projects : ℕ) (v : VoterView) : Type 0 where
  pub has_id : IsVoterId v.id
  pub ballot_rises : IsStrictlyIncreasing v.ballot
  pub ballot_known : All (λ place. place < projects) v.ballot

abbrev pub project_ids : ElectionView → List (List ℕ)
project_ids e = map (λ p. p.id) e.projects

abbrev pub voter_ids : ElectionView → List (List ℕ)
voter_ids e = map (λ v. v.id) e.voters

-- the most projects and voters that an election has
abbrev pub most_projects : ℕ
most_projects = 10000

abbrev pub most_voters : ℕ
most_voters = 1000000

-- what is true of every election; no two of the ids are the same
pub record IsElection (e : ElectionView) : Type 0 where
  pub budget_bounded : e.budget ≤ largest_money
  pub few_projects : length e.projects ≤ most_projects
  pub few_voters : length e.voters ≤ most_voters
  pub are_projects : All IsProject e.projects
  pub are_voters : All (IsVoter (length e.projects)) e.voters
  pub projects_differ : AllPairs (λ a b. a ≢ b) (project_ids e)
  pub voters_differ : AllPairs (λ a b. a ≢ b) (voter_ids e)
