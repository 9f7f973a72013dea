-- Who supports a project.
use Rattle.std.specs.Prelude.{◌≡◌, ◌==◌, ℕ, ◌<◌, ◌^◌, All, List, [], length, map, filter, slice_index, slice_index_or}
use Rattle.std.specs.List.{list_any, range_with_len}
use Rattle.pb_core.specs.Election.{ElectionView, IsElection}
use Rattle.pb_price.specs.Grain.{in_parts}
use Rattle.pb_price.specs.declared.grain.Grain.{Grain}
use Rattle.pb_price.specs.declared.grain.Grain.TheVariants.{Hundredths}

-- the ballot of the voter at this position
abbrev pub ballot_at : ElectionView → ℕ → List ℕ
ballot_at e voter = slice_index_or (map (λ v. v.ballot) e.voters) voter []

-- the supporters of the project at this place: the voters whose ballot approves it, by position
unfoldable pub supporters_of : ElectionView → ℕ → List ℕ
supporters_of e place =
    filter (λ voter. list_any (λ p. p == place) (ballot_at e voter)) (range_with_len 0 (length e.voters))

-- what a count needs of an election: how finely it counts, the number of voters, and for each project its cost,
-- in hundredths, and its supporters
pub record SupportView : Type 0 where
  pub grain : Grain
  pub voters : ℕ
  pub costs : List ℕ
  pub supporters : List (List ℕ)

-- the supporters of each project of an election, in file order, for a count so fine
abbrev pub support_in : Grain → ElectionView → SupportView
support_in grain e = record {
  grain = grain;
  voters = length e.voters;
  costs = map (λ p. p.cost) e.projects;
  supporters = map (supporters_of e) (range_with_len 0 (length e.projects));
}

-- the same for a count in hundredths
abbrev pub support_of : ElectionView → SupportView
support_of e = support_in Hundredths e

-- the supporters of the project at this place
abbrev pub supporters_at : SupportView → ℕ → List ℕ
supporters_at s place = slice_index_or s.supporters place []

-- the cost of the project at this place
abbrev pub cost_at : SupportView → ℕ → ℕ
cost_at s place = slice_index s.costs place

-- the same in the parts that are counted
abbrev pub cost_in_parts : SupportView → ℕ → ℕ
cost_in_parts s place = in_parts s.grain s.voters (cost_at s place)

-- these are the supporters of an election, and its costs are not too large to be counted so finely
abbrev pub IsSupport : SupportView → Type 0
IsSupport s = (e : ElectionView) × IsElection e × (s ≡ support_in s.grain e)
    × All (λ cost. in_parts s.grain s.voters cost < 2 ^ 64) s.costs
