-- What the counts of a changed election say of a project, and what a search of such changes finds.
use Rattle.std.specs.Prelude.{◌≡◌, ◌≢◌, ℕ, ◌+◌, ◌-◌, ◌*◌, ◌^◌, ◌<◌, ◌≤◌, ◌⊎◌, Bool, true, false, List, [], ◌∷◌, ◌++◌, if◌then◌else◌}
use Rattle.std.specs.Prelude.{length, map, min, replicate, slice_set}
use Rattle.pb_core.specs.Election.{ElectionView, IsElection, most_voters, project_ids}
use Rattle.pb_core.specs.Money.{largest_money}
use Rattle.pb_core.specs.Order.{position_in}
use Rattle.pb_reasons.specs.Counted.{is_selected}
use Rattle.pb_reasons.specs.CountedElection.{CountedElectionView, IsCountIn, IsFaultIn}
use Rattle.pb_rounds.specs.declared.count_fault.CountFault.TheVariants.{RaisesSpent, TooFine}
use Rattle.pb_reasons.specs.declared.changes.change.Change.{Change}
use Rattle.pb_reasons.specs.declared.changes.change.Change.TheVariants.{Cost, Voters}
use Rattle.pb_reasons.specs.declared.changes.change.Row.{Row}
use Rattle.pb_reasons.specs.declared.changes.change.Verdict.{Verdict}
use Rattle.pb_reasons.specs.declared.changes.change.Verdict.TheVariants.{Lost, Won, Refused}
use Rattle.pb_reasons.specs.declared.changes.found.WhatIf.{WhatIf}
use Rattle.pb_reasons.specs.declared.changes.question.Question.{Question}

-- what a count reads of an election: the budget, the projects' ids (by which a lot is drawn), the costs and the ballots,
-- but no ids of voters and no names
pub record Seen : Type 0 where
  pub budget : ℕ
  pub ids : List (List ℕ)
  pub costs : List ℕ
  pub ballots : List (List ℕ)

abbrev pub seen : ElectionView → Seen
seen e = let costs = map (λ p. p.cost) e.projects in
    record { budget = e.budget; ids = project_ids e; costs = costs; ballots = map (λ v. v.ballot) e.voters }

-- the same with this cost for the project at this place, or with so many further voters who approve it alone
abbrev pub changed : Change → (place value : ℕ) → Seen → Seen
changed Cost place value s = record s { costs = slice_set s.costs place value }
changed Voters place value s = record s { ballots = s.ballots ++ replicate value (place ∷ []) }

-- a change that leaves an election
abbrev pub CanBe : Seen → Change → ℕ → Type 0
CanBe s Cost value = (0 < value) × (value ≤ largest_money)
CanBe s Voters value = length s.ballots + value ≤ most_voters

-- what the count of an election says of the project that is asked about: whether it elects or adds it
abbrev pub Says : ElectionView → Question → Verdict → Type 0
Says e q Refused = IsFaultIn q.rule e RaisesSpent ⊎ IsFaultIn q.rule e TooFine
Says e q verdict = (x : CountedElectionView) × IsCountIn q.rule e x
    × (verdict ≡ (if is_selected x.counted (position_in x.order q.place) then Won else Lost))

-- the row says what the count of an election says in which a count reads what is so changed
unfoldable pub IsTrue : Seen → Question → Change → Row → Type 0
IsTrue s q change row =
    (e : ElectionView) × IsElection e × (seen e ≡ changed change q.place row.value s) × Says e q row.verdict

-- whether a verdict is that the project wins
abbrev pub wins : Verdict → Bool
wins Won = true
wins verdict = false

-- What a search of a change from one value to another finds: two true rows. If both win, or neither wins, they
-- are its two ends; if one wins and the other does not, they are one step apart.
pub record IsFound (s : Seen) (q : Question) (change : Change) (low high : ℕ) (a b : Row) : Type 0 where
  pub first_is : IsTrue s q change a
  pub second_is : IsTrue s q change b
  pub agree : wins a.verdict ≡ wins b.verdict → (a.value ≡ low) × (b.value ≡ high)
  pub differ : wins a.verdict ≢ wins b.verdict → (low ≤ a.value) × (b.value ≡ a.value + 1) × (b.value ≤ high)

-- What is found for a project of this cost: for a winner, costs from its own to ten times that, at most the
-- largest, and no further voters; for a loser, costs from 0.01 to its own, and further voters from none to as many
-- as there are, fewer if there would be more than 1,000,000, found by doubling: with 1, 2, 4, 8 and so on below
-- the second number that is found, the project loses, or the count is refused.
abbrev pub IsWhatIf : ElectionView → Question → (cost : ℕ) → WhatIf → Type 0
IsWhatIf e q cost w =
    Says e q Won × IsFound (seen e) q Cost cost (min (10 * cost) largest_money) w.cost.first w.cost.second
    × IsFound (seen e) q Voters 0 0 w.voters.first w.voters.second
    ⊎ Says e q Lost × IsFound (seen e) q Cost 1 cost w.cost.first w.cost.second × IsFound (seen e) q Voters 0
    (min (length e.voters) (most_voters - length e.voters)) w.voters.first w.voters.second
    × ((k : ℕ) → 2 ^ k < w.voters.second.value → (v : Verdict) × (wins v ≡ false)
    × IsTrue (seen e) q Voters (record { value = 2 ^ k; verdict = v }))
