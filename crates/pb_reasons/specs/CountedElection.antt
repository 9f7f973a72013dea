-- An election, and what its count by a rule comes to.
use Rattle.std.specs.Prelude.{◌≡◌, ℕ, List, length, map}
use Rattle.std.specs.List.{range_with_len}
use Rattle.pb_core.specs.Election.{ElectionView, IsElection}
use Rattle.pb_core.specs.Order.{IsOrder, position_in}
use Rattle.pb_reasons.specs.Counted.{CountedView, IsCountBy, counted}
use Rattle.pb_rounds.specs.Counted.{IsCountFault, IsCountOf}
use Rattle.pb_rounds.specs.TieOrder.{IsSortedFor}
use Rattle.pb_rounds.specs.declared.count_fault.CountFault.{CountFault}
use Rattle.pb_rounds.specs.declared.rule.Rule.{Rule}

-- an election whose projects stand as ties take them, the place of each in the file, the rule by which it is counted,
-- and what the count comes to
pub record CountedElectionView : Type 0 where
  pub election : ElectionView
  pub order : List ℕ
  pub rule : Rule
  pub counted : CountedView

-- its projects as they stand in the file
abbrev pub in_file : CountedElectionView → List ℕ
in_file x = map (position_in x.order) (range_with_len 0 (length x.election.projects))

-- the count of an election by the rule comes to this
pub record IsCountedElection (c : CountedElectionView) : Type 0 where
  pub is_election : IsElection c.election
  pub is_order : IsOrder c.order
  pub one_each : length c.order ≡ length c.election.projects
  pub is_count : IsCountOf c.election c.rule.options c.counted.outcome
  pub is_filled_up : c.counted ≡ counted c.election c.rule.fill_up c.counted.outcome

-- it is a count by this rule of an election that stands in its file so
abbrev pub IsCountIn : Rule → ElectionView → CountedElectionView → Type 0
IsCountIn rule e x =
    (x.rule ≡ rule) × IsSortedFor rule.ties e x.order x.election × IsCountBy rule x.election x.counted

-- the count by this rule of an election that stands in its file so has this fault
abbrev pub IsFaultIn : Rule → ElectionView → CountFault → Type 0
IsFaultIn rule e fault = (order : List ℕ) × (sorted : ElectionView)
    × IsSortedFor rule.ties e order sorted × IsCountFault sorted rule.options fault
