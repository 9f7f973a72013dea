-- What the parts of a search know.
use Rattle.std.specs.Prelude.{◌≡◌, ◌≢◌, ℕ, ◌+◌, ◌<◌, ◌≤◌, Bool, true, false, Some, length, map, take}
use Rattle.pb_core.specs.Election.{ElectionView}
use Rattle.pb_core.specs.Order.{position_in}
use Rattle.pb_reasons.specs.Counted.{is_selected}
use Rattle.pb_reasons.specs.CountedElection.{CountedElectionView, IsCountIn}
use Rattle.pb_rounds.specs.CountFault.{refusal_of}
use Rattle.pb_rounds.specs.declared.count_fault.CountFault.{CountFault}
use Rattle.pb_rounds.specs.declared.count_fault.CountFault.TheVariants.{NoMemory}
use Rattle.pb_reasons.specs.Inner.Numbered.{AreNumbered}
use Rattle.pb_reasons.specs.WhatIf.{CanBe, IsTrue, Says, Seen, changed, seen, wins}
use Rattle.pb_reasons.specs.declared.changes.change.Change.{Change}
use Rattle.pb_reasons.specs.declared.changes.change.Change.TheVariants.{Cost, Voters}
use Rattle.pb_reasons.specs.declared.changes.change.Row.{Row}
use Rattle.pb_reasons.specs.declared.changes.change.Verdict.{Verdict}
use Rattle.pb_reasons.specs.declared.changes.change.Verdict.TheVariants.{Lost, Won}
use Rattle.pb_reasons.specs.declared.changes.question.Question.{Question}

-- whether the count of an election elects or adds the project that is asked about
abbrev pub HasWon : ElectionView → Question → Bool → Type 0
HasWon e q won =
    (x : CountedElectionView) × IsCountIn q.rule e x × (is_selected x.counted (position_in x.order q.place) ≡ won)

-- how many further voters a change has
abbrev pub further_of : Change → ℕ → ℕ
further_of Cost value = 0
further_of Voters value = value

-- an election so changed, whose first voters are those that were lent to it
pub record IsLent (s : Seen) (change : Change) (place value : ℕ) (e : ElectionView) : Type 0 where
  pub so_changed : seen e ≡ changed change place value s
  pub numbered : AreNumbered (length s.costs) (take (length s.ballots) e.voters)
  pub ballots : map (λ v. v.ballot) (take (length s.ballots) e.voters) ≡ s.ballots

-- a fault that leaves no verdict: out of memory, or options that are out of their ranges
pub record IsStop (q : Question) (fault : CountFault) : Type 0 where
  pub out_of_range : fault ≢ NoMemory → refusal_of q.rule.options ≡ Some fault

-- two true rows of one change of a project, the smaller value first
pub record AreEnds (s : Seen) (q : Question) (change : Change) (low high : Row) : Type 0 where
  pub within : q.place < length s.costs
  pub low_is : IsTrue s q change low
  pub high_is : IsTrue s q change high
  pub ordered : low.value < high.value
  pub from : CanBe s change low.value
  pub to : CanBe s change high.value

-- two such rows of a range, of which one wins and the other does not
pub record AreOpposed (s : Seen) (q : Question) (change : Change) (least most : ℕ) (low high : Row) : Type 0 where
  pub ends : AreEnds s q change low high
  pub one_wins : wins low.verdict ≢ wins high.verdict
  pub from : least ≤ low.value
  pub to : high.value ≤ most

-- the same, one step apart
pub record AreNear (s : Seen) (q : Question) (change : Change) (least most : ℕ) (a b : Row) : Type 0 where
  pub opposed : AreOpposed s q change least most a b
  pub near : b.value ≤ a.value + 1

-- what is known of the election as it is, and of its project with its own cost
pub record AreKnown (s : Seen) (q : Question) (cost : ℕ) (verdict : Verdict) : Type 0 where
  pub within : q.place < length s.costs
  pub own : IsTrue s q Cost (record { value = cost; verdict = verdict })
  pub nobody : IsTrue s q Voters (record { value = 0; verdict = verdict })
  pub can_be : CanBe s Cost cost

-- what the count of an election says that is not refused
abbrev pub verdict_of : Bool → Verdict
verdict_of true = Won
verdict_of false = Lost

-- what is known of the election and its project of this cost once it is known whether it has won
pub record IsSaid (e : ElectionView) (q : Question) (cost : ℕ) (won : Bool) : Type 0 where
  pub says : Says e q (verdict_of won)
  pub known : AreKnown (seen e) q cost (verdict_of won)
