-- What the parts of the search for losers know.
use Rattle.std.specs.Prelude.{◌≡◌, ℕ, ◌-◌, ◌<◌, All, IfOk, List, Result, filter, length, map, min, not, slice_index}
use Rattle.std.specs.Prelude.{slice_index_or, take}
use Rattle.std.specs.List.{range_with_len}
use Rattle.std.specs.List.Sorted.{IsPermutation, IsSorted}
use Rattle.std.specs.Ordering.{flip_args, nat_cmp, on, then_cmp}
use Rattle.pb_core.specs.Election.{ElectionView, most_voters}
use Rattle.pb_core.specs.Order.{position_in}
use Rattle.pb_core.specs.declared.no_memory.NoMemory.{NoMemory}
use Rattle.pb_price.specs.Supporters.{SupportView, support_of}
use Rattle.pb_rounds.specs.MostVotes.{is_taken, votes_at}
use Rattle.pb_rounds.specs.declared.rule.Rule.{Rule}
use Rattle.pb_reasons.specs.Counted.{CountedView, is_selected}
use Rattle.pb_reasons.specs.CountedElection.{CountedElectionView, IsCountIn}
use Rattle.pb_reasons.specs.Inner.Searching.{AreKnown}
use Rattle.pb_reasons.specs.WhatIf.{IsFound, Says, Seen, seen}
use Rattle.pb_reasons.specs.Inner.Doubling.{NoneWins}
use Rattle.pb_reasons.specs.declared.changes.change.Change.TheVariants.{Cost, Voters}
use Rattle.pb_reasons.specs.declared.changes.change.Verdict.TheVariants.{Lost}
use Rattle.pb_reasons.specs.declared.changes.loser.Loser.{Loser}
use Rattle.pb_reasons.specs.declared.changes.question.Question.{Question}
use Rattle.pb_reasons.specs.declared.changes.ranked.Ranked.{Ranked}

-- a project, as losers are ordered: by its votes, and its place in the file, where the projects stand in this order
abbrev pub ranked_of : SupportView → (order : List ℕ) → ℕ → Ranked
ranked_of s order place = record { votes = record { 0 = votes_at s place }; place = slice_index order place }

-- the projects that are not among these winners, in the order of the election
abbrev pub others_of : SupportView → List ℕ → List ℕ
others_of s winners = filter (λ place. not (is_taken winners place)) (range_with_len 0 (length s.costs))

-- these are all losers of a count, by their places in the file: those with most votes first, equal ones in its order
pub record AreLosers (e : ElectionView) (c : CountedView) (order places : List ℕ) : Type 0 where
  pub are : IsPermutation
      (map (slice_index order) (filter (λ place. not (is_selected c place)) (range_with_len 0 (length e.projects)))) places
  pub in_order : IsSorted (then_cmp (flip_args (on (λ place. votes_at (support_of e) (position_in order place)) nat_cmp)) nat_cmp) places

-- the first so many losers of what a count comes to
abbrev pub AreFirst : ElectionView → CountedView → (order : List ℕ) → ℕ → List ℕ → Type 0
AreFirst e c order first places = (all : List ℕ) × AreLosers e c order all × (places ≡ take first all)

-- a question about one project
abbrev pub about : Rule → ℕ → Question
about rule place = record { rule = rule; place = place }

-- what is known of a loser with its own cost, of what a count reads
abbrev pub IsLoser : Seen → Rule → (place : ℕ) → Type 0
IsLoser s rule place = AreKnown s (about rule place) (slice_index s.costs place) Lost

-- the same of a loser of an election
pub record HasLost (e : ElectionView) (rule : Rule) (place : ℕ) : Type 0 where
  pub says : Says e (about rule place) Lost
  pub loser : IsLoser (seen e) rule place

-- the first so many losers of a count by the rule, and that they have lost
pub record AreAsked (e : ElectionView) (rule : Rule) (first : ℕ) (places : List ℕ) : Type 0 where
  pub are : (x : CountedElectionView) × IsCountIn rule e x × AreFirst x.election x.counted x.order first places
  pub lost : All (HasLost e rule) places

-- what is found of a loser, of what a count reads
pub record IsSearched (s : Seen) (rule : Rule) (l : Loser) : Type 0 where
  pub cost : IsFound s (about rule l.place) Cost 1 (slice_index s.costs l.place) l.found.cost.first l.found.cost.second
  pub voters : IsFound s (about rule l.place) Voters 0 (min (length s.ballots) (most_voters - length s.ballots))
      l.found.voters.first l.found.voters.second
  pub doubled : NoneWins s (about rule l.place) l.found.voters.second.value

-- what the search of the loser at this place answers
pub record IsAnswer (s : Seen) (rule : Rule) (place : ℕ) (answer : Result Loser NoMemory) : Type 0 where
  pub about_it : IfOk answer (λ l. l.place ≡ place)
  pub searched : IfOk answer (IsSearched s rule)

-- the answers for these losers, each at its place
pub record AreAnswers (s : Seen) (rule : Rule) (places : List ℕ) (answers : List (Result Loser NoMemory)) : Type 0 where
  pub one_each : length answers ≡ length places
  pub each : (i : ℕ) (d : Result Loser NoMemory) → i < length answers
      → IsAnswer s rule (slice_index places i) (slice_index_or answers i d)
