-- How all ties are found, part by part; private contracts speak of it.
use Rattle.std.specs.Prelude.{◌≡◌, ◌<◌, ◌+◌, ◌==◌, ◌&&◌, ◌++◌, ℕ, Bool, List, [], ◌∷◌, All, IfSome, Option, is_some}
use Rattle.std.specs.Prelude.{filter, length, map, not, slice_index, take}
use Rattle.std.specs.List.{list_any, range_with_len}
use Rattle.pb_core.specs.Election.{ElectionView}
use Rattle.pb_core.specs.Order.{position_in}
use Rattle.pb_price.specs.Supporters.{SupportView, cost_at, support_in, support_of}
use Rattle.pb_reasons.specs.AllTies.{Changes, different, is_same_pair, told_as}
use Rattle.pb_reasons.specs.Counted.{winners_of}
use Rattle.pb_reasons.specs.CountedElection.{CountedElectionView, IsCountedElection}
use Rattle.pb_reasons.specs.Inner.Comparing.{AreFlags}
use Rattle.pb_reasons.specs.Ties.{ties_in, ties_with_added}
use Rattle.pb_reasons.specs.declared.exchange.Recounted.{Recounted}
use Rattle.pb_reasons.specs.declared.tie.Tie.{Tie}
use Rattle.pb_reasons.specs.declared.told_tie.TieRow.{TieRow}
use Rattle.pb_reasons.specs.declared.told_tie.ToldTie.{ToldTie}
use Rattle.pb_rounds.specs.MostVotes.{is_taken, votes_at}
use Rattle.pb_rounds.specs.Run.{ElectedView}
use Rattle.pb_rounds.specs.declared.rule.Rule.{Rule}

-- a row with this other project
abbrev pub with_other : ToldTie → (other : ℕ) → ToldTie
with_other t other = record t { tie = record t.tie { other = other } }

-- what is told of the projects that tie with a winner, in the order of the file
abbrev pub told_with : CountedElectionView → ToldTie → (ties : ℕ → Bool) → List ToldTie
told_with x first ties = map (λ place. with_other first (position_in x.order place))
    (filter (λ place. ties (position_in x.order place)) (range_with_len 0 (length x.election.projects)))

-- the ties of a round, from 0, of a run at this share that elects these
abbrev pub round_ties : CountedElectionView → (run share : ℕ) → List ElectedView → ℕ → List ToldTie
round_ties x run share elected round = told_as x run (round + 1)
    (ties_in x.rule.options.measure (support_in x.rule.options.grain x.election) share elected round)

-- those of an added project, from 0
abbrev pub ties_at_added : CountedElectionView → ℕ → List ToldTie
ties_at_added x number = told_as x x.counted.outcome.raised (number + 1) (ties_with_added (support_of x.election)
    (record x.counted { added = take (number + 1) x.counted.added }) (slice_index x.counted.added number))

-- a project is not taken, and has the votes and the cost of another one
abbrev pub is_equal_to : SupportView → (taken : List ℕ) → (winner place : ℕ) → Bool
is_equal_to s taken winner place =
    not (is_taken taken place) && ((votes_at s place == votes_at s winner) && (cost_at s place == cost_at s winner))

-- of a count by this rule of this election: who has won, and how many
pub record AreBefore (rule : Rule) (e : ElectionView) (has_won : List Bool) (winners : ℕ) (x : CountedElectionView) : Type 0 where
  pub of_rule : x.rule ≡ rule
  pub of_election : x.election ≡ e
  pub is_counted : IsCountedElection x
  pub flags : AreFlags (length e.projects) (winners_of x.counted) has_won
  pub many : winners ≡ length (winners_of x.counted)

-- the projects of a tie are those of an election
abbrev pub IsTieOf : ElectionView → Tie → Type 0
IsTieOf e t = (t.winner < length e.projects) × (t.other < length e.projects)

-- the first hundred different pairs of these ties, and what they change
abbrev pub AreRecounted : CountedElectionView → List Tie → List Recounted → Type 0
AreRecounted x ties known = (map (λ k. k.tie) known ≡ take 100 (different ties))
    × All (λ (k : Recounted). Changes x k.tie k.changes) known

-- of one tie more
pub record IsRecounted (x : CountedElectionView) (ties : List Tie) (tie : Tie) (changes : Option Bool) (known : List Recounted)
    : Type 0 where
  pub all : AreRecounted x (ties ++ tie ∷ []) known
  pub told : is_some changes ≡ list_any (is_same_pair tie) (take 100 (different (ties ++ tie ∷ [])))
  pub so : IfSome changes (Changes x tie)

-- rows of these ties, of which the first hundred different pairs are recounted
abbrev pub AreRowsOf : CountedElectionView → List ToldTie → List TieRow → Type 0
AreRowsOf x told rows = (map (λ r. r.told) rows ≡ told) × All (λ (r : TieRow).
    (is_some r.changes ≡ list_any (is_same_pair r.told.tie) (take 100 (different (map (λ t. t.tie) told))))
    × IfSome r.changes (Changes x r.told.tie)) rows
