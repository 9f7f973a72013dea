-- What supporters of the projects that lost had spent, voter by voter; private contracts speak of it.
use Rattle.std.specs.Prelude.{◌≡◌, ℕ, ◌*◌, ◌<◌, false, true, List, filter, fold, if◌then◌else◌, length, max}
use Rattle.std.specs.Prelude.{nat_le, slice_index, sum_by}
use Rattle.std.specs.List.{range_with_len}
use Rattle.pb_core.specs.Inner.Approved.{approves}
use Rattle.pb_price.specs.Supporters.{SupportView, ballot_at, support_in}
use Rattle.pb_rounds.specs.MostVotes.{is_taken}
use Rattle.pb_rounds.specs.Run.{weight_of}
use Rattle.pb_rounds.specs.Fairness.{paid_within}
use Rattle.pb_rounds.specs.declared.measure.Measure.{Measure}
use Rattle.pb_reasons.specs.Counted.{winners_of}
use Rattle.pb_reasons.specs.CountedElection.{CountedElectionView}
use Rattle.pb_reasons.specs.Fairness.{needed}
use Rattle.pb_reasons.specs.declared.payment.Payment.{Payment}

-- a payment that took at most what the project at this place would have cost; of another, nothing
abbrev pub counts_within : Measure → SupportView → (place : ℕ) → Payment → ℕ
counts_within m s place p =
    if nat_le (p.amount * weight_of m s place) (needed s place * weight_of m s p.place) then p.amount else 0

-- what those of these payments come to
abbrev pub within_need : Measure → SupportView → (place : ℕ) → List Payment → ℕ
within_need m s place payments = sum_by (counts_within m s place) payments

-- for each project that is no winner, the most after one more voter, of this ballot, who spent so much of it;
-- nothing else changes
pub record NotesSpent (winners : List ℕ) (spent_by : ℕ → ℕ) (ballot old new : List ℕ) : Type 0 where
  pub same_length : length new ≡ length old
  pub noted : (place : ℕ) → place < length old → is_taken winners place ≡ false
      → slice_index new place
      ≡ (if approves ballot place then max (slice_index old place) (spent_by place) else slice_index old place)
  pub others : (place : ℕ) → place < length old → is_taken winners place ≡ true
      → slice_index new place ≡ slice_index old place

-- the most after these supporters of the project at this place
abbrev pub most_of : CountedElectionView → (place : ℕ) → List ℕ → ℕ
most_of c place supporters = let s = support_in c.rule.options.grain c.election in
    let o = c.counted.outcome in fold
    (λ most voter. max most
    (paid_within c.rule.options.measure s o.share o.elected place (needed s place) voter)) 0 supporters

-- the first voters are looked at, this many: for each project that is no winner the most of its supporters
-- among them, and 0 for each other
pub record AreMost (c : CountedElectionView) (voters : ℕ) (most : List ℕ) : Type 0 where
  pub one_each : length most ≡ length c.election.projects
  pub each : (place : ℕ) → place < length c.election.projects → is_taken (winners_of c.counted) place ≡ false
      → slice_index most place
      ≡ most_of c place (filter (λ voter. approves (ballot_at c.election voter) place) (range_with_len 0 voters))
  pub winners : (place : ℕ) → place < length c.election.projects → is_taken (winners_of c.counted) place ≡ true
      → slice_index most place ≡ 0
