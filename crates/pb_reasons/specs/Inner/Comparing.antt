-- How a comparison grows voter by voter; private contracts speak of it.
use Rattle.std.specs.Prelude.{◌≡◌, ℕ, ◌+◌, ◌-◌, ◌*◌, ◌^◌, ◌<◌, ◌≤◌, ◌==◌, Bool, List, count_by, false}
use Rattle.std.specs.Prelude.{if◌then◌else◌, length, nat_lt, slice_index_or, sum_by}
use Rattle.pb_core.specs.Election.{ElectionView, VoterView}
use Rattle.pb_rounds.specs.MostVotes.{is_taken}
use Rattle.pb_price.specs.Supporters.{cost_at, support_of}
use Rattle.pb_reasons.specs.Comparison.{choices_of, worth_of}
use Rattle.pb_reasons.specs.declared.content.Content.{Content}
use Rattle.pb_reasons.specs.declared.rule_row.RuleRow.{RuleRow}

-- whether each project is among the winners
pub record AreFlags (projects : ℕ) (winners : List ℕ) (flags : List Bool) : Type 0 where
  pub one_each : length flags ≡ projects
  pub flagged : (place : ℕ) → place < projects → slice_index_or flags place false ≡ is_taken winners place

-- what a ballot has of the winners
abbrev pub content_of : ElectionView → (winners ballot : List ℕ) → Content
content_of e winners ballot = record { choices = choices_of winners ballot; worth = worth_of e winners ballot }

-- a rule's row after these voters
abbrev pub row_after : ElectionView → (winners other : List ℕ) → List VoterView → RuleRow
row_after e winners other voters = record {
  projects = length winners;
  spent = sum_by (cost_at (support_of e)) winners;
  left = e.budget - sum_by (cost_at (support_of e)) winners;
  without = count_by (λ v. choices_of winners v.ballot == 0) voters;
  choices = sum_by (λ v. choices_of winners v.ballot) voters;
  worth = sum_by (λ v. worth_of e winners v.ballot) voters;
  more_choices = count_by (λ v. nat_lt (choices_of other v.ballot) (choices_of winners v.ballot)) voters;
  more_worth = count_by (λ v. nat_lt (worth_of e other v.ballot) (worth_of e winners v.ballot)) voters;
}

-- the row with one voter more
abbrev pub with_voter : RuleRow → (own other : Content) → RuleRow
with_voter r own other = record r {
  without = r.without + (if own.choices == 0 then 1 else 0);
  choices = r.choices + own.choices;
  worth = r.worth + own.worth;
  more_choices = r.more_choices + (if nat_lt other.choices own.choices then 1 else 0);
  more_worth = r.more_worth + (if nat_lt other.worth own.worth then 1 else 0);
}

-- the numbers of a row are such as these many voters can make
pub record IsSmall (voters : ℕ) (r : RuleRow) : Type 0 where
  pub without : r.without ≤ voters
  pub choices : r.choices ≤ voters * 2 ^ 32
  pub worth : r.worth ≤ voters * 2 ^ 96
  pub more_choices : r.more_choices ≤ voters
  pub more_worth : r.more_worth ≤ voters
