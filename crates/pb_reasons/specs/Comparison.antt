-- Two rules side by side: what the winners by each cost, and what they are to the voters.
use Rattle.std.specs.Prelude.{ℕ, ◌-◌, ◌==◌, List, count_by, filter, length, nat_lt, sum_by}
use Rattle.pb_core.specs.Election.{ElectionView}
use Rattle.pb_rounds.specs.MostVotes.{is_taken}
use Rattle.pb_price.specs.Supporters.{cost_at, support_of}
use Rattle.pb_reasons.specs.declared.comparison.Comparison.{Comparison}
use Rattle.pb_reasons.specs.declared.rule_row.RuleRow.{RuleRow}

-- how many of a ballot's choices are among the winners
abbrev pub choices_of : (winners ballot : List ℕ) → ℕ
choices_of winners ballot = count_by (is_taken winners) ballot

-- what these cost
abbrev pub worth_of : ElectionView → (winners ballot : List ℕ) → ℕ
worth_of e winners ballot = sum_by (cost_at (support_of e)) (filter (is_taken winners) ballot)

-- what the winners by a rule cost, and what they are to the voters, beside the winners by another
abbrev pub rule_row : ElectionView → (winners other : List ℕ) → RuleRow
rule_row e winners other = record {
  projects = length winners;
  spent = sum_by (cost_at (support_of e)) winners;
  left = e.budget - sum_by (cost_at (support_of e)) winners;
  without = count_by (λ v. choices_of winners v.ballot == 0) e.voters;
  choices = sum_by (λ v. choices_of winners v.ballot) e.voters;
  worth = sum_by (λ v. worth_of e winners v.ballot) e.voters;
  more_choices = count_by (λ v. nat_lt (choices_of other v.ballot) (choices_of winners v.ballot)) e.voters;
  more_worth = count_by (λ v. nat_lt (worth_of e other v.ballot) (worth_of e winners v.ballot)) e.voters;
}

-- each rule's row, beside the other
abbrev pub comparison_of : ElectionView → (winners other : List ℕ) → Comparison
comparison_of e winners other = record { own = rule_row e winners other; other = rule_row e other winners }
