-- What is written of a count: its report, or a table by its columns, of projects, of voters, or of how fair it is.
use Rattle.std.specs.Prelude.{◌≡◌, ℕ, List, [], ◌∷◌, ◌++◌, codes, decimal, if◌then◌else◌, length, map}
use Rattle.std.specs.Prelude.{◌==◌, filter, flat_map, slice_index, slice_index_or}
use Rattle.std.specs.List.{enumerate_from, join_with_byte, range_with_len}
use Rattle.pb_core.specs.Election.{ElectionView, project_ids, voter_ids}
use Rattle.pb_core.specs.MoneyText.{money_text}
use Rattle.pb_price.specs.Supporters.{cost_at, support_in, support_of}
use Rattle.pb_reasons.specs.CountedElection.{CountedElectionView, IsCountIn, IsCountedElection, in_file}
use Rattle.pb_reasons.specs.Fairness.{losers, needed, spent}
use Rattle.pb_reasons.specs.Reasons.{project_reason, voter_payments, voter_reason}
use Rattle.pb_reasons.specs.declared.payment.Payment.{Payment}
use Rattle.pb_reasons.specs.declared.project_reason.Ending.{Ending}
use Rattle.pb_reasons.specs.declared.project_reason.Ending.TheVariants as ending
use Rattle.pb_reasons.specs.declared.rule_row.RuleRow.{RuleRow}
use Rattle.pb_rounds.specs.MostVotes.{is_taken, votes_at}
use Rattle.pb_rounds.specs.RuleNames.{fills_up}
use Rattle.pb_rounds.specs.declared.rule.Rule.{Rule}
use Rattle.pb_rows.specs.Reading.{Fields}
use Rattle.pb_rows.specs.Tables.{Column, table_text}
use Rattle.pb_commands.specs.Report.{in_units, report_of}
use Rattle.pb_commands.specs.declared.table.Table.{Table}
use Rattle.pb_commands.specs.declared.table.Table.TheVariants.{Fairness, Projects, Report, Voters}

-- the columns that begin each table of projects, each by its place in the election; what is written is that in the file
abbrev pub project_head : ElectionView → (ℕ → ℕ) → List (Column ℕ)
project_head e in_file =
    (codes "place", λ place. decimal (in_file place)) ∷ (codes "project_id", λ place. slice_index_or (project_ids e) place [])
    ∷ (codes "name", λ place. slice_index_or (map (λ p. p.name) e.projects) place [])
    ∷ (codes "cost", λ place. money_text (cost_at (support_of e) place))
    ∷ (codes "votes", λ place. decimal (votes_at (support_of e) place)) ∷ []

-- the fields of an ending, up to its last: what another would say is empty
abbrev pub fields_of : CountedElectionView → Ending → Fields
fields_of x (ending.Won w) = decimal w.round ∷ in_units x w.exact.amount w.exact.payers ∷ in_units x w.collected 1 ∷ decimal w.in_full ∷ []
fields_of x (ending.Lost l) = [] ∷ [] ∷ [] ∷ [] ∷ in_units x l.left 1 ∷ in_units x l.missing 1 ∷ []
fields_of x (ending.Added a) = [] ∷ [] ∷ [] ∷ [] ∷ [] ∷ [] ∷ decimal a.number ∷ []

-- the columns of rules, each by its name and what its winners come to
abbrev pub rule_columns : List (Column (List ℕ × RuleRow))
rule_columns = (codes "rule", λ r. r.0) ∷ (codes "projects", λ r. decimal r.1.projects)
    ∷ (codes "spent", λ r. money_text r.1.spent) ∷ (codes "left", λ r. money_text r.1.left)
    ∷ (codes "without", λ r. decimal r.1.without) ∷ (codes "choices", λ r. decimal r.1.choices)
    ∷ (codes "worth", λ r. money_text r.1.worth) ∷ (codes "more_choices", λ r. decimal r.1.more_choices)
    ∷ (codes "more_worth", λ r. decimal r.1.more_worth) ∷ []

-- The columns of a table whose rows are places, and these places, in the order of the file. Of projects: behind the
-- first columns are those of endings; the number of an added project stands where an outcome is filled up. Of voters:
-- payments, in the order of the file, are each a place in it, `:` and an amount, with `,` between. Of fairness: the
-- places are those of projects that lost.
abbrev pub table_by : Table → CountedElectionView → List (Column ℕ) × List ℕ
table_by Report x = ([], [])
table_by Projects x = let columns : List (Column ℕ) = project_head x.election (slice_index x.order)
    ++ map (λ (k : ℕ × List ℕ). (k.1, λ (place : ℕ). slice_index_or (fields_of x (project_reason x.rule.options.grain x.election x.counted place).ending) k.0 []))
    (enumerate_from 0 (codes "round" ∷ codes "price" ∷ codes "collected" ∷ codes "in_full" ∷ codes "left"
    ∷ codes "missing" ∷ (if fills_up x.counted.fill_up then codes "added" ∷ [] else []))) in (columns, in_file x)
table_by Voters x = let reason = voter_reason x.election x.counted in
    let payment = λ (p : Payment). decimal (slice_index x.order p.place) ++ (codes ":" ++ in_units x p.amount 1) in
    let paid = λ (v : ℕ). flat_map (λ place. filter (λ (p : Payment). p.place == place) (voter_payments x.election x.counted.outcome v)) (in_file x) in
    let columns : List (Column ℕ) = (codes "voter_id", λ v. slice_index_or (voter_ids x.election) v []) ∷ (codes "votes", λ v. decimal (reason v).votes)
    ∷ (codes "elected", λ v. decimal (reason v).elected) ∷ (codes "paid", λ v. in_units x (reason v).paid 1)
    ∷ (codes "left", λ v. in_units x (reason v).left 1)
    ∷ (codes "payments", λ v. join_with_byte 44 (map payment (paid v))) ∷ [] in (columns, range_with_len 0 (length x.election.voters))
table_by Fairness x = let s = support_in x.rule.options.grain x.election in
    let columns : List (Column ℕ) = (codes "project_id", λ place. slice_index_or (project_ids x.election) place [])
    ∷ (codes "votes", λ place. decimal (votes_at s place))
    ∷ (codes "share", λ place. in_units x x.counted.outcome.share 1)
    ∷ (codes "needed", λ place. in_units x (needed s place) 1)
    ∷ (codes "spent", λ place. in_units x (spent x.rule.options.measure s x.counted.outcome place) 1) ∷ []
    in (columns, filter (is_taken (losers x.election x.counted)) (in_file x))

-- a report or a table of a count, as text
unfoldable pub table_of : Table → CountedElectionView → List ℕ
table_of Report x = report_of x
table_of table x = let t = table_by table x in table_text t.0 t.1

-- the text is this report or table of what a count of the election by this rule comes to
abbrev pub IsTableOf : Table → Rule → ElectionView → List ℕ → Type 0
IsTableOf table rule e text = (x : CountedElectionView) × IsCountedElection x × IsCountIn rule e x × (text ≡ table_of table x)
