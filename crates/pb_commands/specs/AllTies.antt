-- The table of all ties.
use Rattle.std.specs.Prelude.{◌≡◌, ◌<◌, ◌≤◌, ℕ, List, [], ◌∷◌, ◌++◌, Option, codes, decimal, if◌then◌else◌, length, nat_le, slice_index_or}
use Rattle.std.specs.Option.{option_map_or}
use Rattle.pb_core.specs.Election.{ElectionView, project_ids}
use Rattle.pb_reasons.specs.AllTies.{AreTieRows, all_ties, runs_of}
use Rattle.pb_reasons.specs.CountedElection.{CountedElectionView, IsCountIn}
use Rattle.pb_reasons.specs.declared.told_tie.TieRow.{TieRow}
use Rattle.pb_rounds.specs.declared.rule.Rule.{Rule}
use Rattle.pb_rows.specs.Tables.{Column, table_text}
use Rattle.pb_commands.specs.Closed.{CountRefuses, Gives}
use Rattle.pb_faults.specs.declared.fault.AppFault.{AppFault}
use Rattle.pb_faults.specs.declared.fault.AppFault.TheVariants.{TooManyRuns}

-- the columns of ties, by the ids of the projects
abbrev pub tie_columns : List (List ℕ) → List (Column TieRow)
tie_columns ids = (codes "run", λ r. decimal r.told.run)
    ∷ (codes "stage", λ r. option_map_or (λ _. codes "round") r.told.tie.round (codes "added"))
    ∷ (codes "round", λ r. decimal r.told.number) ∷ (codes "chosen", λ r. slice_index_or ids r.told.tie.winner [])
    ∷ (codes "other", λ r. slice_index_or ids r.told.tie.other [])
    ∷ (codes "changes", λ r. option_map_or (λ changes. decimal (if changes then 1 else 0)) r.changes []) ∷ []

-- the text is the table of the ties of a count of the election by this rule, which rests on 1,000 runs at most; behind
-- 100,000 ties a row says that there are more
abbrev pub IsTiesOf : Rule → ElectionView → List ℕ → Type 0
IsTiesOf rule e text = (x : CountedElectionView) × IsCountIn rule e x × (runs_of x ≤ 1000) × (rows : List TieRow)
    × AreTieRows x 100000 rows × (text ≡ table_text (tie_columns (project_ids x.election)) rows
    ++ (if nat_le (length (all_ties x)) 100000 then [] else codes "more;;;;;\n"))

-- what refuses the table: the count; or, once it is counted, that it rests on more runs
abbrev pub TiesRefuse : Rule → List ℕ → Option (List ℕ) → ElectionView → AppFault → Type 0
TiesRefuse rule bytes journal e TooManyRuns = (x : CountedElectionView)
    × Gives (λ e x. IsCountIn rule e x × (1000 < runs_of x)) bytes journal x
TiesRefuse rule bytes journal e fault = CountRefuses rule bytes journal e fault
