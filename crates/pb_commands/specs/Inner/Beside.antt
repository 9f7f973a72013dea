-- Why a count is refused, and the columns of projects by two rules; private contracts speak of them.
use Rattle.std.specs.Prelude.{◌≢◌, ◌⊎◌, ℕ, List, [], ◌∷◌, ◌++◌, codes, decimal, if◌then◌else◌}
use Rattle.pb_core.specs.Election.{ElectionView}
use Rattle.pb_reasons.specs.CountedElection.{CountedElectionView, IsCountIn, IsFaultIn}
use Rattle.pb_rounds.specs.declared.count_fault.CountFault.{CountFault}
use Rattle.pb_rounds.specs.declared.count_fault.CountFault.TheVariants.{NoMemory}
use Rattle.pb_rounds.specs.declared.rule.Rule.{Rule}
use Rattle.pb_rounds.specs.MostVotes.{is_taken}
use Rattle.pb_rows.specs.Tables.{Column}
use Rattle.pb_commands.specs.Beside.{called}
use Rattle.pb_commands.specs.Tables.{project_head}

-- the count by this rule has this fault, or memory was refused
abbrev pub IsRefused : Rule → ElectionView → CountFault → Type 0
IsRefused rule e fault = fault ≢ NoMemory → IsFaultIn rule e fault

-- the count by this rule is refused so; or, where there is one, the count by the other rule
abbrev pub IsRefusedBeside : (rule other : Rule) → ElectionView → CountFault → Type 0
IsRefusedBeside rule other e fault = IsRefused rule e fault ⊎ ((x : CountedElectionView) × IsCountIn rule e x × IsRefused other e fault)

-- the columns of projects by these rules, whose winners these are
abbrev pub beside_columns : ElectionView → (rule other : Rule) → (winners others : List ℕ) → List (Column ℕ)
beside_columns e rule other winners others =
    let name = called (codes "equal_shares") (codes "most_votes") in
    let wins = λ (these : List ℕ) (place : ℕ). decimal (if is_taken these place then 1 else 0) in
    project_head e (λ place. place) ++ (name rule other, wins winners) ∷ (name other rule, wins others) ∷ []
