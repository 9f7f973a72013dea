-- Two rules compared by the winners of their counts of one election.
use Rattle.std.specs.Prelude.{◌≡◌, ◌⊎◌, ℕ, Bool, false, true, List, [], ◌∷◌, ◌++◌, Option, codes, decimal, if◌then◌else◌, length, map}
use Rattle.std.specs.Prelude.{slice_index}
use Rattle.std.specs.List.{range_with_len}
use Rattle.pb_core.specs.Election.{ElectionView}
use Rattle.pb_reasons.specs.Comparison.{comparison_of}
use Rattle.pb_reasons.specs.Counted.{winners_of}
use Rattle.pb_reasons.specs.CountedElection.{CountedElectionView, IsCountIn}
use Rattle.pb_rounds.specs.Count.{no_shares}
use Rattle.pb_rounds.specs.MostVotes.{is_taken}
use Rattle.pb_rounds.specs.RuleNames.{profile_name}
use Rattle.pb_rounds.specs.declared.rule.Rule.{Rule}
use Rattle.pb_rows.specs.Tables.{table_text}
use Rattle.pb_commands.specs.Closed.{CountRefuses, Gives}
use Rattle.pb_commands.specs.Tables.{project_head, rule_columns}
use Rattle.pb_faults.specs.declared.fault.AppFault.{AppFault}

-- these win where the election is counted by this rule; they are named by their places in the file
abbrev pub AreWinners : Rule → ElectionView → List ℕ → Type 0
AreWinners rule e places = (x : CountedElectionView) × IsCountIn rule e x × (places ≡ map (slice_index x.order) (winners_of x.counted))

-- what a rule is called beside another: by its method, or, where that is the other's too, by its name
abbrev pub called : (shares votes : List ℕ) → (rule other : Rule) → List ℕ
called shares votes rule other = let is_votes = λ (r : Rule). no_shares r.options.completion in let name = profile_name rule in
    if is_votes rule then (if is_votes other then name else votes) else (if is_votes other then shares else name)

-- two rules by these winners: a row for each rule; or one for each project, at its end 1 or 0 for each rule, as the
-- project wins by it or not
abbrev pub beside_text : (by_project : Bool) → ElectionView → (rule other : Rule) → (winners others : List ℕ) → List ℕ
beside_text false e rule other winners others =
    let name = called (codes "equal shares") (codes "most votes") in let rows = comparison_of e winners others in
    table_text rule_columns ((name rule other, rows.own) ∷ (name other rule, rows.other) ∷ [])
beside_text true e rule other winners others =
    let name = called (codes "equal_shares") (codes "most_votes") in
    let wins = λ (these : List ℕ) (place : ℕ). decimal (if is_taken these place then 1 else 0) in
    table_text (project_head e (λ place. place) ++ (name rule other, wins winners) ∷ (name other rule, wins others) ∷ [])
    (range_with_len 0 (length e.projects))

-- the text compares both rules by who wins where the election is counted by each
abbrev pub IsBeside : (by_project : Bool) → (rule other : Rule) → ElectionView → List ℕ → Type 0
IsBeside by_project rule other e text = (winners others : List ℕ) × AreWinners rule e winners × AreWinners other e others
    × (text ≡ beside_text by_project e rule other winners others)

-- what refuses it: what refuses the count by the rule; or, where there is such a count, what refuses the other one
abbrev pub BesideRefuses : (rule other : Rule) → List ℕ → Option (List ℕ) → ElectionView → AppFault → Type 0
BesideRefuses rule other bytes journal e fault = CountRefuses rule bytes journal e fault
    ⊎ ((x : CountedElectionView) × Gives (IsCountIn rule) bytes journal x × CountRefuses other bytes journal e fault)
