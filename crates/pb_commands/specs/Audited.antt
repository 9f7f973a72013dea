-- What a run of `audit` writes.
use Rattle.std.specs.Prelude.{◌≡◌, ℕ, ◌++◌, MatchBool, List, [], Some, true}
use Rattle.pb_core.specs.Election.{ElectionView}
use Rattle.pb_desk.specs.Audit.{IsAudited}
use Rattle.pb_desk.specs.Desk.{DeskView, closed_election, standing_of}
use Rattle.pb_read.specs.StandsFor.{StandsFor}
use Rattle.pb_reasons.specs.CountedElection.{CountedElectionView, IsCountIn}
use Rattle.pb_rounds.specs.declared.rule.Rule.{Rule}
use Rattle.pb_rows.specs.Reading.{records_of}
use Rattle.pb_rows.specs.Writing.{text_of_row}
use Rattle.pb_script.specs.Serving.{program_room}
use Rattle.pb_commands.specs.Report.{report_of}
use Rattle.pb_commands.specs.declared.demand.Demand.{Demand}
use Rattle.pb_commands.specs.declared.demand.Demand.TheVariants.{Shut}
use Rattle.pb_faults.specs.DeskRow.{entries_row}

-- these bytes, read as a file and as a journal, are those of a desk of either version: the file stands for
-- the election that it opened with, and the rows are its journal's
pub record IsDeskOf (bytes journal : List ℕ) (d : DeskView) : Type 0 where
  pub stands : StandsFor (records_of bytes) d.opening.election
  pub audited : IsAudited d.opening.election program_room (Some journal) d

-- the report of a count of the election by this rule
abbrev pub IsReport : Rule → ElectionView → List ℕ → Type 0
IsReport rule e report = (x : CountedElectionView) × IsCountIn rule e x × (report ≡ report_of x)

-- what is written of a desk: its row, and then, where it is shut, such a report of the ballots that its journal
-- leaves
abbrev pub IsTextOf : (ElectionView → List ℕ → Type 0) → DeskView → List ℕ → Type 0
IsTextOf IsSuch d text = (report : List ℕ) × (text ≡ text_of_row (entries_row d) ++ report)
    × MatchBool (standing_of d).is_shut (IsSuch (closed_election d) report) (report ≡ [])

-- what these bytes make a run of `audit` write, with such a report: of a shut desk, where one is demanded
abbrev pub AuditWrites : Demand → (ElectionView → List ℕ → Type 0) → List ℕ → List ℕ → List ℕ → Type 0
AuditWrites demand IsSuch bytes journal text = (d : DeskView) × IsDeskOf bytes journal d
    × ((demand ≡ Shut → (standing_of d).is_shut ≡ true) × IsTextOf IsSuch d text)
