-- The election that is counted, and what refuses its count.
use Rattle.std.specs.Prelude.{◌≡◌, ℕ, List, Option, None, Some, false, true}
use Rattle.pb_core.specs.Election.{ElectionView}
use Rattle.pb_desk.specs.Audit.{IsFaultOfJournal}
use Rattle.pb_desk.specs.Desk.{DeskView, closed_election, standing_of}
use Rattle.pb_read.specs.StandsFor.{StandsFor}
use Rattle.pb_reasons.specs.CountedElection.{IsFaultIn}
use Rattle.pb_rounds.specs.declared.rule.Rule.{Rule}
use Rattle.pb_rows.specs.Reading.{records_of}
use Rattle.pb_script.specs.Serving.{program_room}
use Rattle.pb_commands.specs.Audited.{IsDeskOf}
use Rattle.pb_faults.specs.declared.fault.AppFault.{AppFault}
use Rattle.pb_faults.specs.declared.fault.AppFault.TheVariants.{Audit, Count, OpenDesk}

-- these bytes, read as a file, stand for this election; or, where a journal is read too, its shut desk leaves
-- it
abbrev pub Leaves : List ℕ → Option (List ℕ) → ElectionView → Type 0
Leaves bytes None e = StandsFor (records_of bytes) e
Leaves bytes (Some journal) e = (d : DeskView) × IsDeskOf bytes journal d × (((standing_of d).is_shut ≡ true) × (e ≡ closed_election d))

-- what is given is such a one of the election that these bytes leave: an outcome of its count, a text, a fault
abbrev pub Gives : {X : Type 0} → (ElectionView → X → Type 0) → List ℕ → Option (List ℕ) → X → Type 0
Gives IsSuch bytes journal x = (e : ElectionView) × Leaves bytes journal e × IsSuch e x

-- why these bytes leave no election to count, once the file stands for one: the journal's first fault; or its
-- desk is open
abbrev pub LeavesNone : List ℕ → Option (List ℕ) → ElectionView → AppFault → Type 0
LeavesNone bytes (Some journal) e (Audit fault) = IsFaultOfJournal e program_room (records_of journal) fault
LeavesNone bytes (Some journal) e OpenDesk = (d : DeskView) × IsDeskOf bytes journal d × ((standing_of d).is_shut ≡ false)
LeavesNone bytes journal e fault = ⊥

-- what refuses a count: that of the election that is left; or none is
abbrev pub CountRefuses : Rule → List ℕ → Option (List ℕ) → ElectionView → AppFault → Type 0
CountRefuses rule bytes journal e (Count fault) = Gives (IsFaultIn rule) bytes journal fault
CountRefuses rule bytes journal e fault = LeavesNone bytes journal e fault
