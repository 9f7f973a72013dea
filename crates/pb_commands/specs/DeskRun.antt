-- What a run of `desk` writes, and what it refuses.
use Rattle.std.specs.Prelude.{ℕ, Bool, List, None, Some, fold, if◌then◌else◌}
use Rattle.std.specs.FinMap as table
use Rattle.pb_core.specs.Election.{ElectionView, project_ids, voter_ids}
use Rattle.pb_rows.specs.Reading.{records_of}
use Rattle.pb_script.specs.Served.{IsServeFault, IsServed}
use Rattle.pb_script.specs.declared.admission.Admission.{Admission}
use Rattle.pb_script.specs.declared.serve_fault.ServeFault.TheVariants as serve
use Rattle.pb_commands.specs.Closed.{Gives}
use Rattle.pb_commands.specs.declared.run_desk.Rules.{Rules}
use Rattle.pb_faults.specs.declared.fault.AppFault.{AppFault}
use Rattle.pb_faults.specs.declared.fault.AppFault.TheVariants.{Script, ClerkCount}

-- which requests these rules admit on the desk of an election: the voters who are kept are its voters
abbrev pub admission_on : Rules → ElectionView → Admission
admission_on rules e = record rules.admission {
  ids = if rules.by_id then Some (project_ids e) else rules.admission.ids;
  kept = if rules.keeps_file then Some (fold (λ ids id. table.insert ids id 0) table.empty (voter_ids e)) else rules.admission.kept;
}

-- what these bytes, as a file and as a script for this many clerks, make a run of `desk` by these rules write
-- that shuts the desk at its end, or does not
abbrev pub DeskWrites : Rules → List ℕ → List ℕ → ℕ → Bool → List ℕ → Type 0
DeskWrites rules bytes rows clerks shuts = Gives (λ e. IsServed (admission_on rules e) e clerks shuts (records_of rows)) bytes None

-- what refuses an election in a run of `desk`: the script's first fault; or the number of clerks
abbrev pub DeskRefuses : Rules → List ℕ → ℕ → ElectionView → AppFault → Type 0
DeskRefuses rules rows clerks e (Script fault) = IsServeFault (admission_on rules e) clerks (records_of rows) (serve.Script fault)
DeskRefuses rules rows clerks e ClerkCount = IsServeFault (admission_on rules e) clerks (records_of rows) serve.ClerkCount
DeskRefuses rules rows clerks e fault = ⊥
