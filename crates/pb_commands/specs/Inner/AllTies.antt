-- Why there is no table of the ties of a count; private contracts speak of it.
use Rattle.std.specs.Prelude.{◌<◌, ⊤}
use Rattle.pb_reasons.specs.AllTies.{runs_of}
use Rattle.pb_reasons.specs.CountedElection.{CountedElectionView}
use Rattle.pb_faults.specs.declared.fault.AppFault.{AppFault}
use Rattle.pb_faults.specs.declared.fault.AppFault.TheVariants.{Memory, TooManyRuns}

-- memory was refused, or the count rests on too many runs
abbrev pub AreUntold : CountedElectionView → AppFault → Type 0
AreUntold x Memory = ⊤
AreUntold x TooManyRuns = 1000 < runs_of x
AreUntold x fault = ⊥
