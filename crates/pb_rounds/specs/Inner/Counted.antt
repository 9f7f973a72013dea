-- What a count comes to; private contracts and proofs speak of it.
use Rattle.std.specs.Prelude.{MatchResult, Result}
use Rattle.pb_core.specs.Election.{ElectionView}
use Rattle.pb_rounds.specs.Counted.{IsCountFault, IsCountOf}
use Rattle.pb_rounds.specs.Outcome.{OutcomeView}
use Rattle.pb_rounds.specs.declared.count_fault.CountFault.{CountFault}
use Rattle.pb_rounds.specs.declared.options.CountOptions.{CountOptions}

-- an outcome, or a fault
abbrev pub CountsTo : ElectionView → CountOptions → Result OutcomeView CountFault → Type 0
CountsTo e options result = MatchResult result (IsCountOf e options) (IsCountFault e options)
