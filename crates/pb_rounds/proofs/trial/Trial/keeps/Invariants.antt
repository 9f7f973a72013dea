use Rattle.pb_price.specs.Supporters.{IsSupport}
use Rattle.pb_rounds.proofs.TrialRounds.{Following}
use Rattle.pb_rounds.proofs.trial.Trial.keeps.Given as goal

abbrev pub invariant-loop-elected : goal.invariant-loop-elected
invariant-loop-elected g l = record {
  is_support : IsSupport l.supporters;
  following : Following l.fn.measure l.supporters l.fn.share l.last l.elected-index l.self.queue.keys l.self.outcome;
}
