use Rattle.pb_read.specs.Inner.Progresses.{IsReady}
use Rattle.pb_read.proofs.check.Check.read_on.Given as goal

abbrev pub invariant-loop-before : goal.invariant-loop-before
invariant-loop-before g l = IsReady l.self.progress
