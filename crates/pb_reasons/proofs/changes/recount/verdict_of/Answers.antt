use Rattle.std.proofs.Common.{◌≢◌, inl, inr}
use Rattle.pb_rounds.specs.declared.count_fault.CountFault.TheVariants.{NoMemory, RaisesSpent, TooFine}
use Rattle.pb_reasons.proofs.changes.recount.verdict_of.Goals as goal

apart : RaisesSpent ≢ NoMemory
apart same = cc

too_fine_apart : TooFine ≢ NoMemory
too_fine_apart same = cc

pub returns-in-Err-RaisesSpent-clause-ok : goal.returns-in-Err-RaisesSpent-clause-ok
returns-in-Err-RaisesSpent-clause-ok g c = inl ((rw c.in-Err-RaisesSpent.field-0-is at c.in-Err-RaisesSpent.ensures.fault) apart)

pub returns-in-Err-RaisesSpent-clause-kept : goal.returns-in-Err-RaisesSpent-clause-kept
returns-in-Err-RaisesSpent-clause-kept g c = (rw c.in-Err-RaisesSpent.field-0-is at c.in-Err-RaisesSpent.ensures.refused) apart

pub returns-in-Err-TooFine-clause-ok : goal.returns-in-Err-TooFine-clause-ok
returns-in-Err-TooFine-clause-ok g c = inr ((rw c.in-Err-TooFine.field-0-is at c.in-Err-TooFine.ensures.fault) too_fine_apart)

pub returns-in-Err-TooFine-clause-kept : goal.returns-in-Err-TooFine-clause-kept
returns-in-Err-TooFine-clause-kept g c = (rw c.in-Err-TooFine.field-0-is at c.in-Err-TooFine.ensures.refused) too_fine_apart
