use Rattle.pb_reasons.proofs.raise_end.RaiseEnd.of.Goals as goal

pub completed_end-requires-clause-counted : goal.completed_end-requires-clause-counted
completed_end-requires-clause-counted g c κs within = rw (c.election.ensures.election, c.rule-options.ensures, c.outcome.ensures.outcome) c.outcome.ensures.is_counted.is_count

pub returns-in-Add1 : goal.returns-in-Add1
returns-in-Add1 g c = rw (c.election.ensures.election, c.rule-options.ensures, c.outcome.ensures.outcome) at c.completed_end.ensures
