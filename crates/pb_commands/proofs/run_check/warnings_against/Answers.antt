use Rattle.pb_commands.proofs.run_check.warnings_against.Goals as goal

pub returns-in-Err-clause-fault : goal.returns-in-Err-clause-fault
returns-in-Err-clause-fault g c = λ other. (c.in-Some.election, c.in-Some.is, c.in-Err.ensures.fault other)
