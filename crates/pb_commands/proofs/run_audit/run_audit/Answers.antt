use Rattle.pb_commands.proofs.run_audit.run_audit.Goals as goal

pub returns-clause-runs : goal.returns-clause-runs
returns-clause-runs g c = rw c.file.ensures at c.run_audit_watched.ensures.runs
