use Rattle.std.proofs.Common.{Err, Ok}
use Rattle.pb_read.proofs.ProgressFacts.{meta_ok, project_err, project_ok, vote_err, vote_ok}
use Rattle.pb_read.proofs.progress.Progress.read_plain.Goals as goal

pub returns-in-Ok-clause-ok : goal.returns-in-Ok-clause-ok
returns-in-Ok-clause-ok c =
    project_ok c.args.self.now.stage c.in-InProjects.columns c.args.row.now c.args.self.now.draft c.add_project.new.self (Ok c.in-Ok.field-0) c.in-InProjects.is c.requires.kept c.in-Ok.ensures.ok

pub returns-in-Err-clause-err : goal.returns-in-Err-clause-err
returns-in-Err-clause-err c =
    project_err c.args.self.now.stage c.in-InProjects.columns c.args.row.now c.args.self.now.draft.election (Err c.in-Err.kind) c.in-InProjects.is c.in-Err.ensures.err

pub returns-in-Ok-add_voter-clause-ok : goal.returns-in-Ok-add_voter-clause-ok
returns-in-Ok-add_voter-clause-ok c =
    vote_ok c.args.self.now.stage c.in-InVotes.columns c.args.row.now c.args.self.now.draft c.add_voter.new.self (Ok c.in-Ok-add_voter.field-0) c.in-InVotes.is c.in-Ok-add_voter.ensures.ok

pub returns-in-Err-add_voter-clause-err : goal.returns-in-Err-add_voter-clause-err
returns-in-Err-add_voter-clause-err c =
    vote_err c.args.self.now.stage c.in-InVotes.columns c.args.row.now c.args.self.now.draft.election (Err c.in-Err-add_voter.kind) c.in-InVotes.is c.in-Err-add_voter.ensures.err

pub returns-in-InMeta-clause-ok : goal.returns-in-InMeta-clause-ok
returns-in-InMeta-clause-ok c =
    meta_ok c.args.self.now.stage c.in-InMeta.meta c.note.new.self c.args.row.now c.args.self.now.draft c.in-InMeta.is c.note.ensures c.requires
