use Rattle.std.proofs.Common.{sym, ◌∙◌}
use Rattle.pb_read.proofs.ProgressFacts.{blank_ok}
use Rattle.pb_read.proofs.progress.Progress.read.Goals as goal

pub returns-then-is_blank-clause-ok : goal.returns-then-is_blank-clause-ok
returns-then-is_blank-clause-ok c =
    blank_ok c.args.self.now c.args.row.now (sym c.is_blank.ensures ∙ c.if-is_blank.true) c.requires
