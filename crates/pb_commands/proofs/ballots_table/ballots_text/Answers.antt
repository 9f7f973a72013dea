use Rattle.std.proofs.Common.{◌++◌, ◌∙◌, ℕ, List, ap, option_copied}
use Rattle.pb_commands.specs.Ballots.{ballots_table}
use Rattle.pb_commands.proofs.ballots_table.ballots_text.Goals as goal

pub returns : goal.returns
returns c =
    rw (c.in_ok-put_ballots.ensures ∙ ap (λ (t : List ℕ). t ++ ballots_table (option_copied c.args.voter) c.args.desk.now) c.start-rows.ensures.text) at c.whole.ensures
