use Rattle.std.proofs.Common.{◌++◌, ◌∙◌, List, ℕ, ap}
use Rattle.pb_commands.specs.Inner.Exporting.{own_comment}
use Rattle.pb_commands.proofs.export_text.comment_text.Goals as goal

pub returns : goal.returns
returns c =
    let own = own_comment c.args.own.now in
    let decided = own_comment c.args.decided.now in
    c.in_ok-put_own-2.ensures ∙ ap (λ (t : List ℕ). t ++ own) (c.in_ok-put_own.ensures ∙ ap (λ (t : List ℕ). t ++ decided) c.in_ok-text.ensures)
