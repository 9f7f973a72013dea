use Rattle.std.proofs.Common.{◌∙◌, refl}
use Rattle.pb_page.specs.Page.{ballots_row}
use Rattle.pb_page.proofs.Grown.{alike_put, then_put}
use Rattle.pb_page.proofs.Tables.{ballots_are}
use Rattle.pb_page.proofs.voters.put_row.Goals as goal

pub returns : goal.returns
returns c =
    alike_put _ _ (ballots_row c.args.language.now c.args.row.said c.args.row.number c.args.row.ballots c.args.won.now) _ _ (then_put _ _ _ _ _ _ c.in_ok-put.ensures
    (then_put _ _ _ _ _ _ c.in_ok-say.ensures
    c.put_ballots.ensures))
    (ballots_are c.args.language.now c.args.row.said c.args.row.number c.args.row.ballots c.args.won.now _ _ c.from.ensures refl (λ none. c.if-at_least-eq0.false (c.at_least.ensures ∙ none)))
