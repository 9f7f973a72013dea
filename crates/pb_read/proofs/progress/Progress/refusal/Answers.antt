use Rattle.std.proofs.Common.{◌≡◌, ◌∙◌, ap, sym}
use Rattle.pb_core.specs.Election.{project_ids}
use Rattle.pb_read.proofs.Blaming.{unknown_by, unknown_told}
use Rattle.pb_read.specs.Inner.Ids.{unknown_piece}
use Rattle.pb_read.specs.Rows.{field}
use Rattle.pb_read.proofs.progress.Progress.refusal.Goals as goal

pub returns-in-UnknownProject-InVotes : goal.returns-in-UnknownProject-InVotes
returns-in-UnknownProject-InVotes c =
    let draft = c.args.self.now.draft in
    let ids = project_ids draft.election in
    let here = c.in-UnknownProject-InVotes in
    let text = c.field-in-UnknownProject-InVotes in
    let at = c.at-in-UnknownProject-InVotes in
    let ready = c.requires (λ same. cc (here.is-0, same)) in
    let piece : c.unknown_piece.result ≡ unknown_piece ids (field c.args.row.now here.columns.vote) =
    c.unknown_piece.ensures
    ∙ unknown_by draft.project_ids ids text.result.now ready.tied.project_ids_are
    ∙ ap (unknown_piece ids) text.ensures.field in
    (λ i. record { fault = (at.ensures i).fault; column = (at.ensures i).column; piece = piece i; earlier = (at.ensures i).earlier })
    ∙ sym (unknown_told c.args.fault c.args.self.now.stage here.columns draft.election c.args.row.now here.is-0 here.is-1)
