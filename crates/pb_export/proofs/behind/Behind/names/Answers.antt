use Rattle.std.proofs.Common.{Some, [], length, ap, refl, ◌∙◌}
use Rattle.std.proofs.lemmas.Simd.{pick_l_whole}
use Rattle.pb_rows.specs.Reading.{Fields}
use Rattle.pb_export.specs.FileRows.{below}
use Rattle.pb_export.proofs.behind.Behind.names.Goals as goal

pub returns : goal.returns
returns c =
    let names = c.args.names.now in
    c.below.ensures ∙ ap (λ (row : Fields). below names (Some row)) c.texts.ensures ∙ pick_l_whole [] names (length names) refl
