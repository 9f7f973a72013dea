use Rattle.std.proofs.Common.{◌∷◌, []}
use Rattle.pb_export.proofs.Grown.{none_grown, row_grown, two_text}
use Rattle.pb_export.proofs.write_pb.put_pair.Goals as goal

pub returns : goal.returns
returns c =
    row_grown [] (c.args.key.now ∷ c.args.value.now ∷ []) _ _ _ (none_grown c.args.rows.now.text) c.in_ok-put_row.ensures.text (two_text c.args.key.now c.args.value.now c.utf8.key c.utf8.value)
