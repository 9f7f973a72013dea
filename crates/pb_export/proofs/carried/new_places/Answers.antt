use Rattle.std.proofs.Common.{◌≡◌, ◌<◌, ◌++◌, ◌∷◌, [], ℕ, List, ap, sym, ◌∙◌, length, map, arith}
use Rattle.std.specs.Str.{trim}
use Rattle.csv.specs.Records.{fields_of}
use Rattle.pb_read.specs.Rows.{field}
use Rattle.pb_export.proofs.KeptFields.{field_is_utf8}
use Rattle.pb_export.proofs.NewColumns.{columns_more, columns_same, come_next, is_new}
use Rattle.pb_export.proofs.carried.new_places.Goals.{then-branch+in_ok-push, else-branch}
use Rattle.pb_export.proofs.carried.new_places.Goals as goal

pub loop-place-preserved : goal.loop-place-preserved
loop-place-preserved c = λ own have are.
    let row = fields_of c.args.names.now in
    let n = c.loop-place.place in
    let within : n < length row = omega (arith, c.loop-place-test.true, c.len-place-end.ensures) in
    let before = c.loop-place.invariant own have are in
    let text : c.text_at.result.now ≡ trim (field row n) = c.text_at.ensures (field_is_utf8 row n are) in
    let new = is_new own row n within c.loop-place.came.came c.text_at.result.now text before.1 c.in_ok-take.field-0 c.in_ok-take.ensures.new in (
      elim c.if-branch.branch [
        | then-branch+in_ok-push w ↦ rw w.places-is (w.in_ok-push.ensures.items ∙ ap (λ (t : List ℕ). t ++ n ∷ []) before.0
            ∙ sym (columns_more own (map trim row) n (sym w.if-branch.true ∙ new)))
        | else-branch w ↦ rw w.places-is (before.0 ∙ sym (columns_same own (map trim row) n (sym w.if-branch.false ∙ new)))
      ],
      come_next own row n within c.loop-place.came.came c.text_at.result.now text before.1 c.take.new.self.came c.in_ok-take.ensures.came,
    )
