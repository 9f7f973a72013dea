use Rattle.std.proofs.Common.{◌∙◌, [], ◌∷◌, ◌++◌, ◌<◌, ◌≤◌, List, ℕ, ap, get_or, length, refl, arith}
use Rattle.csv.specs.Records.{fields_of}
use Rattle.pb_export.proofs.KeptFields.{field_is_text, kept_more, kept_same}
use Rattle.pb_export.proofs.carried.fields_at.Goals.{then-place-len+in_ok-push, else-place-len}
use Rattle.pb_export.proofs.carried.fields_at.Goals as goal

pub loop-place-preserved : goal.loop-place-preserved
loop-place-preserved c = λ are.
    let row = fields_of c.args.record.now in
    let places = c.args.places.now in
    let i = c.loop-place.place-index in
    let place = get_or places i 0 in
    let kept = c.loop-place.fields in
    let so_far = c.loop-place.invariant are in
    elim c.if-place-len.branch [
      | then-place-len+in_ok-push w ↦
          let within : place < length row = omega (arith, w.if-place-len.true, c.len.ensures) in
          rw w.fields-is (kept_more row places i place c.loop-place-test.true refl kept so_far w.push.new.self
          (w.in_ok-push.ensures ∙ ap (λ (t : List ℕ). kept ++ t ∷ []) (w.text_at.ensures (field_is_text row place are within))) within)
      | else-place-len w ↦
          let past : length row ≤ place = omega (arith, w.if-place-len.false, c.len.ensures) in
          rw w.fields-is (kept_same row places i place c.loop-place-test.true refl kept so_far past)
    ]
