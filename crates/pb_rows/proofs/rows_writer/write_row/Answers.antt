use Rattle.std.proofs.Common.{◌≡◌, ◌∙◌, ◌+◌, ◌++◌, ◌<◌, ◌≤◌, ◌-◌, ◌^◌, [], ℕ, List, length, map, get_or, refl, sym, ap, Some, rules, arith, append_assoc, ◌≢◌}
use Rattle.std.proofs.lemmas.List.{append-nil, get_or-map, length-map, take_all}
use Rattle.csv.specs.declared.writer.QuoteStyle.TheVariants as style
use Rattle.csv.specs.Writing.{has_written, is_blank, writer_setup}
use Rattle.csv.proofs.WriteFacts.{blank-step, row-final, row-step}
use Rattle.pb_rows.specs.Inner.Writing.{written_by}
use Rattle.pb_rows.specs.Writing.{text_of_row}
use Rattle.pb_rows.specs.Inner.Writing.{pb_writer}
use Rattle.pb_rows.proofs.rows_writer.write_row.Goals as goal

pub loop-field-init : goal.loop-field-init
unfolding is_blank
loop-field-init c = record {
  setup = c.requires.setup;
  count = c.requires.fields;
  text = sym (append-nil _);
  blank = rw c.requires.clean refl;
}

-- a text that grew by a part, and then by one more
more_text : (base now new part more : List ℕ) → now ≡ base ++ part → new ≡ now ++ more → new ≡ base ++ (part ++ more)
more_text base now new part more a b = b ∙ ap (λ (t : List ℕ). t ++ more) a ∙ append_assoc base part more

pub loop-field-preserved : goal.loop-field-preserved
loop-field-preserved c =
    let inv = c.loop-field.invariant in
    let e = c.in_default.ensures in
    let i = c.loop-field.field-index in
    let rows : List (List ℕ) = map (λ field. field.now) c.args.fields.now in
    let plain : (writer_setup c.loop-field.writer).style ≢ style.NonNumeric = rw inv.setup (λ t. cc t) in
    let size = length-map c.args.fields.now (λ field. field.now) in
    let within : i < length rows = omega (arith, c.loop-field-test.true) in
    let at = get_or-map (λ field. field.now) c.args.fields.now i _ [] c.loop-field-test.true in
    let this : c.as_bytes.result.now ≡ get_or rows i [] = c.as_bytes.ensures.value ∙ sym at in
    let fits : i + 1 ≤ 2 ^ 64 - 1 = search rules in
    record {
      setup = e.same ∙ inv.setup;
      count = e.count ∙ rw inv.count (omega arith);
      text = rw (row-step pb_writer rows i within) (more_text _ _ _ _ _ inv.text (rw (inv.setup, inv.count, this) at (e.text plain)));
      blank = blank-step pb_writer rows i (has_written c.loop-field.writer) (has_written c.write_field.new.self) within inv.blank
          (λ w. rw (inv.setup, this) at (e.wrote w plain)) e.stays;
    }

pub returns-clause-text : goal.returns-clause-text
unfolding text_of_row
returns-clause-text c =
    let inv = c.loop-field.invariant in
    let rows : List (List ℕ) = map (λ field. field.now) c.args.fields.now in
    let size = length-map c.args.fields.now (λ field. field.now) in
    let ended : length rows ≤ c.loop-field.field-index = omega (arith, c.loop-field-test.false) in
    let all = take_all c.loop-field.field-index rows ended in
    row-final (Some (written_by c.args.writer.now (λ text. text.items))) (Some (written_by c.loop-field.writer (λ text. text.items)))
    (Some (written_by c.end_record.new.self (λ text. text.items))) pb_writer rows (has_written c.loop-field.writer) c.loop-field.field-index
    (rw all at inv.text) (rw all at inv.blank) (rw (inv.setup, inv.count) at c.in_default-end_record.ensures.bytes)
