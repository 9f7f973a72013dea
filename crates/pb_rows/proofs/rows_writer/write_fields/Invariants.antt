use Rattle.std.proofs.Common.{◌≡◌, ◌++◌, ◌==◌, map, take, not}
use Rattle.std.specs.Prelude.{◌&&◌, ◌||◌}
use Rattle.csv.specs.Writing.{fields_written, has_written, is_blank, row_body, writer_setup}
use Rattle.pb_rows.specs.Inner.Writing.{written_by}
use Rattle.pb_rows.specs.Tables.{field_text}
use Rattle.pb_rows.specs.Inner.Writing.{pb_writer}
use Rattle.pb_rows.proofs.rows_writer.write_fields.Given as goal

abbrev pub invariant-loop-field : goal.invariant-loop-field
invariant-loop-field l = record {
  setup : writer_setup l.writer ≡ pb_writer;
  count : fields_written l.writer ≡ l.field-index;
  text : written_by l.writer (λ text. text.items) ≡ written_by l.fn.writer (λ text. text.items) ++ row_body pb_writer (take l.field-index (map field_text l.fields));
  blank : is_blank pb_writer (take l.field-index (map field_text l.fields)) ≡ (not (has_written l.writer) && ((l.field-index == 0) || (l.field-index == 1)));
}
