use Rattle.std.proofs.Common.{◌∙◌, ap, sym, arith, length}
use Rattle.std.specs.Str.{trim}
use Rattle.csv.specs.Records.{fields_of}
use Rattle.pb_read.specs.Rows.{is_word}
use Rattle.pb_witness.proofs.Notes.{position-first, position-none}
use Rattle.pb_witness.proofs.page_notes.column_of.Goals as goal

pub returns-then-is_word : goal.returns-then-is_word
returns-then-is_word c = λ are.
    let word = c.args.word.now in
    sym (position-first (λ name. is_word word (trim name)) (fields_of c.args.names.now) c.loop-place.place
    (omega (arith, c.loop-place-test.true, c.len-place-end.ensures)) (c.loop-place.invariant are)
    (ap (is_word word) (sym (c.text_at.ensures are)) ∙ sym c.is_word.ensures ∙ c.if-is_word.true))

pub returns : goal.returns
returns c = λ are.
    sym (position-none (λ name. is_word c.args.word.now (trim name)) (fields_of c.args.names.now)
    (λ k below. c.loop-place.invariant are k (omega (arith, below, c.loop-place-test.false, c.len-place-end.ensures))))
