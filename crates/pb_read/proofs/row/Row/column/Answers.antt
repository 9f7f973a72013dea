use Rattle.std.proofs.Common.{length, sym, ap, ◌∙◌, arith}
use Rattle.std.specs.Str.{trim}
use Rattle.std.proofs.lemmas.List.{length-map}
use Rattle.csv.specs.Records.{fields_of}
use Rattle.pb_read.proofs.ListFacts.{position-first, position-none}
use Rattle.pb_read.specs.Rows.{is_word}
use Rattle.pb_read.proofs.row.Row.column.Goals as goal

pub returns-then-is_word : goal.returns-then-is_word
returns-then-is_word c =
    let name = c.args.name.now in
    let size = length-map (fields_of c.self.inside.untrimmed) trim in
    let seen = ap length c.self.view_is in
    sym (position-first (is_word name) c.args.self.now c.loop-place.place (omega (arith, size, seen)) c.loop-place.invariant
    (ap (is_word name) (sym c.field.ensures.field) ∙ sym c.is_word.ensures ∙ c.if-is_word.true))

pub returns : goal.returns
returns c =
    let size = length-map (fields_of c.self.inside.untrimmed) trim in
    let seen = ap length c.self.view_is in
    sym (position-none (is_word c.args.name.now) c.args.self.now (λ k below. c.loop-place.invariant k (omega (arith, below, size, seen))))
