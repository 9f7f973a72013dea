use Rattle.std.proofs.Common.{length, ap, sym, arith}
use Rattle.std.specs.Str.{trim}
use Rattle.std.proofs.lemmas.List.{length-map}
use Rattle.csv.specs.Records.{fields_of}
use Rattle.pb_read.proofs.ListFacts.{blank_from_fields}
use Rattle.pb_read.proofs.row.Row.is_blank.Goals as goal

pub returns : goal.returns
returns c =
    let size = length-map (fields_of c.self.inside.untrimmed) trim in
    let seen = ap length c.self.view_is in
    sym (blank_from_fields c.args.self.now (λ place below. c.loop-place.invariant place (omega (arith, below, size, seen))))
