use Rattle.std.proofs.Common.{◌∙◌}
use Rattle.pb_rows.proofs.RecordFacts.{next_until, read_leaves}
use Rattle.pb_rows.proofs.records.Records.read_bytes.Goals as goal

pub returns-in-Ok-clause-next : goal.returns-in-Ok-clause-next
returns-in-Ok-clause-next g c =
    let is = c.self.invariant.0 c.in_default.is in
    rw (← c.self.view_is, c.in_default.is, c.if-self.false) (next_until g.R.Read.remaining c.read_byte_record.new.self _ c.in-Ok.is_record _ (read_leaves g.R.Read.remaining c.self.inside.reader c.read_byte_record.new.self _ _ is
    (c.in-Ok.ensures.goes ∙ is.runs) (c.in-Ok.ensures.reads is.trim is.ready)))
