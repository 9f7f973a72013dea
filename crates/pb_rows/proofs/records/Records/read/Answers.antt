use Rattle.std.proofs.Common.{◌≡◌, ◌∙◌, ◌∷◌, [], sym}
use Rattle.csv.specs.Reading.{error_kind}
use Rattle.csv.specs.Records.{AllText}
use Rattle.pb_rows.specs.Reading.{Fields}
use Rattle.pb_rows.proofs.RecordFacts.{next_until, no_text_read, read_leaves}
use Rattle.pb_rows.proofs.records.Records.read.Goals as goal

all_text : (fields : Fields) → fields ≡ [] → AllText fields
unfolding AllText
all_text [] none = tt
all_text (field ∷ fields) none = cc none

pub returns-then-self-clause-text : goal.returns-then-self-clause-text
returns-then-self-clause-text g c = all_text _ c.clear.ensures.fields

pub returns-in-Ok-clause-next : goal.returns-in-Ok-clause-next
returns-in-Ok-clause-next g c =
    let is = c.self.invariant.0 c.in_default.is in
    rw (← c.self.view_is, c.in_default.is, c.if-self.false) (next_until g.R.Read.remaining c.read_record.new.self _ c.in-Ok.found _ (read_leaves g.R.Read.remaining c.self.inside.reader c.read_record.new.self _ _ is
    (c.in-Ok.ensures.goes ∙ is.runs) (c.in-Ok.ensures.reads is.trim is.ready)))

pub returns-in-Err-clause-not_text : goal.returns-in-Err-clause-not_text
returns-in-Err-clause-not_text g c =
    λ named.
    let is = c.self.invariant.0 c.in_default.is in
    rw (← c.self.view_is, c.in_default.is, c.if-self.false) (no_text_read g.R.Read.remaining c.self.inside.reader c.read_record.new.self (error_kind c.in-Err.error) is (sym c.of-fault.ensures ∙ (cc))
    (c.in-Err.ensures.why is.trim is.ready))
