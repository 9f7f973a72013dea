use Rattle.std.proofs.Common.{◌≡◌, ℕ, ◌+◌, ◌-◌, ◌^◌, ◌<◌, min, true, Ok, IsErrOf, ap, subst, arith}
use Rattle.csv.specs.Records.{fields_of}
use Rattle.pb_rows.specs.Reading.{Fields, IsNext}
use Rattle.pb_desk.specs.Replay.{most_clerks}
use Rattle.pb_script.specs.Admission.{Judges}
use Rattle.pb_script.specs.RowsView.{RowsView}
use Rattle.pb_script.proofs.request_rows.RequestRows.next.Goals as goal

-- the count goes on, unless it is full
counts_on : {now inside count : ℕ} → now ≡ min (inside + 1) (2 ^ 64 - 1) → inside ≡ count → count + 1 < 2 ^ 64 → now ≡ count + 1
counts_on is same fits = omega (arith, is, same, fits)

ok_or_err : {T E : Type 0} {x : T} {why : E} → IsErrOf (Ok x) why → ⊥
ok_or_err is = cc is

pub returns-in_default-clause-next : goal.returns-in_default-clause-next
returns-in_default-clause-next g c = (
  fields_of c.read_bytes.new.row,
  subst (λ (v : RowsView). IsNext v.left c.read_bytes.new.self.left true (fields_of c.read_bytes.new.row)) c.self.view_is (rw c.in-Ok-true.field-0-test at c.in-Ok-true.ensures.next),
  λ x says. c.in_default.ensures says.0,
)

pub returns-clause-next : goal.returns-clause-next
returns-clause-next g c = (
  fields_of c.read_bytes.new.row,
  subst (λ (v : RowsView). IsNext v.left c.read_bytes.new.self.left true (fields_of c.read_bytes.new.row)) c.self.view_is (rw c.in-Ok-true.field-0-test at c.in-Ok-true.ensures.next),
  subst (λ (f : Fields). Judges c.args.admission.now most_clerks f c.in_ok-judged.judged) c.in-Some.ensures.0 c.in_ok-judged.ensures,
)

pub returns-clause-given : goal.returns-clause-given
returns-clause-given g c = λ fits. counts_on c.saturating_add-count.ensures (ap (λ (v : RowsView). v.count) c.self.view_is) fits

pub returns-in_default-clause-given : goal.returns-in_default-clause-given
returns-in_default-clause-given g c = λ fits. counts_on c.saturating_add-count.ensures (ap (λ (v : RowsView). v.count) c.self.view_is) fits

pub returns-clause-memory : goal.returns-clause-memory
returns-clause-memory g c = λ said. absurd (ok_or_err said)

pub returns-clause-blame : goal.returns-clause-blame
returns-clause-blame g c = λ said. absurd (ok_or_err said)

pub returns-in_default-clause-memory : goal.returns-in_default-clause-memory
returns-in_default-clause-memory g c = λ said. absurd (ok_or_err said)

pub returns-in_default-clause-blame : goal.returns-in_default-clause-blame
returns-in_default-clause-blame g c = λ said. absurd (ok_or_err said)

pub returns-in-Ok-false-clause-memory : goal.returns-in-Ok-false-clause-memory
returns-in-Ok-false-clause-memory g c = λ said. absurd (ok_or_err said)

pub returns-in-Ok-false-clause-blame : goal.returns-in-Ok-false-clause-blame
returns-in-Ok-false-clause-blame g c = λ said. absurd (ok_or_err said)
