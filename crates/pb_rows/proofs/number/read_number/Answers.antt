use Rattle.std.proofs.Common.{arith}
use Rattle.pb_rows.proofs.NumberFacts.{not_spelled, parse_refuses, parse_spells}
use Rattle.pb_rows.proofs.number.read_number.Goals as goal
use Rattle.pb_rows.proofs.number.read_number.Goals.{else-bytes-gt1-via-then-bytes-gt1+else-bytes-lt49, else-bytes-gt1-via-else-bytes-gt1}

pub returns-then-bytes-lt49-clause-other : goal.returns-then-bytes-lt49-clause-other
returns-then-bytes-lt49-clause-other c =
    λ number small. not_spelled c.args.text.now number small (rw c.as_bytes-bytes.ensures.value at c.if-bytes-gt1.true) (rw c.as_bytes-bytes.ensures.value at c.if-bytes-lt49.true)

pub returns-clause-spelled : goal.returns-clause-spelled
returns-clause-spelled c =
    rw c.ok.ensures.value (parse_spells c.args.text.now c.parse.result c.parse.ensures.value.0 (elim c.else-bytes-gt1.branch [
      | else-bytes-gt1-via-then-bytes-gt1+else-bytes-lt49 w ↦ λ long. rw c.as_bytes-bytes.ensures.value at w.if-bytes-lt49.false
      | else-bytes-gt1-via-else-bytes-gt1 w ↦ λ long. absurd (omega (arith, rw c.as_bytes-bytes.ensures.value at w.if-bytes-gt1.false))
    ]))

pub returns-clause-other : goal.returns-clause-other
returns-clause-other c = rw c.ok.ensures.value (parse_refuses c.args.text.now c.parse.result c.parse.ensures.value.0)
