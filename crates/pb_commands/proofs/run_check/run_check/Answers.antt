use Rattle.pb_commands.proofs.CheckedAgainst.{known_listed}
use Rattle.pb_commands.proofs.FrontsWritten.{memory_refused}
use Rattle.pb_commands.proofs.run_check.run_check.Goals as goal

pub returns-in_err-checked-clause-front : goal.returns-in_err-checked-clause-front
returns-in_err-checked-clause-front g c = memory_refused _ c.from_residual.result c.from_residual.ensures.1

pub returns-in_err-warnings-clause-front : goal.returns-in_err-warnings-clause-front
returns-in_err-warnings-clause-front g c = memory_refused _ c.from_residual-in_err-warnings.result c.from_residual-in_err-warnings.ensures.1

pub returns-in_err-text-clause-front : goal.returns-in_err-text-clause-front
returns-in_err-text-clause-front g c = memory_refused _ c.from_residual-in_err-text.result c.from_residual-in_err-text.ensures.1

pub returns-in-Err-clause-front : goal.returns-in-Err-clause-front
returns-in-Err-clause-front g c = λ write.
    let listed = known_listed (g.R.Read.remaining c.args.reader) c.in_ok-checked.checked.faults.items _ _ _ c.in_ok-warnings.ensures.shown c.in_ok-checked.ensures.faults c.in_ok-checked.ensures.shown in
    let begun = rw c.as_slice-2.ensures.value at c.in-Err.ensures.front in
    let is = rw (c.as_slice.ensures.value, c.into_faults-faults.ensures) at c.in_ok-text.ensures in
    (c.in_ok-checked.checked.faults.items, listed, c.in_ok-text.text.items, begun.0, (c.in_ok-warnings.warnings.items, c.in_ok-warnings.ensures.rows, is), begun.1)

pub returns-in-Ok-clause-faults : goal.returns-in-Ok-clause-faults
returns-in-Ok-clause-faults g c =
    rw c.into_faults-faults.ensures
    (known_listed (g.R.Read.remaining c.args.reader) c.in_ok-checked.checked.faults.items _ _ _ c.in_ok-warnings.ensures.shown c.in_ok-checked.ensures.faults c.in_ok-checked.ensures.shown)

pub returns-in-Ok-clause-written : goal.returns-in-Ok-clause-written
returns-in-Ok-clause-written g c =
    let is = rw c.as_slice.ensures.value at c.in_ok-text.ensures in
    (c.in_ok-text.text.items, (c.in_ok-warnings.warnings.items, c.in_ok-warnings.ensures.rows, is), rw c.as_slice-2.ensures.value at c.in-Ok.ensures.ok)
