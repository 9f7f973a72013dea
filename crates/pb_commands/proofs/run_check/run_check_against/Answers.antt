use Rattle.std.proofs.Common.{map, refl}
use Rattle.std.specs.Prelude.{slice_index}
use Rattle.std.proofs.lemmas.Option.{IfSome_then}
use Rattle.pb_reasons.specs.Counted.{winners_of}
use Rattle.pb_reasons.specs.CountedElection.{IsCountIn}
use Rattle.pb_commands.proofs.CheckedAgainst.{count_refused, count_unwritten, known_both, known_has, known_listed, memory_refused, write_fails}
use Rattle.pb_commands.proofs.FrontsWritten.{memory_refused as memory_unwritten}
use Rattle.pb_commands.proofs.run_check.run_check_against.Goals as goal

pub returns-in_err-checked-clause-fault : goal.returns-in_err-checked-clause-fault
returns-in_err-checked-clause-fault g c = memory_refused _ c.args.counting.now.rule.now _ c.from_residual.ensures.1

pub returns-in_err-warnings-clause-fault : goal.returns-in_err-warnings-clause-fault
returns-in_err-warnings-clause-fault g c =
    count_refused c.args.counting.now.rule.now c.in_ok-checked.checked.faults.items c.in_ok-checked.checked.election (g.R.Read.remaining c.args.reader) c.in_err-warnings.field-0.0
    _ c.from_residual-in_err-warnings.ensures.1 c.in_ok-checked.ensures.election c.in_err-warnings.ensures.fault

pub returns-in_err-rows-clause-fault : goal.returns-in_err-rows-clause-fault
returns-in_err-rows-clause-fault g c = memory_refused _ c.args.counting.now.rule.now _ c.from_residual-in_err-rows.ensures.1

pub returns-in-Err-clause-fault : goal.returns-in-Err-clause-fault
returns-in-Err-clause-fault g c = write_fails (g.R.Read.remaining c.args.reader) c.args.counting.now.rule.now c.in-Err.fault c.in-Err.ensures.fault

pub returns-in-Ok-clause-compared : goal.returns-in-Ok-clause-compared
returns-in-Ok-clause-compared g c =
    known_has (IsCountIn c.args.counting.now.rule.now) (λ e x. g.N.Compare.has_compared c.warnings_against.new.notes (map (slice_index x.order) (winners_of x.counted))) _ c.in_ok-checked.checked.faults.items _ c.in_ok-checked.checked.election c.in_ok-checked.ensures.election c.in_ok-warnings.ensures.compared refl

pub returns-in-Ok-clause-faults : goal.returns-in-Ok-clause-faults
returns-in-Ok-clause-faults g c =
    known_listed (g.R.Read.remaining c.args.reader) c.in_ok-checked.checked.faults.items _ _ _ c.in_ok-warnings.ensures.shown c.in_ok-checked.ensures.faults c.in_ok-checked.ensures.shown

pub returns-in-Ok-clause-written : goal.returns-in-Ok-clause-written
returns-in-Ok-clause-written g c =
    let is = rw c.as_slice.ensures.value at c.in_ok-rows.ensures in
    (c.in_ok-rows.rows.items, (c.in_ok-warnings.warnings.items, c.in_ok-warnings.ensures.rows, is), rw c.as_slice-2.ensures.value at c.in-Ok.ensures.ok)

pub returns-in-Err-clause-faults : goal.returns-in-Err-clause-faults
returns-in-Err-clause-faults g c = IfSome_then (g.R.Read.remaining c.args.reader) c.in_ok-checked.ensures.faults (λ bytes listed. tt)

pub returns-in-Err-clause-compared : goal.returns-in-Err-clause-compared
returns-in-Err-clause-compared g c = IfSome_then (g.R.Read.remaining c.args.reader) c.in_ok-checked.ensures.faults (λ bytes listed. tt)

pub returns-in_err-checked-clause-front : goal.returns-in_err-checked-clause-front
returns-in_err-checked-clause-front g c = memory_unwritten _ c.from_residual.result c.from_residual.ensures.1

pub returns-in_err-warnings-clause-front : goal.returns-in_err-warnings-clause-front
returns-in_err-warnings-clause-front g c = count_unwritten _ c.in_err-warnings.field-0.0 c.from_residual-in_err-warnings.result c.from_residual-in_err-warnings.ensures.1

pub returns-in_err-rows-clause-front : goal.returns-in_err-rows-clause-front
returns-in_err-rows-clause-front g c = memory_unwritten _ c.from_residual-in_err-rows.result c.from_residual-in_err-rows.ensures.1

pub returns-in-Err-clause-front : goal.returns-in-Err-clause-front
returns-in-Err-clause-front g c = λ write.
    let faults = c.in_ok-checked.checked.faults.items in
    let listed = known_listed (g.R.Read.remaining c.args.reader) faults _ _ _ c.in_ok-warnings.ensures.shown c.in_ok-checked.ensures.faults c.in_ok-checked.ensures.shown in
    let compared =
    known_has (IsCountIn c.args.counting.now.rule.now) (λ e x. g.N.Compare.has_compared c.warnings_against.new.notes (map (slice_index x.order) (winners_of x.counted))) (g.R.Read.remaining c.args.reader) faults faults c.in_ok-checked.checked.election c.in_ok-checked.ensures.election c.in_ok-warnings.ensures.compared refl in
    let begun = rw c.as_slice-2.ensures.value at c.in-Err.ensures.front in
    let is = rw c.as_slice.ensures.value at c.in_ok-rows.ensures in
    (faults, known_both _ _ (g.R.Read.remaining c.args.reader) listed compared, c.in_ok-rows.rows.items, begun.0, (c.in_ok-warnings.warnings.items, c.in_ok-warnings.ensures.rows, is), begun.1)
