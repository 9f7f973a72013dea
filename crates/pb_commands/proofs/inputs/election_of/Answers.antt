use Rattle.std.proofs.Common.{◌≡◌, None, Some, Err, false, rules, true}
use Rattle.pb_desk.specs.Desk.{standing_of}
use Rattle.pb_commands.proofs.Endings.{end_of_some, given_end}
use Rattle.pb_commands.proofs.InputEnds.{inputs_read, input_reads, left_ends, left_known, left_passes, left_reads, open_ends}
use Rattle.pb_commands.specs.Closed.{Leaves, LeavesNone}
use Rattle.pb_commands.specs.Inner.Inputs.{of_input}
use Rattle.pb_commands.proofs.inputs.election_of.Goals as goal

pub returns-in_err-own_election-clause-ends : goal.returns-in_err-own_election-clause-ends
returns-in_err-own_election-clause-ends g c =
    rw c.in_default.is (given_end Leaves LeavesNone (g.P.Read.remaining c.args.inputs.file) (Some None) _ _ (of_input c.in_err-own_election.field-0.0)
    c.from_residual.ensures.1 c.in_err-own_election.ensures.ends)

pub returns-in_err-own_election-clause-reads : goal.returns-in_err-own_election-clause-reads
returns-in_err-own_election-clause-reads g c = inputs_read _ c.in_err-own_election.field-0.0 c.from_residual.ensures.1

pub returns-in_default-clause-ends : goal.returns-in_default-clause-ends
returns-in_default-clause-ends g c = rw c.in_default.is c.in_ok-own_election.ensures.ends

pub returns-in_default-clause-ok : goal.returns-in_default-clause-ok
returns-in_default-clause-ok g c = rw c.in_default.is c.in_ok-own_election.ensures.ok

pub returns-in_err-desk-clause-ends : goal.returns-in_err-desk-clause-ends
returns-in_err-desk-clause-ends g c =
    let files = g.P.Read.remaining c.args.inputs.file in
    let journals = g.J.Read.remaining c.in-Some.journal in
    let fault = c.in_err-desk.field-0.0 in
    rw c.in-Some.is (end_of_some Leaves LeavesNone files journals _ _
    (given_end (λ bytes rows. Leaves bytes (Some rows)) (λ bytes rows. LeavesNone bytes (Some rows)) files journals _ _ (of_input fault) c.from_residual-in_err-desk.ensures.1
    (left_passes files journals _ (of_input fault) (input_reads fault).0 c.in_err-desk.ensures.ends)))

pub returns-in_err-desk-clause-reads : goal.returns-in_err-desk-clause-reads
returns-in_err-desk-clause-reads g c = inputs_read _ c.in_err-desk.field-0.0 c.from_residual-in_err-desk.ensures.1

pub returns-then-is_shut-clause-ok : goal.returns-then-is_shut-clause-ok
returns-then-is_shut-clause-ok g c =
    let shut : (standing_of c.in_ok-desk.desk).is_shut ≡ true = search rules in
    rw c.in-Some.is
    (left_known (g.P.Read.remaining c.args.inputs.file) (g.J.Read.remaining c.in-Some.journal) (None, None, None) c.in_ok-desk.desk c.left_by.result c.left_by.ensures.ok c.in_ok-desk.ensures.ok shut)

pub returns-then-is_shut-clause-ends : goal.returns-then-is_shut-clause-ends
returns-then-is_shut-clause-ends g c =
    let files = g.P.Read.remaining c.args.inputs.file in
    let journals = g.J.Read.remaining c.in-Some.journal in
    let file = c.in_ok-desk.ensures.ends.judges in
    rw c.in-Some.is (end_of_some Leaves LeavesNone files journals _ c.left_by.result
    (left_ends files journals _ c.in_ok-desk.desk c.left_by.result c.left_by.ensures.fault file.1 file.0))

pub returns-then-is_shut-clause-reads : goal.returns-then-is_shut-clause-reads
returns-then-is_shut-clause-reads g c = left_reads c.left_by.result c.left_by.ensures.fault

pub returns-else-is_shut-clause-ends : goal.returns-else-is_shut-clause-ends
returns-else-is_shut-clause-ends g c =
    let unshut : (standing_of c.in_ok-desk.desk).is_shut ≡ false = search rules in
    let files = g.P.Read.remaining c.args.inputs.file in
    let journals = g.J.Read.remaining c.in-Some.journal in
    let file = c.in_ok-desk.ensures.ends.judges in
    rw c.in-Some.is (end_of_some Leaves LeavesNone files journals _ _
    (open_ends files journals _ c.in_ok-desk.desk c.in_ok-desk.ensures.ok unshut file.1 file.0))
