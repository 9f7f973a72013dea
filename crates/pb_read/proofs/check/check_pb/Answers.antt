use Rattle.std.proofs.Common.{◌<◌, length}
use Rattle.std.specs.Prelude.{IfOk}
use Rattle.pb_rows.specs.Reading.{records_of}
use Rattle.pb_read.specs.Listed.{AreListed}
use Rattle.pb_read.specs.Inner.Checking.{IsHandedOut}
use Rattle.pb_read.specs.Shown.{IsAll, WereShown}
use Rattle.pb_read.proofs.Showing.{where_known}
use Rattle.pb_read.proofs.check.check_pb.Goals as goal

pub returns-clause-faults : goal.returns-clause-faults
returns-clause-faults g c =
    let checked = c.check_pb_records-checked in
    where_known records_of (λ all. IfOk checked.result (λ it. AreListed 0 all it.faults.items)) _ _ c.new-records.ensures.left checked.ensures.faults

pub returns-clause-election : goal.returns-clause-election
returns-clause-election g c =
    let checked = c.check_pb_records-checked in
    where_known records_of (λ all. IfOk checked.result (λ it. IsHandedOut all it.faults.items it.election)) _ _ c.new-records.ensures.left checked.ensures.election

pub returns-clause-shown : goal.returns-clause-shown
returns-clause-shown g c =
    let checked = c.check_pb_records-checked in
    where_known records_of (λ all. IfOk checked.result (λ it. length it.faults.items < 1000 → WereShown all it.faults.items (IsAll all) (g.W.Watch.shown c.args.watch.now) (g.W.Watch.shown checked.new.watch))) _ _ c.new-records.ensures.left checked.ensures.shown
