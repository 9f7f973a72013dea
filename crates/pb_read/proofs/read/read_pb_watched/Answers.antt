use Rattle.std.specs.Prelude.{◌≡◌, [], ◌∷◌, length, IfErr, IfOk, MatchResult}
use Rattle.pb_rows.specs.Reading.{records_of}
use Rattle.pb_read.specs.FirstFault.{IsFaultAt}
use Rattle.pb_read.specs.Shown.{IsAll, WereShown}
use Rattle.pb_read.specs.StandsFor.{StandsFor}
use Rattle.pb_read.proofs.Showing.{where_known}
use Rattle.pb_read.proofs.Tracking.{accepts}
use Rattle.pb_read.proofs.read.read_pb_watched.Goals as goal

pub returns-clause-reads : goal.returns-clause-reads
returns-clause-reads g c =
    let bytes = g.R.Read.remaining c.args.reader in
    let r = c.read_pb_records.result in
    let left = c.new-records.ensures.left in
    let ok = where_known records_of (λ all. IfOk r (λ e. StandsFor all e)) bytes _ left c.read_pb_records.ensures.ok in
    let fault = where_known records_of (λ all. IfErr r (λ fault. IsFaultAt all fault.kind fault.at)) bytes _ left c.read_pb_records.ensures.fault in
    record { ok = ok; fault = fault; accepts = accepts bytes r ok fault }

pub returns-clause-shown : goal.returns-clause-shown
returns-clause-shown g c =
    let before = g.W.Watch.shown c.args.watch.now in
    let after = g.W.Watch.shown c.read_pb_records.new.watch in
    where_known records_of (λ all. MatchResult c.read_pb_records.result (λ _. WereShown all [] (IsAll all) before after) (λ fault. WereShown all (fault ∷ []) (λ new. length new ≡ fault.at) before after)) _ _ c.new-records.ensures.left c.read_pb_records.ensures.shown
