use Rattle.std.proofs.Common.{◌≡◌, ◌≤◌, ◌*◌}
use Rattle.pb_durable.specs.Device.{LeavesOnly}
use Rattle.pb_durable.specs.DurableDesk.{IsDurable}
use Rattle.pb_desk.specs.Replay.{IsLegal}
use Rattle.pb_script.specs.RowsView.{HasFailed, HasGiven}
use Rattle.pb_serving.specs.Answered.{StandsWithin}
use Rattle.pb_serving.specs.Inner.Admitted.{AddsAdmitted}
use Rattle.pb_serving.proofs.Answering.{Progress}
use Rattle.pb_serving.proofs.run_serve.serve_rows.Given as goal

abbrev pub invariant-loop : goal.invariant-loop
invariant-loop g l = record {
  few : l.row ≤ 4097 * l.counter;
  many : l.counter ≤ l.row;
  fewer : l.refused.all ≤ l.row;
  sound : ¬ HasFailed l.initial.rows → ¬ HasFailed l.rows;
  failures : g.D.Device.tells → g.D.Device.failures l.desk.file.device ≡ g.D.Device.failures l.initial.desk.file.device;
  legal : IsLegal l.desk.desk.opening l.desk.desk.journal;
  given : HasGiven l.initial.rows l.rows l.row;
  opening : l.desk.desk.opening ≡ l.initial.desk.desk.opening;
  durable : g.D.Device.tells → IsDurable g.D.Device.seen g.D.Device.may_leave l.desk;
  grown : AddsAdmitted l.session.admission.now l.initial.desk.desk.journal l.desk.desk.journal;
  progress : Progress l.session.admission.now l.initial.rows.left l.rows.left l.initial.desk.desk.journal l.desk.desk.journal
      (g.W.Write.contents l.initial.writer) (g.W.Write.contents l.writer) l.row l.refused.all l.refused.counts;
  any_moment : g.D.Device.tells → LeavesOnly g.D.Device.moment g.D.Device.left_since l.initial.desk.file.device l.desk.file.device
      (StandsWithin l.initial.desk.desk.opening.version l.initial.desk.desk.journal l.desk.desk.journal);
}
