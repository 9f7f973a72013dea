use Rattle.std.proofs.Common.{◌≡◌, map, take}
use Rattle.pb_core.specs.Request.{asked}
use Rattle.pb_script.specs.Inner.Serving.{AppendsFor}
use Rattle.pb_script.proofs.serve_script.serve_for.Given as goal

abbrev pub invariant-loop-request : goal.invariant-loop-request
invariant-loop-request l =
    (l.desk.opening ≡ l.initial.desk.opening) × (l.desk.room ≡ l.initial.desk.room)
    × AppendsFor l.clerk (map asked (take l.request-index l.requests)) l.initial.desk.journal l.desk.journal
