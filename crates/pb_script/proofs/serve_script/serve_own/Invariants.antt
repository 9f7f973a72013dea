use Rattle.std.proofs.Common.{◌≡◌}
use Rattle.pb_script.specs.Inner.Serving.{HasServed, list_of}
use Rattle.pb_script.proofs.serve_script.serve_own.Given as goal

abbrev pub invariant-loop-request : goal.invariant-loop-request
invariant-loop-request g l =
    (l.served ≡ l.request-index) × HasServed l.shared l.number (list_of l.work.lists.now l.number) l.clerk l.served
