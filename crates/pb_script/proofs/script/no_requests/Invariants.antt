use Rattle.std.proofs.Common.{◌≡◌, [], replicate}
use Rattle.pb_script.proofs.script.no_requests.Given as goal

abbrev pub invariant-loop : goal.invariant-loop
invariant-loop l = l.lists.items ≡ replicate l.counter []
