use Rattle.std.proofs.Common.{◌≡◌, map}
use Rattle.pb_script.specs.declared.serve_script.Returned.{Returned}
use Rattle.pb_script.proofs.serve_script.taken_back.Given as goal

abbrev pub invariant-loop-returned : goal.invariant-loop-returned
invariant-loop-returned l =
    (l.clerks.items ≡ map (λ (r : Returned). r.clerk) l.yielded) × (l.served.items ≡ map (λ (r : Returned). r.served) l.yielded)
