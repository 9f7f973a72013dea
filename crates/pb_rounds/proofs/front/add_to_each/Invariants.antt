use Rattle.std.proofs.Common.{◌≡◌, ◌+◌, ◌++◌, drop, map, take}
use Rattle.pb_rounds.proofs.front.add_to_each.Given as goal

abbrev pub invariant-loop-i : goal.invariant-loop-i
invariant-loop-i g l = l.rests.items ≡ map (λ rest. rest + l.fn.more) (take l.i l.fn.rests.items) ++ drop l.i l.fn.rests.items
