use Rattle.std.proofs.Common.{◌≡◌, ◌≤◌, ℕ, length, take}
use Rattle.std.specs.Io.KnownBytes.{Appends}
use Rattle.pb_faults.proofs.writing.write_out.Given as goal

abbrev pub invariant-loop : goal.invariant-loop
invariant-loop g l = (l.written ≤ length l.fn.text)
    × Appends (g.W.Write.contents l.fn.writer) (g.W.Write.contents l.writer) (take l.written l.fn.text)
