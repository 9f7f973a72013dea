use Rattle.std.proofs.Common.{◌≡◌, ◌==◌, ◌≤◌, take}
use Rattle.std.specs.Prelude.{count_by}
use Rattle.pb_app.proofs.run_same.line_ends.Given as goal

abbrev pub invariant-loop-place : goal.invariant-loop-place
invariant-loop-place l = record {
  lines : l.lines ≡ count_by (λ byte. byte == 10) (take l.place l.text);
  few : l.lines ≤ l.place;
}
