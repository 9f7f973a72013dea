use Rattle.std.proofs.Common.{◌≡◌, ◌≤◌, take}
use Rattle.pb_reasons.specs.Comparison.{choices_of}
use Rattle.pb_reasons.proofs.winners.Winners.choices.Given as goal

abbrev pub invariant-loop-place : goal.invariant-loop-place
invariant-loop-place l = record {
  choices : l.choices ≡ choices_of l.self-inside.places.now (take l.place-index l.ballot);
  few : l.choices ≤ l.place-index;
}
