use Rattle.std.proofs.Common.{◌≡◌, ◌≤◌, ◌*◌, ◌^◌, take}
use Rattle.pb_reasons.specs.Comparison.{choices_of, worth_of}
use Rattle.pb_reasons.proofs.winners.Winners.content.Given as goal

abbrev pub invariant-loop-place : goal.invariant-loop-place
invariant-loop-place l = record {
  choices : l.content.choices ≡ choices_of l.self-inside.places.now (take l.place-index l.ballot);
  worth : l.content.worth ≡ worth_of l.self-inside.election.now l.self-inside.places.now (take l.place-index l.ballot);
  few : l.content.choices ≤ l.place-index;
  small : l.content.worth ≤ l.place-index * 2 ^ 64;
}
