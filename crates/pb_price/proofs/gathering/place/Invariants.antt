use Rattle.std.proofs.Common.{◌≡◌, length, take}
use Rattle.pb_price.specs.Inner.Working.{placed}
use Rattle.pb_price.proofs.gathering.place.Given as goal

abbrev pub invariant-loop-answer : goal.invariant-loop-answer
invariant-loop-answer g l = record {
  same_length : length l.prices.items ≡ length l.initial.prices.items;
  placed : l.prices.items ≡ placed l.initial.prices.items (take l.answer-index l.answers);
}
