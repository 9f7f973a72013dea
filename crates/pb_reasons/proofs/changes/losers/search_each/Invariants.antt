use Rattle.std.proofs.Common.{◌≡◌, map, take}
use Rattle.std.specs.Prelude.{All}
use Rattle.pb_reasons.specs.Inner.Losers.{IsSearched}
use Rattle.pb_reasons.proofs.changes.losers.search_each.Given as goal

abbrev pub invariant-loop-answer : goal.invariant-loop-answer
invariant-loop-answer g l = record {
  each : All (IsSearched l.changing l.recounts.rule) l.found.items;
  places : map (λ f. f.place) l.found.items ≡ take l.answer-index l.places;
}
