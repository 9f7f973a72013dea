use Rattle.std.proofs.Common.{◌≡◌, ◌++◌, take}
use Rattle.pb_rounds.specs.Key.{first_least, is_before}
use Rattle.pb_rounds.specs.Run.{keys_at}
use Rattle.pb_rounds.proofs.round.price_heads.Given as goal

abbrev pub invariant-loop-i : goal.invariant-loop-i
invariant-loop-i g l = record {
  fresh : l.fresh.keys.items ≡ l.fn.fresh.keys.items ++ keys_at l.pricing.measure l.pricing.supporters.now l.rests (take l.i l.heads);
  best : l.fresh.best ≡ first_least is_before l.fresh.keys.items;
}
