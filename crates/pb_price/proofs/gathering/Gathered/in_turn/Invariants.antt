use Rattle.std.proofs.Common.{◌≡◌, map, take}
use Rattle.pb_price.specs.Price.{price_at}
use Rattle.pb_price.proofs.gathering.Gathered.in_turn.Given as goal

abbrev pub invariant-loop-piece : goal.invariant-loop-piece
invariant-loop-piece g l = l.prices.items ≡ map (price_at l.pieces.supporters.now l.pieces.rests.now) (take l.piece l.pieces.projects.now)
