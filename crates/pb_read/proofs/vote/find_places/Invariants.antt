use Rattle.std.proofs.Common.{ℕ, List, map}
use Rattle.pb_read.proofs.Pieces.{IsWalked}
use Rattle.pb_read.specs.Inner.Ids.{Finds}
use Rattle.pb_read.proofs.vote.find_places.Given as goal

abbrev pub invariant-loop-piece : goal.invariant-loop-piece
invariant-loop-piece l =
    (ids : List (List ℕ)) → Finds l.known ids → IsWalked ids (map (λ part. part.now) l.yielded) l.places.items
