use Rattle.std.proofs.Common.{◌≡◌, decimal, map}
use Rattle.pb_rows.proofs.places.read_place_list.Given as goal

abbrev pub invariant-loop-piece : goal.invariant-loop-piece
invariant-loop-piece g l = map decimal l.places.items ≡ map (λ piece. piece.now) l.yielded
