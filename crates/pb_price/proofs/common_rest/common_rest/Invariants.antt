use Rattle.std.proofs.Common.{◌≡◌, take}
use Rattle.std.specs.Prelude.{All}
use Rattle.pb_price.proofs.common_rest.common_rest.Given as goal

abbrev pub invariant-loop-rest : goal.invariant-loop-rest
invariant-loop-rest g l = All (λ rest. rest ≡ l.share) (take l.rest-index l.rests)
