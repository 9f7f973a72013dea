use Rattle.std.proofs.Common.{◌≡◌, false, take}
use Rattle.std.specs.Prelude.{All}
use Rattle.pb_reasons.specs.AllTies.{is_same_pair}
use Rattle.pb_reasons.specs.declared.exchange.Recounted.{Recounted}
use Rattle.pb_reasons.proofs.exchange.change_known.Given as goal

abbrev pub invariant-loop-pair : goal.invariant-loop-pair
invariant-loop-pair l = All (λ (k : Recounted). is_same_pair k.tie l.tie ≡ false) (take l.pair-index l.known)
