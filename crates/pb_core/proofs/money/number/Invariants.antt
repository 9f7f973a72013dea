use Rattle.std.proofs.Common.{◌≡◌, ◌*◌, min, take}
use Rattle.std.specs.Str.Parse.{digits_value}
use Rattle.pb_core.specs.Money.{largest_money}
use Rattle.pb_core.proofs.money.number.Given as goal

abbrev pub invariant-loop-digit : goal.invariant-loop-digit
invariant-loop-digit l = l.number ≡ min (digits_value 10 (take l.digit-index l.digits)) (10 * largest_money)
