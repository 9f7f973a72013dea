use Rattle.std.proofs.Common.{◌≡◌, ℕ, ◌/◌, arith, length, refl}
use Rattle.std.specs.Prelude.{max}
use Rattle.pb_price.specs.Grain.{in_parts}
use Rattle.pb_page.proofs.counted_in.hundredths_in.Goals as goal

pub div_ceil-requires : goal.div_ceil-requires
div_ceil-requires c = omega (arith, c.max-divisor.ensures)
