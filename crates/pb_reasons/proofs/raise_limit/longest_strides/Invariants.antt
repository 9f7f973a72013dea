use Rattle.std.proofs.Common.{◌<◌}
use Rattle.pb_reasons.proofs.raise_limit.longest_strides.Given as goal

abbrev pub invariant-doubling : goal.invariant-doubling
invariant-doubling l = 0 < l.length
