-- Counts by strides of several raises; private contracts speak of them.
use Rattle.std.specs.Prelude.{◌*◌}
use Rattle.pb_rounds.specs.declared.options.Completion.TheVariants.{Add1}
use Rattle.pb_rounds.specs.declared.options.CountOptions.{CountOptions}
use Rattle.pb_reasons.specs.declared.raise_limit.Strides.{Strides}

-- the completion by these strides
abbrev pub by_strides : CountOptions → Strides → CountOptions
by_strides options strides = record options {
  step = options.step * strides.length;
  max_raises = strides.most;
  completion = Add1;
}
