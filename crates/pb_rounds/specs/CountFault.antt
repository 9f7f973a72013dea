-- Which options a count refuses.
use Rattle.std.specs.Prelude.{ℕ, Option, Some, None, ◌&&◌, not, nat_le, if◌then◌else◌}
use Rattle.pb_price.specs.PriceFault.{is_worker_count}
use Rattle.pb_rounds.specs.declared.count_fault.CountFault.{CountFault}
use Rattle.pb_rounds.specs.declared.count_fault.CountFault.TheVariants.{RaisesRange, StepRange, WorkerCount}
use Rattle.pb_rounds.specs.declared.options.CountOptions.{CountOptions}

-- the most that a raise can lift everyone's share by, in hundredths
abbrev pub largest_step : ℕ
largest_step = 1000000000

-- the most raises
abbrev pub most_raises : ℕ
most_raises = 1000000

-- the first of the options that is out of its range, whatever the completion
abbrev pub refusal_of : CountOptions → Option CountFault
refusal_of options =
    if not (is_worker_count options.workers) then Some WorkerCount
    else if not (nat_le 1 options.step && nat_le options.step largest_step) then Some StepRange
    else if not (nat_le options.max_raises most_raises) then Some RaisesRange
    else None
