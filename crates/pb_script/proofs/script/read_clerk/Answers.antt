use Rattle.std.proofs.Common.{◌<◌, ◌≤◌, ◌^◌, arith}
use Rattle.pb_script.proofs.ScriptForms.{large_clerk}
use Rattle.pb_script.specs.Inner.Script.{clerks_within}
use Rattle.pb_script.proofs.script.read_clerk.Goals as goal

pub returns-then-clerk-clerks_within : goal.returns-then-clerk-clerks_within
returns-then-clerk-clerks_within c =
    let clerk = c.in-Some.clerk in
    let fits : clerk < 2 ^ 32 = omega arith in
    let within = c.clerks_within.ensures in
    let large : clerks_within c.args.clerks ≤ clerk = omega arith in
    large_clerk c.args.clerks clerk c.args.field.now c.in-Some.ensures.spelled fits large
