use Rattle.std.proofs.Common.{◌≡◌, ◌-◌, ◌*◌, ◌^◌, ap, min, subst}
use Rattle.pb_rounds.specs.Inner.Counted.{CountsTo}
use Rattle.pb_rounds.specs.declared.options.Completion.TheVariants.{Add1}
use Rattle.pb_rounds.specs.declared.options.CountOptions.{CountOptions}
use Rattle.pb_reasons.proofs.RaiseLimits.{strided_count}
use Rattle.pb_reasons.proofs.raise_limit.outcome_by_strides.Goals as goal

pub returns : goal.returns
returns g c =
    let step = ap (λ (v : CountOptions). v.step) c.options.view_is in
    let cut_off : c.saturating_mul.result ≡ min (c.args.options.now.step * c.args.strides.length) (2 ^ 64 - 1) = cc (step, c.saturating_mul.ensures, c.from.ensures) in
    let P : CountOptions → Type 0 = λ v. CountsTo c.args.election.now (record v { step = c.saturating_mul.result; max_raises = c.args.strides.most; completion = Add1 }) c.count_watched.result in
    strided_count c.args.election.now c.args.options.now c.args.strides c.saturating_mul.result cut_off _ (subst P c.options.view_is c.count_watched.ensures)
