use Rattle.std.proofs.Common.{◌*◌, ◌-◌, ◌^◌, ◌∙◌, ap}
use Rattle.std.specs.Prelude.{nat_le, nat_lt}
use Rattle.pb_rounds.proofs.Counted.{above_or_from}
use Rattle.pb_rounds.proofs.count.is_too_much.Goals as goal

pub returns : goal.returns
returns c =
    ap (λ n. nat_lt n (c.from.result * c.from-2.result)) c.from-3.ensures ∙ above_or_from (2 ^ 64 - 1) (c.from.result * c.from-2.result)
    ∙ ap (λ n. nat_le (2 ^ 64) (n * c.from-2.result)) c.from.ensures ∙ ap (λ n. nat_le (2 ^ 64) (c.args.parts * n)) (c.from-2.ensures ∙ c.amount.view_is)
