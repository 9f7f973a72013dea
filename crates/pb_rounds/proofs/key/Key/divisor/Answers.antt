use Rattle.std.proofs.Common.{◌*◌, ◌∙◌, ap}
use Rattle.pb_rounds.specs.Key.{KeyView, divisor}
use Rattle.pb_rounds.proofs.Divisors.{divisor_from}
use Rattle.pb_rounds.proofs.key.Key.divisor.Goals as goal

pub returns : goal.returns
returns c =
    let k : KeyView = record { price = record { amount = c.self.inside.amount; payers = c.self.inside.payers }; weight = c.self.inside.weight; place = c.self.inside.place } in
    ap (λ n. n * c.self.inside.weight) c.from.ensures ∙ divisor_from k c.self.invariant.1 c.self.invariant.0 ∙ ap divisor c.self.view_is
