use Rattle.std.proofs.Common.{◌≡◌, ◌∙◌, arith, get_or, map}
use Rattle.std.specs.Prelude.{slice_index}
use Rattle.std.proofs.lemmas.List.Sums.{sum_by_more}
use Rattle.pb_core.specs.Election.{ProjectView}
use Rattle.pb_reasons.proofs.winners.spent_on.Goals as goal

pub loop-place-preserved : goal.loop-place-preserved
loop-place-preserved c =
    let costs = map (λ (p : ProjectView). p.cost) c.args.projects.now in
    let places = c.args.places.now in
    let i = c.loop-place.place-index in
    let more = sum_by_more (slice_index costs) places i 0 c.loop-place-test.true in
    let cost : c.from-spent.result ≡ slice_index costs (get_or places i 0) = c.from-spent.ensures ∙ c.cost_of.ensures in
    let h = c.loop-place.invariant in
    record { spent = omega (arith, more, cost, h.spent); small = omega (arith, h.small, c.from-spent.ensures, c.cost_of.type_inv) }
