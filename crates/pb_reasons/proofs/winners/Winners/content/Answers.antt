use Rattle.std.proofs.Common.{◌≡◌, ◌<◌, ◌∙◌, ℕ, ap, get_or, length, subst, sym, arith}
use Rattle.pb_price.specs.Supporters.{cost_at, support_of}
use Rattle.pb_reasons.proofs.WinnerSums.{cost_at-known}
use Rattle.pb_reasons.proofs.Comparing.{chosen_more, flag_tells, passed_over}
use Rattle.pb_reasons.proofs.winners.Winners.content.Goals.{then-index, else-index}
use Rattle.pb_reasons.proofs.winners.Winners.content.Goals as goal

pub loop-place-preserved : goal.loop-place-preserved
loop-place-preserved c =
    let e = c.self.inside.election.now in
    let winners = c.self.inside.places.now in
    let ballot = c.args.ballot.now in
    let i = c.loop-place.place-index in
    let place = get_or ballot i 0 in
    let known : place < length e.projects = rw (← c.self.view_is) at (c.requires.known i 0 c.loop-place-test.true) in
    let flag = flag_tells (length e.projects) winners c.self.inside.flags.items place c.index.result.now c.self.invariant known c.index.ensures in
    elim c.if-index.branch [
      | then-index w ↦
          let project = w.index-projects-place.result in
          let cost : w.from-then-index.result ≡ cost_at (support_of e) place = w.from-then-index.ensures ∙ w.from.view_is ∙ w.cost.ensures.cost
          ∙ sym (cost_at-known e place project known (rw c.projects-projects.ensures.projects at w.index-projects-place.is)) in
          let more = chosen_more e winners ballot i c.loop-place-test.true (flag ∙ w.if-index.true) in
          let h = c.loop-place.invariant in
          rw w.content-is (record {
            choices = omega (arith, more.0, h.choices);
            worth = omega (arith, more.1, h.worth, cost);
            few = omega (arith, h.few);
            small = omega (arith, h.small, w.from-then-index.ensures, w.from.view_is, w.cost.ensures.cost, w.cost.ensures.is_project.affordable);
          })
      | else-index w ↦
          let same = passed_over e winners ballot i c.loop-place-test.true (flag ∙ w.if-index.false) in
          let h = c.loop-place.invariant in
          rw w.content-is (record {
            choices = omega (arith, same.0, h.choices);
            worth = omega (arith, same.1, h.worth);
            few = omega (arith, h.few);
            small = omega (arith, h.small);
          })
    ]

pub bounds-projects-place : goal.bounds-projects-place
bounds-projects-place c =
    let place = get_or c.args.ballot.now c.loop-place.place-index 0 in
    let known : place < length c.self.inside.election.now.projects = rw (← c.self.view_is) at (c.requires.known c.loop-place.place-index 0 c.loop-place-test.true) in
    subst (λ (n : ℕ). place < n) (ap length (sym c.projects-projects.ensures.projects)) known
