use Rattle.std.proofs.Common.{◌≡◌, ◌+◌, ◌-◌, ◌≤◌, ◌∙◌, subst, sym, ap, arith}
use Rattle.std.specs.Prelude.{All}
use Rattle.pb_price.specs.Price.{largest_share}
use Rattle.pb_rounds.specs.Inner.Front.{FrontView, IsCopyUpTo}
use Rattle.pb_rounds.specs.Outcome.{OutcomeView}
use Rattle.pb_rounds.proofs.Fronts.{raised_fits}
use Rattle.pb_rounds.proofs.front.Front.start.Goals as goal

pub raise-requires-clause-from : goal.raise-requires-clause-from
raise-requires-clause-from g c =
    let same : c.copy_outcome.new.outcome ≡ c.args.self.now.outcome = c.in_ok-copy_outcome.ensures ∙ ap (λ (f : FrontView). f.outcome) c.self.view_is in
    let share = ap (λ (o : OutcomeView). o.share) same in
    omega (arith, share, c.requires.from)

pub raise-requires-clause-small : goal.raise-requires-clause-small
raise-requires-clause-small g c =
    let same : c.copy_outcome.new.outcome ≡ c.args.self.now.outcome = c.in_ok-copy_outcome.ensures ∙ ap (λ (f : FrontView). f.outcome) c.self.view_is in
    subst (λ (o : OutcomeView). All (λ rest. rest + (c.args.share - o.share) ≤ largest_share) o.rests) (sym same)
    (raised_fits c.args.self.now c.requires.front (c.args.share - c.args.self.now.outcome.share) (omega (arith, c.requires.from, c.requires.small)))

pub returns-clause-spent : goal.returns-clause-spent
returns-clause-spent g c = ap (λ (f : FrontView). f.spent) c.self.view_is

pub returns-clause-queue : goal.returns-clause-queue
returns-clause-queue g c =
    subst (λ (f : FrontView). IsCopyUpTo c.args.share f.queue c.copy_up_to.new.queue.keys) c.self.view_is c.in_ok-copy_up_to.ensures
