use Rattle.std.proofs.Common.{◌≡◌, ◌≤◌, ◌∙◌, replicate, [], false, refl, sym, ap, arith}
use Rattle.pb_price.specs.Price.{largest_share}
use Rattle.pb_rounds.specs.Outcome.{OutcomeView}
use Rattle.pb_rounds.proofs.Fronts.{front_open}
use Rattle.pb_rounds.proofs.TrialRounds.{nobody_marked}
use Rattle.pb_rounds.proofs.front.Front.open.Goals as goal

pub returns-clause-front : goal.returns-clause-front
returns-clause-front g c =
    let share : c.open.new.outcome.share ≡ c.args.share = ap (λ (o : OutcomeView). o.share) c.in_ok-open.ensures in
    let small : c.open.new.outcome.share ≤ largest_share = omega (arith, share, c.requires) in
    front_open (record {
      measure = c.args.measure;
      support = c.args.supporters.now;
      queue = c.fill_opening.new.queue.keys;
      marks = c.clear_marks.new.marks.items;
      spent = 0;
      outcome = c.open.new.outcome;
    }) c.projects.ensures.is_support small
    (c.in_ok-open.ensures
    ∙ ap (λ n. record { share = c.args.share; raised = 0; elected = []; rests = replicate n c.args.share; priced = [] }) c.voters.ensures.voters
    ∙ ap (λ n. record { share = n; raised = 0; elected = []; rests = replicate c.args.supporters.now.voters n; priced = [] }) (sym share))
    c.in_ok-fill_opening.ensures
    (nobody_marked c.args.supporters.now c.open.new.outcome (ap (λ (o : OutcomeView). o.elected) c.in_ok-open.ensures) c.clear_marks.new.marks.items
    (c.in_ok-clear_marks.ensures ∙ ap (λ n. replicate n false) c.projects.ensures.projects))
    refl
