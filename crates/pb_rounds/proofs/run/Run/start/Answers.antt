use Rattle.std.proofs.Common.{[], ◌∙◌, ap}
use Rattle.std.specs.Prelude.{replicate}
use Rattle.pb_rounds.proofs.run.Run.start.Goals as goal

pub returns-clause-outcome : goal.returns-clause-outcome
returns-clause-outcome g c =
    c.in_ok-open.ensures
    ∙ ap (λ n. record { share = c.args.share; raised = c.args.raised; elected = []; rests = replicate n c.args.share; priced = [] }) c.voters.ensures.voters
