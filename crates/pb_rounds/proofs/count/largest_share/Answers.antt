use Rattle.std.proofs.Common.{◌+◌, ◌*◌, sym, ◌∙◌, ap}
use Rattle.pb_rounds.specs.Count.{opening_share, share_by, step_of}
use Rattle.pb_rounds.proofs.count.largest_share.Goals as goal

pub returns-in-NoShares : goal.returns-in-NoShares
returns-in-NoShares g c =
    ap (λ k. share_by k c.args.options.now.grain c.args.election.now (step_of c.args.election.now c.args.options.now) c.args.options.now.max_raises) (sym c.in-NoShares.is)

pub returns-in-Plain : goal.returns-in-Plain
returns-in-Plain g c =
    c.from-opening.ensures ∙ c.share.view_is ∙ c.opening_share-share.ensures.share
    ∙ ap (λ k. share_by k c.args.options.now.grain c.args.election.now (step_of c.args.election.now c.args.options.now) c.args.options.now.max_raises) (sym c.in-Plain.is)

pub returns-in-Add1 : goal.returns-in-Add1
returns-in-Add1 g c =
    ap (λ n. n + c.from.result * c.from-2.result) (c.from-opening.ensures ∙ c.share.view_is ∙ c.opening_share-share.ensures.share)
    ∙ ap (λ n. opening_share c.args.options.now.grain c.args.election.now + n * c.from-2.result) c.from.ensures
    ∙ ap (λ n. opening_share c.args.options.now.grain c.args.election.now + c.args.options.now.max_raises * n) (c.from-2.ensures ∙ c.step.view_is ∙ c.step_in_parts-step.ensures)
    ∙ ap (λ k. share_by k c.args.options.now.grain c.args.election.now (step_of c.args.election.now c.args.options.now) c.args.options.now.max_raises) (sym c.in-Add1.is)
