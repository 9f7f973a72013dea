use Rattle.std.proofs.Common.{◌+◌, ◌*◌, ◌∙◌, ap, subst}
use Rattle.pb_rounds.specs.Count.{share_after}
use Rattle.pb_rounds.specs.Inner.RaiseEnds.{IsOutcomeAt}
use Rattle.pb_rounds.proofs.Counted.{each_ok}
use Rattle.pb_rounds.proofs.count.outcome_after.Goals as goal

pub returns : goal.returns
returns g c =
    let m = c.args.pricing.now.measure in
    let s = c.args.pricing.now.supporters.now in
    let workers = c.args.pricing.now.workers in
    let after = share_after s.grain c.args.election.now c.args.step c.args.raised in
    each_ok (IsOutcomeAt m s workers c.raised_share-share.result c.args.raised) (IsOutcomeAt m s workers after c.args.raised)
    (λ o h. subst (λ n. IsOutcomeAt m s workers n c.args.raised o)
    (c.raised_share-share.ensures ∙ ap (λ n. n + c.args.raised * c.args.step) c.opening_of-opening.ensures.share) h)
    c.whole_run.result c.whole_run.ensures
