use Rattle.std.proofs.Common.{◌∙◌, ap, subst, sym}
use Rattle.pb_price.specs.Supporters.{SupportView}
use Rattle.pb_price.specs.declared.grain.Grain.{Grain}
use Rattle.pb_reasons.specs.CountedElection.{CountedElectionView}
use Rattle.pb_reasons.specs.Inner.Kept.{IsKept}
use Rattle.pb_reasons.specs.Inner.Told.{CanBeTold}
use Rattle.pb_reasons.specs.Reasons.{project_reason}
use Rattle.pb_reasons.proofs.Tellable.{counted_can_be_told}
use Rattle.pb_reasons.proofs.counted_election.CountedElection.project.Goals as goal

pub project-requires-clause-told : goal.project-requires-clause-told
project-requires-clause-told c =
    let k = c.self.inside in
    let grain = ap (λ (s : SupportView). s.grain) c.self.invariant.1.reasons.supporters in
    subst (λ (g : Grain). CanBeTold g k.election k.counted.outcome) (sym grain) (counted_can_be_told _ c.self.invariant.0)

pub project-requires-clause-own : goal.project-requires-clause-own
project-requires-clause-own c =
    let k = c.self.inside in
    let grain = ap (λ (s : SupportView). s.grain) c.self.invariant.1.reasons.supporters in
    subst (λ (g : Grain). IsKept g k.election k.counted k.kept) (sym grain) c.self.invariant.1

pub returns : goal.returns
returns c =
    let k = c.self.inside in
    let grain = ap (λ (s : SupportView). s.grain) c.self.invariant.1.reasons.supporters in
    c.project.ensures ∙ ap (λ (g : Grain). project_reason g k.election k.counted c.args.place) grain
    ∙ ap (λ (x : CountedElectionView). project_reason x.rule.options.grain x.election x.counted c.args.place) c.self.view_is
