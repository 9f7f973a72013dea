use Rattle.std.proofs.Common.{◌∙◌, ap}
use Rattle.pb_price.specs.Supporters.{support_in}
use Rattle.pb_reasons.specs.CountedElection.{CountedElectionView}
use Rattle.pb_reasons.proofs.counted_election.CountedElection.supporters.Goals as goal

pub returns : goal.returns
returns c = c.supporters.ensures ∙ c.self.invariant.1.reasons.supporters ∙ ap (λ (v : CountedElectionView). support_in v.rule.options.grain v.election) c.self.view_is
