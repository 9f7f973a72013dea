use Rattle.std.proofs.Common.{◌≡◌, ◌-◌, ◌∙◌, rules}
use Rattle.pb_rounds.proofs.Payers.{elected_have_payers}
use Rattle.pb_rounds.proofs.Trials.{jumped, keeps_after}
use Rattle.pb_rounds.proofs.side_by_side.Raising.jump.Goals as goal

pub keeps-requires-clause-last : goal.keeps-requires-clause-last
keeps-requires-clause-last g c =
    let s = c.args.self.now.pricing.now.supporters.now in
    let seen : c.as_slice-elected.result.now ≡ c.args.last.now.outcome.elected = search rules in
    elected_have_payers c.args.self.now.pricing.now.measure s.grain c.args.self.now.election.now s c.requires.given.own_supporters c.opening_of-opening.ensures.is_support
    c.args.self.now.step (c.args.next - 1) c.as_slice-elected.result.now (seen ∙ c.requires.last)

pub returns-then-keeps-clause-decided : goal.returns-then-keeps-clause-decided
returns-then-keeps-clause-decided g c it_is raises below =
    let m = c.args.self.now.pricing.now.measure in
    let grain = c.args.self.now.pricing.now.supporters.now.grain in
    let e = c.args.self.now.election.now in
    let seen : c.as_slice-elected.result.now ≡ c.args.last.now.outcome.elected = search rules in
    let keeps = keeps_after m grain e c.args.self.now.pricing.now.supporters.now c.requires.given.own_supporters c.args.self.now.step c.args.target c.opening_of-opening.result c.raised_share-share.result
    c.opening_of-opening.ensures.share c.raised_share-share.ensures (c.args.next - 1) c.as_slice-elected.result.now (seen ∙ c.requires.last)
    (c.in_ok-keeps.ensures.keeps it_is) in
    jumped m grain e c.args.self.now.step c.args.next c.args.target c.requires.next.0 c.requires.tried keeps raises below
