use Rattle.std.proofs.Common.{◌≡◌, ◌∙◌, arith}
use Rattle.std.proofs.lemmas.Result.{on_ok_weaker}
use Rattle.pb_rounds.specs.Count.{share_after}
use Rattle.pb_rounds.proofs.Completing.{raised_fits}
use Rattle.pb_rounds.proofs.side_by_side.Raising.prepare_group.Goals as goal

pub raised_share-share-requires : goal.raised_share-share-requires
raised_share-share-requires g c =
    raised_fits c.args.self.now.pricing.now.supporters.now.grain c.args.self.now.election.now c.args.self.now.step c.args.self.now.max_raises c.args.next
    c.opening_of-opening.result c.opening_of-opening.ensures.share c.requires.next c.args.self.now.given.small

pub extend-requires-clause-small : goal.extend-requires-clause-small
extend-requires-clause-small g c =
    let fits = raised_fits c.args.self.now.pricing.now.supporters.now.grain c.args.self.now.election.now c.args.self.now.step c.args.self.now.max_raises c.args.next
    c.opening_of-opening.result c.opening_of-opening.ensures.share c.requires.next c.args.self.now.given.small in
    omega (arith, fits, c.raised_share-share.ensures)

pub extend-requires-clause-from : goal.extend-requires-clause-from
extend-requires-clause-from g c = omega (arith, c.requires.share, c.raised_share-share.ensures, c.opening_of-opening.ensures.share)

pub returns-clause-front : goal.returns-clause-front
returns-clause-front g c = on_ok_weaker c.resize.result (λ _. c.in_ok-extend.ensures.front) c.resize.ensures

pub returns-clause-of : goal.returns-clause-of
returns-clause-of g c =
    let share : c.raised_share-share.result ≡ share_after c.args.self.now.pricing.now.supporters.now.grain c.args.self.now.election.now c.args.self.now.step c.args.next = omega (arith, c.raised_share-share.ensures, c.opening_of-opening.ensures.share) in
    on_ok_weaker c.resize.result
    (λ _. record {
      of_measure = c.in_ok-extend.ensures.of.of_measure ∙ c.requires.of.of_measure;
      of_support = c.in_ok-extend.ensures.of.of_support ∙ c.requires.of.of_support;
      at_share = c.in_ok-extend.ensures.of.at_share ∙ share;
    })
    c.resize.ensures

pub returns-clause-some : goal.returns-clause-some
returns-clause-some g c = on_ok_weaker c.resize.result (λ long. omega (arith, long, c.requires.workers, c.requires.next)) c.resize.ensures

pub returns-clause-few : goal.returns-clause-few
returns-clause-few g c = on_ok_weaker c.resize.result (λ long. omega (arith, long, c.requires.workers)) c.resize.ensures

pub returns-clause-within : goal.returns-clause-within
returns-clause-within g c = on_ok_weaker c.resize.result (λ long. omega (arith, long, c.requires.next)) c.resize.ensures
