use Rattle.std.proofs.Common.{◌≡◌, subst}
use Rattle.std.specs.Prelude.{All, IfSome}
use Rattle.pb_price.proofs.Prices.{price_from_is_price}
use Rattle.pb_price.proofs.SupporterLists.{cost_positive}
use Rattle.pb_price.proofs.steps.PriceSearch.price_by.Goals as goal

pub returns-in-Some : goal.returns-in-Some
returns-in-Some g c =
    price_from_is_price c.args.self.now.supporters.now c.args.self.now.rests.now c.args.self.now.place
    (cost_positive c.args.self.now.supporters.now c.projects-projects.ensures.is_support c.args.self.now.place c.args.self.now.known) c.price_at_share.result
    (c.price_at_share.ensures.price c.args.self.now.rests.now c.args.self.now.are_rests
    (subst (λ o. IfSome o (λ share. All (λ rest. rest ≡ share) c.args.self.now.rests.now)) c.in-Some.is c.requires.common))

pub returns-in-None : goal.returns-in-None
returns-in-None g c =
    price_from_is_price c.args.self.now.supporters.now c.args.self.now.rests.now c.args.self.now.place
    (cost_positive c.args.self.now.supporters.now c.projects-projects.ensures.is_support c.args.self.now.place c.args.self.now.known) c.price_in_steps.result c.price_in_steps.ensures
