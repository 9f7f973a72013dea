use Rattle.std.proofs.Common.{◌∙◌, ap, subst}
use Rattle.std.specs.Prelude.{IfSome}
use Rattle.pb_price.proofs.SupporterLists.{cost_positive}
use Rattle.pb_price.specs.Price.{HasPayers}
use Rattle.pb_rounds.proofs.BoundQueue.{opening_price, opening_puts, opening_skips}
use Rattle.pb_rounds.proofs.bounds.put_opening.Goals as goal

pub new-requires-clause-payers : goal.new-requires-clause-payers
new-requires-clause-payers g c = (subst (λ o. IfSome o (HasPayers c.args.supporters.now)) c.in-Some.is c.price_at_share.ensures.payers).some

pub new-requires-clause-fits : goal.new-requires-clause-fits
new-requires-clause-fits g c =
    c.weight-weight.ensures.fits c.in-Some.price (subst (λ o. IfSome o (HasPayers c.args.supporters.now)) c.in-Some.is c.price_at_share.ensures.payers)

pub returns-in_ok-insert : goal.returns-in_ok-insert
returns-in_ok-insert g c =
    opening_puts c.args.measure c.args.supporters.now c.args.share c.args.place c.args.queue.now.keys c.requires.before c.in-Some.price
    (subst (λ o. IfSome o (HasPayers c.args.supporters.now)) c.in-Some.is c.price_at_share.ensures.payers)
    (opening_price c.args.supporters.now c.args.share c.args.place (cost_positive c.args.supporters.now c.weight-weight.ensures.is_support c.args.place c.requires.known)
    c.price_at_share.result c.requires.share c.price_at_share.ensures.price ∙ c.in-Some.is)
    c.new.result (c.new.ensures ∙ ap (λ n. record { price = c.in-Some.price; weight = n; place = c.args.place }) c.weight-weight.ensures.weight)
    c.insert.new.self.keys c.in_ok-insert.ensures.keys c.insert.ensures.ordered

pub returns-in_default : goal.returns-in_default
returns-in_default g c =
    opening_skips c.args.measure c.args.supporters.now c.args.share c.args.place c.args.queue.now.keys c.requires.before
    (opening_price c.args.supporters.now c.args.share c.args.place (cost_positive c.args.supporters.now c.weight-weight.ensures.is_support c.args.place c.requires.known)
    c.price_at_share.result c.requires.share c.price_at_share.ensures.price ∙ c.in_default.is)
