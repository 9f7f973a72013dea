use Rattle.std.proofs.Common.{rules}
use Rattle.pb_price.proofs.Prices.{are_prices}
use Rattle.pb_price.proofs.SupporterLists.{cost_positive}
use Rattle.pb_price.proofs.all_prices.price_pieces.Goals as goal

pub returns-clause-prices : goal.returns-clause-prices
returns-clause-prices g c =
    are_prices c.args.pieces.now.supporters.now c.args.pieces.now.rests.now
    (cost_positive c.args.pieces.now.supporters.now c.projects-projects.ensures.is_support) c.args.pieces.now.projects.now c.requires.known _ (search rules)
