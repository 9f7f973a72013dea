use Rattle.std.proofs.Common.{◌<◌, ap, sym, ◌∙◌, subst}
use Rattle.pb_price.proofs.Workers.{gathers_all}
use Rattle.pb_price.proofs.all_prices.price_side_by_side.Goals as goal

pub returns-in-Ok-clause-prices : goal.returns-in-Ok-clause-prices
returns-in-Ok-clause-prices g c =
    let all = c.in-Ok.ensures.all ∙ ap (λ b. b.workers) c.in_ok-claims.ensures.batch in
    let some = subst (λ n. 0 < n) (sym all) c.requires.workers.0 in
    (gathers_all c.args.pieces.now.supporters.now c.args.pieces.now.rests.now c.args.pieces.now.projects.now c.draw_and_gather.new.stock.seat.me.0 c.in-Ok.gathered.prices.items c.in-Ok.gathered.priced
    c.close.ensures.0 c.in-Ok.ensures.gathered c.close.ensures.1 some).0

pub returns-in-Ok-clause-priced : goal.returns-in-Ok-clause-priced
returns-in-Ok-clause-priced g c =
    let all = c.in-Ok.ensures.all ∙ ap (λ b. b.workers) c.in_ok-claims.ensures.batch in
    let some = subst (λ n. 0 < n) (sym all) c.requires.workers.0 in
    (gathers_all c.args.pieces.now.supporters.now c.args.pieces.now.rests.now c.args.pieces.now.projects.now c.draw_and_gather.new.stock.seat.me.0 c.in-Ok.gathered.prices.items c.in-Ok.gathered.priced
    c.close.ensures.0 c.in-Ok.ensures.gathered c.close.ensures.1 some).1
