use Rattle.std.proofs.Common.{Option, sym, subst}
use Rattle.pb_price.specs.Price.{PriceView}
use Rattle.pb_reasons.specs.Inner.TieQueue.{PutsBound}
use Rattle.pb_reasons.proofs.TieQueue.{puts_some}
use Rattle.pb_reasons.proofs.tie_queue.put_bound.Goals as goal

pub returns-in_ok-insert : goal.returns-in_ok-insert
returns-in_ok-insert c =
    let m = c.args.measure in
    let s = c.args.supporters.now in
    subst (λ (o : Option PriceView). PutsBound m s c.args.place o c.args.queue.now.keys c.insert.new.self.keys) (sym c.in-Some.is)
    (puts_some m s c.args.place c.in-Some.bound c.args.queue.now.keys c.key_of-key.result c.key_of-key.ensures c.insert.new.self.keys c.in_ok-insert.ensures.keys c.insert.ensures.ordered)
