use Rattle.std.proofs.Common.{◌∙◌, ap, map, arith}
use Rattle.std.proofs.lemmas.List.{take_all}
use Rattle.std.proofs.lemmas.Result.{IfOk-from_err}
use Rattle.pb_price.specs.Price.{price_at}
use Rattle.pb_price.proofs.BuiltLists.{priced_more}
use Rattle.pb_price.proofs.gathering.Gathered.in_turn.Goals as goal

pub loop-piece-init : goal.loop-piece-init
loop-piece-init g c = c.in_ok-prices.ensures.items

pub loop-piece-preserved : goal.loop-piece-preserved
loop-piece-preserved g c =
    priced_more (price_at c.args.pieces.now.supporters.now c.args.pieces.now.rests.now) c.args.pieces.now.projects.now c.loop-piece.prices.items c.push.new.self.items c.loop-piece.piece c.price_by.result
    c.loop-piece-test.true c.loop-piece.invariant c.in_ok-push.ensures.items c.price_by.ensures

pub overflow_cast-piece : goal.overflow_cast-piece
overflow_cast-piece g c = omega (arith, c.loop-piece-test.true, c.requires.batch.few)

pub returns-clause-prices : goal.returns-clause-prices
returns-clause-prices g c =
    c.loop-piece.invariant
    ∙ ap (map (price_at c.args.pieces.now.supporters.now c.args.pieces.now.rests.now)) (take_all c.loop-piece.piece c.args.pieces.now.projects.now c.loop-piece-test.false)

pub returns-in_err-prices-clause-prices : goal.returns-in_err-prices-clause-prices
returns-in_err-prices-clause-prices g c = IfOk-from_err _ _ c.from_residual.ensures.0

pub returns-in_err-prices-clause-priced : goal.returns-in_err-prices-clause-priced
returns-in_err-prices-clause-priced g c = IfOk-from_err _ _ c.from_residual.ensures.0

pub returns-in_err-prices-clause-workers : goal.returns-in_err-prices-clause-workers
returns-in_err-prices-clause-workers g c = IfOk-from_err _ _ c.from_residual.ensures.0

pub returns-in_err-push-clause-prices : goal.returns-in_err-push-clause-prices
returns-in_err-push-clause-prices g c = IfOk-from_err _ _ c.from_residual-in_err-push.ensures.0

pub returns-in_err-push-clause-priced : goal.returns-in_err-push-clause-priced
returns-in_err-push-clause-priced g c = IfOk-from_err _ _ c.from_residual-in_err-push.ensures.0

pub returns-in_err-push-clause-workers : goal.returns-in_err-push-clause-workers
returns-in_err-push-clause-workers g c = IfOk-from_err _ _ c.from_residual-in_err-push.ensures.0
