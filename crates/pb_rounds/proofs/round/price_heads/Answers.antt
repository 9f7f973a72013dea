use Rattle.std.proofs.Common.{◌∙◌, ◌++◌, length, sym, ap, get_or, arith}
use Rattle.std.proofs.lemmas.List.{length-map, take_all}
use Rattle.pb_price.proofs.Prices.{prices_from_are_prices}
use Rattle.pb_price.proofs.SupporterLists.{cost_positive}
use Rattle.pb_price.specs.Price.{price_at}
use Rattle.pb_rounds.specs.Key.{first_least, is_before}
use Rattle.pb_rounds.specs.Run.{keys_at}
use Rattle.pb_rounds.proofs.Payers.{payers_of_price}
use Rattle.pb_rounds.proofs.QueueSteps.{answer_at, best_more, fresh_none, fresh_some}
use Rattle.pb_rounds.proofs.round.price_heads.Goals as goal
use Rattle.pb_rounds.proofs.round.price_heads.Goals.{in-Some+in_ok-push, in_default}

pub index-requires : goal.index-requires
index-requires g c =
    let s = c.args.pricing.now.supporters.now in
    let prices = prices_from_are_prices s c.args.rests.now (cost_positive s c.projects-projects.ensures.is_support) c.args.heads.now c.requires.known c.in_ok-answers.answers.items c.in_ok-answers.ensures.prices in
    let long = ap length prices ∙ length-map c.args.heads.now (price_at s c.args.rests.now) in
    omega (arith, long, c.in_ok-answers.answers.ok.0, c.loop-i-test.true)

pub loop-i-preserved : goal.loop-i-preserved
loop-i-preserved g c =
    let m = c.args.pricing.now.measure in
    let s = c.args.pricing.now.supporters.now in
    let rests = c.args.rests.now in
    let heads = c.args.heads.now in
    let i = c.loop-i.i in
    let answered = answer_at (price_at s rests) heads i c.loop-i-test.true c.in_ok-answers.answers.items (prices_from_are_prices s rests (cost_positive s c.projects-projects.ensures.is_support) heads c.requires.known c.in_ok-answers.answers.items c.in_ok-answers.ensures.prices) c.index.result.now c.index.ensures in
    record {
      fresh = elim c.match-index.branch [
        | in-Some+in_ok-push w ↦ rw w.fresh-is (w.in_ok-push.ensures.items
            ∙ fresh_some m s rests heads i c.loop-i-test.true c.args.fresh.now.keys.items c.loop-i.fresh.keys.items c.loop-i.invariant.fresh c.index.result.now answered
            w.in-Some.price w.in-Some.is w.new-key.result
            (w.new-key.ensures ∙ ap (λ n. record { price = w.in-Some.price; weight = n; place = get_or heads i 0 }) w.weight-weight.ensures.weight))
        | in_default w ↦ rw w.fresh-is
            (fresh_none m s rests heads i c.loop-i-test.true c.args.fresh.now.keys.items c.loop-i.fresh.keys.items c.loop-i.invariant.fresh c.index.result.now answered
            w.in_default.is)
      ];
      best = elim c.match-index.branch [
        | in-Some+in_ok-push w ↦ rw w.fresh-is
            (best_more c.loop-i.fresh.keys.items c.loop-i.fresh.best c.loop-i.invariant.best w.new-key.result w.better.result w.better.ensures
            ∙ ap (first_least is_before) (sym w.in_ok-push.ensures.items))
        | in_default w ↦ rw w.fresh-is c.loop-i.invariant.best
      ];
    }

pub returns-clause-fresh : goal.returns-clause-fresh
returns-clause-fresh g c =
    c.loop-i.invariant.fresh
    ∙ ap (λ xs. c.args.fresh.now.keys.items ++ keys_at c.args.pricing.now.measure c.args.pricing.now.supporters.now c.args.rests.now xs)
    (take_all c.loop-i.i c.args.heads.now c.loop-i-test.false)

pub weight-weight-requires : goal.weight-weight-requires
weight-weight-requires g c = c.requires.known c.loop-i.i 0 c.loop-i-test.true

pub new-key-requires-clause-payers : goal.new-key-requires-clause-payers
new-key-requires-clause-payers g c =
    let s = c.args.pricing.now.supporters.now in
    let rests = c.args.rests.now in
    let heads = c.args.heads.now in
    let i = c.loop-i.i in
    let answered = answer_at (price_at s rests) heads i c.loop-i-test.true c.in_ok-answers.answers.items (prices_from_are_prices s rests (cost_positive s c.projects-projects.ensures.is_support) heads c.requires.known c.in_ok-answers.answers.items c.in_ok-answers.ensures.prices) c.index.result.now c.index.ensures in
    (payers_of_price s c.projects-projects.ensures.is_support rests (get_or heads i 0) (c.requires.known i 0 c.loop-i-test.true) c.in-Some.price (sym answered ∙ c.in-Some.is)).some

pub new-key-requires-clause-fits : goal.new-key-requires-clause-fits
new-key-requires-clause-fits g c =
    let s = c.args.pricing.now.supporters.now in
    let rests = c.args.rests.now in
    let heads = c.args.heads.now in
    let i = c.loop-i.i in
    let answered = answer_at (price_at s rests) heads i c.loop-i-test.true c.in_ok-answers.answers.items (prices_from_are_prices s rests (cost_positive s c.projects-projects.ensures.is_support) heads c.requires.known c.in_ok-answers.answers.items c.in_ok-answers.ensures.prices) c.index.result.now c.index.ensures in
    c.weight-weight.ensures.fits c.in-Some.price
    (payers_of_price s c.projects-projects.ensures.is_support rests (get_or heads i 0) (c.requires.known i 0 c.loop-i-test.true) c.in-Some.price (sym answered ∙ c.in-Some.is))
