use Rattle.std.proofs.Common.{sym, ◌∙◌}
use Rattle.std.proofs.lemmas.Bool.{MatchBool-at_false, MatchBool-at_true}
use Rattle.pb_price.proofs.common_rest.price_at_share.Goals as goal

pub returns-then-is_within-clause-price : goal.returns-then-is_within-clause-price
returns-then-is_within-clause-price g c rests are alike =
    MatchBool-at_true _ _ (sym c.is_within.ensures ∙ c.if-is_within.true) (c.in_ok-price.ensures.at_share rests c.args.share are.one_each alike)

pub returns-else-is_within-clause-price : goal.returns-else-is_within-clause-price
returns-else-is_within-clause-price g c rests are alike =
    MatchBool-at_false _ _ (sym c.is_within.ensures ∙ c.if-is_within.false) (c.in_ok-price.ensures.at_share rests c.args.share are.one_each alike)
