use Rattle.std.proofs.Common.{◌∙◌, ◌++◌, [], ap, codes, string_bytes, sym}
use Rattle.pb_price.specs.declared.grain.Grain.{Grain}
use Rattle.pb_rounds.specs.RuleNames.{by_grain}
use Rattle.pb_rounds.proofs.rule_words.put_grain.Goals as goal

pub returns-in_ok-push_str-in-Fine : goal.returns-in_ok-push_str-in-Fine
returns-in_ok-push_str-in-Fine c =
    c.in_ok-push_str-in-Fine.ensures.bytes ∙ ap (λ (g : Grain). string_bytes c.args.text.now ++ by_grain g [] (codes ", in fine money")) (sym c.in-Fine.is)
