use Rattle.std.proofs.Common.{◌∙◌, ◌++◌, [], ap, codes, string_bytes, sym}
use Rattle.std.specs.Prelude.{if◌then◌else◌}
use Rattle.pb_rounds.specs.RuleNames.{fills_up}
use Rattle.pb_rounds.specs.declared.rule.FillUp.{FillUp}
use Rattle.pb_rounds.proofs.rule_words.put_fill_up.Goals as goal

pub returns-in_ok-push_str-in-MostVotes : goal.returns-in_ok-push_str-in-MostVotes
returns-in_ok-push_str-in-MostVotes c =
    c.in_ok-push_str-in-MostVotes.ensures.bytes
    ∙ ap (λ (f : FillUp). string_bytes c.args.text.now ++ (if fills_up f then codes ", filled up by votes" else [])) (sym c.in-MostVotes.is)
