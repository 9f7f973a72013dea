use Rattle.pb_rounds.proofs.rule_words.put_raises.Goals as goal

pub returns : goal.returns
returns c = rw (c.as_str.ensures.value, c.in_ok-step.ensures) at c.put_terms-put.ensures
