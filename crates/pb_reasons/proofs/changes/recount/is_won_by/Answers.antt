use Rattle.pb_reasons.proofs.changes.recount.is_won_by.Goals as goal

pub of-requires : goal.of-requires
of-requires c = (c.args.rule.now.options, c.requires)
