use Rattle.std.proofs.Common.{IfErr, sym, subst}
use Rattle.pb_commands.specs.WhatIf.{WhatIfRefuses}
use Rattle.pb_commands.specs.declared.what_if_rows.Changes.{Changes}
use Rattle.pb_commands.proofs.what_if_rows.what_if_text.Goals as goal

pub returns-in-Searched-clause-fault : goal.returns-in-Searched-clause-fault
returns-in-Searched-clause-fault g c =
    subst (λ (changes : Changes). IfErr c.searched_text.result (WhatIfRefuses c.args.election c.args.counting.now.rule.now c.args.project.now changes))
    (sym c.in-Searched.is) (c.searched_text.ensures.fault c.args.project.now)

pub returns-in-One-clause-fault : goal.returns-in-One-clause-fault
returns-in-One-clause-fault g c =
    subst (λ (changes : Changes). IfErr c.one_text.result (WhatIfRefuses c.args.election c.args.counting.now.rule.now c.args.project.now changes))
    (sym c.in-One.is) (c.one_text.ensures.fault c.args.project.now)
