use Rattle.std.proofs.Common.{ap, subst, sym, ◌∙◌, ◌≤◌}
use Rattle.pb_core.specs.Inner.Terms.{opening}
use Rattle.pb_core.specs.Money.{largest_money}
use Rattle.pb_core.specs.declared.terms.Terms.{Terms}
use Rattle.pb_read.proofs.ProgressFacts.{projects_opened, said_in_range}
use Rattle.pb_read.specs.Inner.Drafts.{IsTied}
use Rattle.pb_read.specs.declared.draft.Draft.{Draft}
use Rattle.pb_read.proofs.progress.Progress.open_projects.Goals as goal

pub new-draft-requires : goal.new-draft-requires
new-draft-requires c = subst (λ (t : Terms). t.budget ≤ largest_money) (sym c.in-Ok.ensures.1) (said_in_range c.args.meta c.requires)

pub returns-clause-ok : goal.returns-clause-ok
returns-clause-ok c =
    let after = c.replace.ensures.after in
    let opened = projects_opened c.args.meta c.replace.new.dest
    (ap (λ (d : Draft). d.election) after ∙ c.new-draft.ensures.election ∙ ap opening c.in-Ok.ensures.1) (subst IsTied (sym after) c.new-draft.ensures.tied) in
    (c.in-Ok.ensures.0, opened.0, opened.1)
