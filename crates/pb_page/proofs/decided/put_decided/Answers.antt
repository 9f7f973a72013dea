use Rattle.std.specs.Prelude.{flat_map}
use Rattle.pb_page.specs.Content.{section}
use Rattle.pb_page.specs.Page.{decided}
use Rattle.pb_page.proofs.Grown.{alike_put}
use Rattle.pb_page.proofs.Deciding.{decision_is}
use Rattle.pb_page.proofs.decided.put_decided.Goals as goal

pub returns-in-Some : goal.returns-in-Some
returns-in-Some c =
    alike_put _ _ (flat_map (section c.args.facts.now.language) (decided c.args.facts.now c.args.rule.now)) _ _ c.put_decision.ensures
    (decision_is c.args.facts.now c.args.rule.now c.in-Some.decided c.in-Some.is)
