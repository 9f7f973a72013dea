use Rattle.std.proofs.Common.{[], ◌∙◌, subst, sym}
use Rattle.pb_read.proofs.Blames.{explained_blames}
use Rattle.pb_read.specs.Inner.Progresses.{place_of}
use Rattle.pb_read.specs.Shown.{refused}
use Rattle.pb_read.specs.Inner.Showing.{Adds}
use Rattle.pb_read.specs.Stages.{the_end}
use Rattle.pb_read.proofs.check.Check.judge_end.Goals as goal

pub returns-in-Err-clause-blame : goal.returns-in-Err-clause-blame
returns-in-Err-clause-blame g c = explained_blames (place_of c.args.self.now.progress) the_end c.in-Err.kind c.in-Err.ensures.end

pub returns-in-Err-clause-shown : goal.returns-in-Err-clause-shown
returns-in-Err-clause-shown g c =
    subst (λ r. Adds (refused r) (g.W.Watch.shown c.args.watch.now) (g.W.Watch.shown c.refuse.new.self)) (c.of-refusal.ensures ∙ sym (c.in-Err.ensures.no_value (place_of c.args.self.now.progress) [] c.args.at)) c.refuse.ensures.shown
