use Rattle.std.proofs.Common.{refl}
use Rattle.std.specs.Prelude.{Some}
use Rattle.pb_page.specs.Inner.Counted.{journal_source}
use Rattle.pb_page.specs.Inner.Filling.{cut}
use Rattle.pb_page.proofs.Grown.{alike_put, none}
use Rattle.pb_page.proofs.check.put_journal.Goals as goal

pub returns-in-Some : goal.returns-in-Some
unfolding cut
returns-in-Some c =
    rw c.in-Some.is (alike_put _ _ (journal_source (Some c.in-Some.journal)) _ _ c.put.ensures (λ rest. refl))

pub returns-in-None : goal.returns-in-None
returns-in-None c = rw c.in-None.is (none c.args.page.now.items)
