use Rattle.std.proofs.Common.{ap}
use Rattle.pb_core.specs.Election.{ElectionView}
use Rattle.pb_read.proofs.DraftFacts.{tied_start}
use Rattle.pb_read.proofs.draft.Draft.new.Goals as goal

pub returns-clause-tied : goal.returns-clause-tied
returns-clause-tied c =
    let started = c.start_with.ensures in
    tied_start _ (ap (λ (e : ElectionView). e.projects) started) (ap (λ (e : ElectionView). e.voters) started) c.new.ensures c.new-2.ensures
