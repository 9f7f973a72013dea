use Rattle.std.proofs.Common.{sym, ap, ◌∙◌}
use Rattle.pb_desk.specs.Inner.Slots.{filed}
use Rattle.pb_desk.specs.Inner.Sources.{ballot_at, ballots_at}
use Rattle.pb_desk.proofs.NextBallots.{first_found, first_taken}
use Rattle.pb_desk.proofs.filed_ballots.FiledBallots.take.Goals as goal

pub returns : goal.returns
returns g c =
    let voters = c.self.inside.voters.now in
    let journal = c.self.inside.journal.now in
    let first = c.in_ok-source.ensures in
    let source = c.in_ok-source.source in
    first_taken _ c.found_in.result (first.0, ballot_at voters journal source) c.args.self.now (ballots_at voters journal (filed c.in_ok-source.behind.now))
    (first_found voters journal (filed c.self.inside.slots.now) (filed c.in_ok-source.behind.now) first.0 source c.self.invariant first.1 _ c.found_in.ensures)
    (sym c.self.view_is ∙ ap (ballots_at voters journal) first.1)
