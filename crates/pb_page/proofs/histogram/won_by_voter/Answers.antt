use Rattle.std.proofs.Common.{◌≡◌, ℕ, List, subst}
use Rattle.std.specs.Prelude.{IfOk}
use Rattle.pb_page.proofs.Choices.{choices_by_ballot}
use Rattle.pb_page.proofs.histogram.won_by_voter.Goals as goal
use Rattle.pb_reasons.specs.Counted.{winners_of}

pub returns : goal.returns
returns c =
    let x = c.args.count.now in
    let Tells : List ℕ → Type 0 = λ numbers. IfOk c.choices_among.result (λ won. won.items ≡ numbers) in
    subst Tells (choices_by_ballot x.election (winners_of x.counted)) (rw (c.winners.ensures, c.election.ensures.election) at c.choices_among.ensures)
