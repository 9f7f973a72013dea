use Rattle.std.proofs.Common.{◌≡◌, length, ap, sym, ◌∙◌, arith}
use Rattle.std.proofs.lemmas.Result.{IfOk-from_err}
use Rattle.pb_price.proofs.BuiltLists.{ballot_read, ballot_known}
use Rattle.pb_price.proofs.supporters.supporter_counts.Goals as goal

pub count_ballot-requires : goal.count_ballot-requires
count_ballot-requires g c =
    let e = c.args.election.now in
    let i = c.loop-voter.voter-index in
    let ballot = c.places.result.now in
    let same = c.voters-voter-items.ensures.voters in
    let l = c.loop-voter-test.true in
    let read = ballot_read e c.voters-voter-items.result.now i c.voter-item.result ballot same l c.voter-item.is (c.places.ensures.places ∙ ap (λ v. v.ballot) c.voter.view_is) in
    let known = ballot_known e i ballot c.voters-voter-items.ensures.is_election (omega (arith, ap length same)) read in
    let counted : length c.loop-voter.counts.items ≡ length e.projects = c.loop-voter.invariant ∙ sym c.in_ok-counts.counts.ok.0 ∙ c.in_ok-counts.ensures.len ∙ ap length c.projects.ensures.projects in
    record { known = λ k d h. omega (arith, known k d h, counted) }

pub returns-in_err-counts : goal.returns-in_err-counts
returns-in_err-counts g c = IfOk-from_err _ _ c.from_residual.ensures.0

pub returns : goal.returns
returns g c = c.loop-voter.invariant ∙ sym c.in_ok-counts.counts.ok.0 ∙ c.in_ok-counts.ensures.len ∙ ap length c.projects.ensures.projects
