use Rattle.std.proofs.Common.{◌≡◌, length, ap, sym, subst, ◌∙◌, arith}
use Rattle.std.specs.List.Sorted.{IsStrictlyIncreasing}
use Rattle.std.proofs.lemmas.Result.{IfOk-from_err}
use Rattle.pb_price.proofs.BuiltLists.{ballot_read, ballot_known, ListsSoFar-more, ListsSoFar-none, lists_from_all}
use Rattle.pb_price.proofs.supporters.lists_of.Goals as goal

pub loop-position-init : goal.loop-position-init
loop-position-init g c =
    ListsSoFar-none c.args.election.now c.in_ok-lists.lists.items (length c.as_slice.result.now)
    (ap length c.as_slice.ensures.value ∙ c.in_ok-counts.ensures) c.in_ok-lists.ensures

pub add_ballot-requires-clause-known : goal.add_ballot-requires-clause-known
add_ballot-requires-clause-known g c =
    let e = c.args.election.now in
    let i = c.loop-position.position in
    let ballot = c.places.result.now in
    let same = c.voters-voter-items.ensures.voters in
    let l = c.loop-position-test.true in
    let read = ballot_read e c.voters-voter-items.result.now i c.voter-item.result ballot same l c.voter-item.is (c.places.ensures.places ∙ ap (λ v. v.ballot) c.voter.view_is) in
    let known = ballot_known e i ballot c.voters-voter-items.ensures.is_election (omega (arith, ap length same)) read in
    λ k d h. omega (arith, known k d h, c.loop-position.invariant.one_each)

pub loop-position-preserved : goal.loop-position-preserved
loop-position-preserved g c =
    let e = c.args.election.now in
    let i = c.loop-position.position in
    let ballot = c.places.result.now in
    let read = ballot_read e c.voters-voter-items.result.now i c.voter-item.result ballot c.voters-voter-items.ensures.voters c.loop-position-test.true c.voter-item.is (c.places.ensures.places ∙ ap (λ v. v.ballot) c.voter.view_is) in
    ListsSoFar-more e c.loop-position.lists.items c.add_ballot.new.lists.items i ballot c.loop-position.invariant c.in_ok-add_ballot.ensures read

pub returns : goal.returns
returns g c =
    let e = c.args.election.now in
    let same = c.voters-voter-items.ensures.voters in
    let end : c.loop-position.position ≡ length e.voters = omega (arith, ap length same) in
    lists_from_all e c.loop-position.lists.items (rw (← end) c.loop-position.invariant)

pub bounds-voter-items-position : goal.bounds-voter-items-position
bounds-voter-items-position g c = c.loop-position-test.true

pub overflow_cast-position : goal.overflow_cast-position
overflow_cast-position g c =
    omega (arith, c.loop-position-test.true, ap length c.voters-voter-items.ensures.voters, c.voters-voter-items.ensures.is_election.few_voters)

pub add_ballot-requires-clause-rises : goal.add_ballot-requires-clause-rises
add_ballot-requires-clause-rises g c = subst IsStrictlyIncreasing (sym c.places.ensures.places) c.places.ensures.is_ballot

pub returns-in_err-counts : goal.returns-in_err-counts
returns-in_err-counts g c = IfOk-from_err _ _ c.from_residual.ensures.0

pub returns-in_err-lists : goal.returns-in_err-lists
returns-in_err-lists g c = IfOk-from_err _ _ c.from_residual-in_err-lists.ensures.0

pub returns-in_err-add_ballot : goal.returns-in_err-add_ballot
returns-in_err-add_ballot g c = IfOk-from_err _ _ c.from_residual-in_err-add_ballot.ensures.0
