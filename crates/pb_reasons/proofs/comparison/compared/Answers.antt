use Rattle.std.proofs.Common.{◌≡◌, ◌<◌, ◌∙◌, ap, get_or, length}
use Rattle.pb_core.specs.Election.{VoterView}
use Rattle.pb_reasons.specs.Inner.Comparing.{content_of}
use Rattle.pb_reasons.proofs.Comparing.{few_choices, none_small, row_grown, small_grown}
use Rattle.pb_reasons.proofs.comparison.compared.Goals as goal

pub loop-voter-init : goal.loop-voter-init
loop-voter-init c =
    let e = c.args.election.now in
    let winners = c.args.winners.now.1 in
    let other = c.args.other.now.1 in
    let own = rw c.requires.winners at (c.row.ensures other) in
    let beside = rw c.requires.other at (c.row-2.ensures winners) in
    record {
      own = own;
      other = beside;
      own_small = rw own (none_small e winners other);
      other_small = rw beside (none_small e other winners);
    }

pub content-own-requires-clause-few : goal.content-own-requires-clause-few
content-own-requires-clause-few c =
    few_choices c.args.election.now c.voters-voter-items.result.now c.loop-voter.voter-index c.voter-item.result c.places-ballot.result.now c.voters-voter-items.ensures.is_election
    c.voters-voter-items.ensures.voters c.loop-voter-test.true c.voter-item.is (c.places-ballot.ensures.places ∙ ap (λ v. v.ballot) c.voter.view_is)
    (rw c.places-ballot.ensures.places c.places-ballot.ensures.is_ballot)

pub content-beside-requires-clause-few : goal.content-beside-requires-clause-few
content-beside-requires-clause-few c =
    few_choices c.args.election.now c.voters-voter-items.result.now c.loop-voter.voter-index c.voter-item.result c.places-ballot.result.now c.voters-voter-items.ensures.is_election
    c.voters-voter-items.ensures.voters c.loop-voter-test.true c.voter-item.is (c.places-ballot.ensures.places ∙ ap (λ v. v.ballot) c.voter.view_is)
    (rw c.places-ballot.ensures.places c.places-ballot.ensures.is_ballot)

pub loop-voter-preserved : goal.loop-voter-preserved
loop-voter-preserved c =
    let e = c.args.election.now in
    let winners = c.args.winners.now.1 in
    let other = c.args.other.now.1 in
    let i = c.loop-voter.voter-index in
    let v = c.voter-item.result in
    let ballot = c.places-ballot.result.now in
    let rows = c.loop-voter.rows in
    let h = c.loop-voter.invariant in
    let cast = c.places-ballot.ensures.places ∙ ap (λ (u : VoterView). u.ballot) c.voter.view_is in
    let few = few_choices e c.voters-voter-items.result.now i v ballot c.voters-voter-items.ensures.is_election c.voters-voter-items.ensures.voters c.loop-voter-test.true
    c.voter-item.is cast (rw c.places-ballot.ensures.places c.places-ballot.ensures.is_ballot) in
    let below : i < length e.voters = rw c.voters-voter-items.ensures.voters at c.loop-voter-test.true in
    let here : v ≡ get_or e.voters i v = rw c.voters-voter-items.ensures.voters at c.voter-item.is in
    let own : c.content-own.result ≡ content_of e winners ballot = rw c.requires.winners at c.content-own.ensures.content in
    let beside : c.content-beside.result ≡ content_of e other ballot = rw c.requires.other at c.content-beside.ensures.content in
    record {
      own = row_grown e winners other e.voters i v ballot rows.own c.with.result c.content-own.result c.content-beside.result below here cast own beside c.with.ensures h.own;
      other = row_grown e other winners e.voters i v ballot rows.other c.with-in-loop-voter.result c.content-beside.result c.content-own.result below here cast beside own
          c.with-in-loop-voter.ensures h.other;
      own_small = small_grown e winners other e.voters i v ballot rows.own c.with.result c.content-own.result c.content-beside.result below here cast own beside c.with.ensures
          few c.content-own.ensures.small h.own_small;
      other_small = small_grown e other winners e.voters i v ballot rows.other c.with-in-loop-voter.result c.content-beside.result c.content-own.result below here cast beside own
          c.with-in-loop-voter.ensures few c.content-beside.ensures.small h.other_small;
    }
