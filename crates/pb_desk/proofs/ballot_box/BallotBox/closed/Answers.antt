use Rattle.std.proofs.Common.{◌≡◌, ◌∙◌, length, ap, sym, arith}
use Rattle.std.proofs.lemmas.List.{length-map}
use Rattle.pb_desk.specs.Inner.Legal.{voters_of}
use Rattle.pb_desk.specs.Inner.Sources.{ballot_at, ballots_at, BoxView}
use Rattle.pb_desk.proofs.Closings.{are_voters, own_voters}
use Rattle.pb_desk.proofs.ballot_box.BallotBox.closed.Goals as goal

pub take_voters-requires-clause-sources : goal.take_voters-requires-clause-sources
take_voters-requires-clause-sources g c = rw c.replace_voters-opening.ensures.handed_out c.self.invariant

pub take_voters-requires-clause-empty : goal.take_voters-requires-clause-empty
take_voters-requires-clause-empty g c = c.requires.empty

pub take_voters-requires-clause-room : goal.take_voters-requires-clause-room
take_voters-requires-clause-room g c =
    let inside = c.self.inside in
    let count = ap (λ (b : BoxView). length b.standing.ballots) (sym c.self.view_is) ∙ length-map inside.ballots (λ s. (s.0, ballot_at inside.election.voters inside.journal.items s.1)) in
    rw (← count) c.requires.room

pub take_voters-requires-clause-own : goal.take_voters-requires-clause-own
take_voters-requires-clause-own g c =
    let election = c.self.inside.election in
    rw c.replace_voters-opening.ensures.handed_out (own_voters (length election.projects) election.voters c.voters-voters.ensures.is_election.are_voters)

pub replace_voters-requires-clause-few : goal.replace_voters-requires-clause-few
replace_voters-requires-clause-few g c =
    let inside = c.self.inside in
    let is : c.take_voters.new.voters.items ≡ voters_of c.args.self.standing.ballots =
    c.take_voters.ensures.voters ∙ ap (λ opening. voters_of (ballots_at opening inside.journal.items inside.ballots)) c.replace_voters-opening.ensures.handed_out
    ∙ ap (λ (b : BoxView). voters_of b.standing.ballots) c.self.view_is in
    rw is (rw length-map c.requires.standing.few)

pub replace_voters-requires-clause-are_voters : goal.replace_voters-requires-clause-are_voters
replace_voters-requires-clause-are_voters g c =
    let inside = c.self.inside in
    let is : c.take_voters.new.voters.items ≡ voters_of c.args.self.standing.ballots =
    c.take_voters.ensures.voters ∙ ap (λ opening. voters_of (ballots_at opening inside.journal.items inside.ballots)) c.replace_voters-opening.ensures.handed_out
    ∙ ap (λ (b : BoxView). voters_of b.standing.ballots) c.self.view_is in
    let projects : c.replace_voters-opening.new.self.projects ≡ c.args.self.election.projects =
    (λ j. (c.replace_voters-opening.ensures.replaced j).projects) ∙ ap (λ (b : BoxView). b.election.projects) c.self.view_is in
    rw (is, projects) (are_voters c.args.self.election c.args.self.standing.ballots c.requires.standing.known (rw is at c.take_voters.ensures.own))

pub replace_voters-requires-clause-differ : goal.replace_voters-requires-clause-differ
replace_voters-requires-clause-differ g c = c.take_voters.ensures.differ

pub returns : goal.returns
returns g c =
    let inside = c.self.inside in
    let is : c.take_voters.new.voters.items ≡ voters_of c.args.self.standing.ballots =
    c.take_voters.ensures.voters ∙ ap (λ opening. voters_of (ballots_at opening inside.journal.items inside.ballots)) c.replace_voters-opening.ensures.handed_out
    ∙ ap (λ (b : BoxView). voters_of b.standing.ballots) c.self.view_is in
    c.replace_voters.ensures.replaced ∙ (λ j. record (c.replace_voters-opening.ensures.replaced j) { voters = is j })
    ∙ ap (λ (b : BoxView). record b.election { voters = voters_of c.args.self.standing.ballots }) c.self.view_is

pub replace_voters-opening-requires-clause-differ : goal.replace_voters-opening-requires-clause-differ
replace_voters-opening-requires-clause-differ g c = rw c.new.ensures.items (λ i j d before below. absurd (omega (arith, below)))
