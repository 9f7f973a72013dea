use Rattle.std.proofs.Common.{◌<◌, ◌≤◌, refl, ap, subst, sym, ◌∙◌, length}
use Rattle.std.proofs.lemmas.Bool.{le-leb, lt-leb}
use Rattle.std.proofs.lemmas.List.{length-map}
use Rattle.pb_core.specs.Election.{VoterView, most_voters, project_ids, voter_ids}
use Rattle.pb_read.proofs.Ballots.{ballot_from}
use Rattle.pb_read.proofs.DraftFacts.{finds_after, voter_checked, was_among}
use Rattle.pb_read.specs.Rows.{field}
use Rattle.pb_read.specs.Voting.{is_among, names_only}
use Rattle.pb_read.proofs.draft.Draft.note_voter.Goals as goal

pub returns-then-is_some-clause-err : goal.returns-then-is_some-clause-err
returns-then-is_some-clause-err c =
    let row = c.args.row.now in
    let e = c.args.self.now.election in
    voter_checked c.args.columns row e _ c.requires.id (was_among c.args.self.now.voter_ids (voter_ids e) c.text.result.now (field row c.args.columns.voter) c.requires.tied.voter_ids_are (c.text.ensures.text ∙ c.requires.id.id_is) c.get-before.ensures c.is_some.ensures c.if-is_some.true) refl refl

pub returns-then-not-branch-clause-err : goal.returns-then-not-branch-clause-err
returns-then-not-branch-clause-err c =
    let row = c.args.row.now in
    let e = c.args.self.now.election in
    let among = was_among c.args.self.now.voter_ids (voter_ids e) c.text.result.now (field row c.args.columns.voter) c.requires.tied.voter_ids_are (c.text.ensures.text ∙ c.requires.id.id_is) c.get-before.ensures c.is_some.ensures c.if-is_some.false in
    voter_checked c.args.columns row e _ c.requires.id among (ap (names_only (project_ids e)) (sym c.field-vote.ensures.field) ∙ sym (c.in_ok-find_places.ensures.known (project_ids e) c.requires.tied.project_ids_are) ∙ c.if-not-branch.true) refl

pub returns-then-place-ge-MOST_VOTERS-clause-err : goal.returns-then-place-ge-MOST_VOTERS-clause-err
returns-then-place-ge-MOST_VOTERS-clause-err c =
    let row = c.args.row.now in
    let e = c.args.self.now.election in
    let among = was_among c.args.self.now.voter_ids (voter_ids e) c.text.result.now (field row c.args.columns.voter) c.requires.tied.voter_ids_are (c.text.ensures.text ∙ c.requires.id.id_is) c.get-before.ensures c.is_some.ensures c.if-is_some.false in
    let names = ap (names_only (project_ids e)) (sym c.field-vote.ensures.field) ∙ sym (c.in_ok-find_places.ensures.known (project_ids e) c.requires.tied.project_ids_are) ∙ c.if-not-branch.false in
    let full = le-leb most_voters (length e.voters) (subst (λ n. most_voters ≤ n) (ap length c.voters-place.ensures.voters) c.if-place-ge-MOST_VOTERS.true) in
    voter_checked c.args.columns row e _ c.requires.id among names full

pub returns-clause-ok : goal.returns-clause-ok
returns-clause-ok c =
    let row = c.args.row.now in
    let e = c.args.self.now.election in
    let vote = field row c.args.columns.vote in
    let among = was_among c.args.self.now.voter_ids (voter_ids e) c.text.result.now (field row c.args.columns.voter) c.requires.tied.voter_ids_are (c.text.ensures.text ∙ c.requires.id.id_is) c.get-before.ensures c.is_some.ensures c.if-is_some.false in
    let names = ap (names_only (project_ids e)) (sym c.field-vote.ensures.field) ∙ sym (c.in_ok-find_places.ensures.known (project_ids e) c.requires.tied.project_ids_are) ∙ c.if-not-branch.false in
    let ballot = ballot_from (project_ids e) (project_ids e) c.field-vote.result.now vote c.deref.result.now c.in_ok-ballot.ballot refl c.field-vote.ensures.field
    c.voters-place.ensures.is_election.projects_differ names (c.deref.ensures.value ∙ c.in_ok-find_places.ensures.places (project_ids e) c.requires.tied.project_ids_are c.if-not-branch.false) c.in_ok-ballot.ensures.members c.places-places.ensures.is_ballot in
    let room = lt-leb most_voters (length e.voters) (subst (λ n. n < most_voters) (ap length c.voters-place.ensures.voters) c.if-place-ge-MOST_VOTERS.false) in
    (voter_checked c.args.columns row e _ c.requires.id among names room, ballot)

pub returns-clause-noted : goal.returns-clause-noted
returns-clause-noted c =
    let row = c.args.row.now in
    let e = c.args.self.now.election in
    let among = was_among c.args.self.now.voter_ids (voter_ids e) c.text.result.now (field row c.args.columns.voter) c.requires.tied.voter_ids_are (c.text.ensures.text ∙ c.requires.id.id_is) c.get-before.ensures c.is_some.ensures c.if-is_some.false in
    let size = ap length c.voters-place.ensures.voters ∙ sym (length-map e.voters (λ (v : VoterView). v.id)) in
    finds_after c.args.self.now.voter_ids (voter_ids e) c.text-2.result.now c.args.id.now c.requires.tied.voter_ids_are c.text-2.ensures.text (ap (is_among (voter_ids e)) c.requires.id.id_is ∙ among) size c.in_ok-insert.ensures.ok
