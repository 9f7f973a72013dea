use Rattle.std.proofs.Common.{◌∷◌, [], ◌++◌, ap, sym, ◌∙◌, subst, All, ◌<◌}
use Rattle.std.proofs.lemmas.List.{length-map}
use Rattle.pb_core.specs.Election.{ElectionView, ProjectView, VoterView, project_ids, voter_ids}
use Rattle.pb_read.proofs.DraftFacts.{same_voter, voter_ids-push}
use Rattle.pb_read.proofs.Keeps.{ballot_of-below, not_among}
use Rattle.pb_read.proofs.MachineLaws.{passes_checks}
use Rattle.pb_read.specs.Inner.Ids.{Finds}
use Rattle.pb_read.specs.Inner.Machine.{voter_of}
use Rattle.pb_read.specs.Rows.{field}
use Rattle.pb_read.specs.Voting.{ballot_of, is_among}
use Rattle.pb_read.proofs.draft.Draft.add_voter.Goals as goal

pub returns-in-Err-clause-err : goal.returns-in-Err-clause-err
returns-in-Err-clause-err c = c.in-Err.ensures.err c.args.self.now.election

pub add_voter-requires-clause-room : goal.add_voter-requires-clause-room
add_voter-requires-clause-room c =
    let e = c.args.self.now.election in
    let passed = passes_checks c.args.columns c.args.row.now e c.in-Ok-note_voter.ensures.ok.0 in
    rw c.note_voter.ensures.kept.0 passed.room

pub add_voter-requires-clause-new_id : goal.add_voter-requires-clause-new_id
add_voter-requires-clause-new_id c =
    let e = c.args.self.now.election in
    let passed = passes_checks c.args.columns c.args.row.now e c.in-Ok-note_voter.ensures.ok.0 in
    rw c.note_voter.ensures.kept.0 (not_among (voter_ids e) c.in-Ok.id (ap (is_among (voter_ids e)) c.in-Ok.ensures.ok.id_is ∙ passed.new_id))

pub add_voter-requires-clause-known : goal.add_voter-requires-clause-known
add_voter-requires-clause-known c =
    let e = c.args.self.now.election in
    let vote = field c.args.row.now c.args.columns.vote in
    let below = subst (λ n. All (λ place. place < n) (ballot_of (project_ids e) vote)) (length-map e.projects (λ (p : ProjectView). p.id)) (ballot_of-below (project_ids e) vote) in
    rw (c.note_voter.ensures.kept.0, c.in-Ok-note_voter.ensures.ok.1) below

pub returns-in_ok-add_voter-in-Ok-note_voter-clause-ok : goal.returns-in_ok-add_voter-in-Ok-note_voter-clause-ok
returns-in_ok-add_voter-in-Ok-note_voter-clause-ok c =
    let row = c.args.row.now in
    let e = c.args.self.now.election in
    let said = c.in-Ok-note_voter.ensures in
    let kept = c.note_voter.ensures.kept in
    let voter : VoterView = record { id = c.in-Ok.id; ballot = c.in-Ok-note_voter.ballot } in
    let added = c.in_ok-add_voter-in-Ok-note_voter.ensures.ok in
    let after = added ∙ ap (λ (before : ElectionView). record before { voters = before.voters ++ voter ∷ [] }) kept.0 in (
      said.ok.0,
      after ∙ ap (λ v. record e { voters = e.voters ++ v ∷ [] }) (same_voter voter (voter_of c.args.columns (project_ids e) row) c.in-Ok.ensures.ok.id_is said.ok.1),
      record {
        project_ids_are = subst (Finds c.note_voter.new.self.project_ids) (ap project_ids (sym after)) (rw kept.1 c.requires.project_ids_are);
        voter_ids_are = subst (Finds c.note_voter.new.self.voter_ids) (sym (voter_ids-push e.voters voter) ∙ ap voter_ids (sym after)) said.noted;
      },
    )
