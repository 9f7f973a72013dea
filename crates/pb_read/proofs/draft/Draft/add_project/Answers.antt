use Rattle.std.proofs.Common.{◌∷◌, [], ◌++◌, refl, ap, sym, ◌∙◌, arith, length, subst}
use Rattle.std.proofs.lemmas.List.{length-map}
use Rattle.std.proofs.lemmas.Bool.{le-leb, lt-leb}
use Rattle.pb_core.specs.Election.{ProjectView, most_projects, project_ids, voter_ids}
use Rattle.pb_read.proofs.DraftFacts.{finds_after, project_checked, project_ids-push, same_project, was_among}
use Rattle.pb_read.proofs.Keeps.{money_of-le, not_among}
use Rattle.pb_read.specs.Inner.Ids.{Finds}
use Rattle.pb_read.specs.Inner.Machine.{amount_of, project_of}
use Rattle.pb_read.specs.Rows.{field}
use Rattle.pb_read.specs.Voting.{is_among}
use Rattle.pb_read.proofs.draft.Draft.add_project.Goals as goal

pub returns-in-Err-clause-err : goal.returns-in-Err-clause-err
returns-in-Err-clause-err c = c.in-Err.ensures.err c.args.self.now.election

pub returns-then-is_some-clause-err : goal.returns-then-is_some-clause-err
returns-then-is_some-clause-err c =
    let e = c.args.self.now.election in
    let has = c.in-Ok.ensures.ok in
    let among = was_among c.args.self.now.project_ids (project_ids e) c.in-Ok.found.0.now (field c.args.row.now c.args.columns.id) c.requires.tied.project_ids_are has.id_is c.get-before.ensures c.is_some.ensures c.if-is_some.true in
    project_checked c.args.columns c.args.row.now e _ _ has among refl

pub returns-then-place-ge-MOST_PROJECTS-clause-err : goal.returns-then-place-ge-MOST_PROJECTS-clause-err
returns-then-place-ge-MOST_PROJECTS-clause-err c =
    let e = c.args.self.now.election in
    let has = c.in-Ok.ensures.ok in
    let among = was_among c.args.self.now.project_ids (project_ids e) c.in-Ok.found.0.now (field c.args.row.now c.args.columns.id) c.requires.tied.project_ids_are has.id_is c.get-before.ensures c.is_some.ensures c.if-is_some.false in
    let full = le-leb most_projects (length e.projects) (omega (arith, ap length c.projects-place.ensures.projects, c.if-place-ge-MOST_PROJECTS.true)) in
    project_checked c.args.columns c.args.row.now e _ _ has among full

pub new-requires-clause-affordable : goal.new-requires-clause-affordable
new-requires-clause-affordable c = money_of-le (field c.args.row.now c.args.columns.cost) c.in-Ok.found.1 c.in-Ok.ensures.ok.reads

pub add_project-requires-clause-new_id : goal.add_project-requires-clause-new_id
add_project-requires-clause-new_id c =
    let e = c.args.self.now.election in
    let has = c.in-Ok.ensures.ok in
    let among = was_among c.args.self.now.project_ids (project_ids e) c.in-Ok.found.0.now (field c.args.row.now c.args.columns.id) c.requires.tied.project_ids_are has.id_is c.get-before.ensures c.is_some.ensures c.if-is_some.false in
    not_among (project_ids e) c.new.result.id (ap (is_among (project_ids e)) (c.new.ensures.id ∙ c.in_ok-id.ensures.ok ∙ has.id_is) ∙ among)

pub returns-clause-ok : goal.returns-clause-ok
returns-clause-ok c =
    let row = c.args.row.now in
    let e = c.args.self.now.election in
    let has = c.in-Ok.ensures.ok in
    let among = was_among c.args.self.now.project_ids (project_ids e) c.in-Ok.found.0.now (field row c.args.columns.id) c.requires.tied.project_ids_are has.id_is c.get-before.ensures c.is_some.ensures c.if-is_some.false in
    let room = lt-leb most_projects (length e.projects) (omega (arith, ap length c.projects-place.ensures.projects, c.if-place-ge-MOST_PROJECTS.false)) in
    let id = c.new.ensures.id ∙ c.in_ok-id.ensures.ok in
    let name = c.new.ensures.name ∙ c.in_ok-name.ensures.ok ∙ c.name.ensures in
    let cost = c.new.ensures.cost ∙ sym (ap amount_of has.reads) in
    let project = same_project c.new.result (project_of c.args.columns row) (id ∙ has.id_is) name cost in
    let after = c.in_ok-add_project.ensures.ok in
    let size = ap length c.projects-place.ensures.projects ∙ sym (length-map e.projects (λ (p : ProjectView). p.id)) in
    let ids = finds_after c.args.self.now.project_ids (project_ids e) c.in-Ok.found.0.now c.new.result.id c.requires.tied.project_ids_are (sym id) (ap (is_among (project_ids e)) (id ∙ has.id_is) ∙ among) size c.in_ok-insert.ensures.ok in (
      project_checked c.args.columns row e _ _ has among room,
      after ∙ ap (λ p. record e { projects = e.projects ++ p ∷ [] }) project,
      record {
        project_ids_are = subst (Finds c.insert.new.self) (sym (project_ids-push e.projects c.new.result) ∙ ap project_ids (sym after)) ids;
        voter_ids_are = subst (Finds c.args.self.now.voter_ids) (ap voter_ids (sym after)) c.requires.tied.voter_ids_are;
      },
    )

pub add_project-requires-clause-room : goal.add_project-requires-clause-room
add_project-requires-clause-room c = omega (arith, ap length c.projects-place.ensures.projects, c.if-place-ge-MOST_PROJECTS.false)
