use Rattle.std.proofs.Common.{◌≡◌, ◌≢◌, length, string_bytes, take_all, sym, ap, subst, ◌∙◌, arith, rules}
use Rattle.std.specs.List.{AllPairs}
use Rattle.std.proofs.lemmas.List.{length-map}
use Rattle.pb_read.proofs.IdLists.{HasIds-more, ids_of, no_ids}
use Rattle.pb_read.proofs.project_ids.ProjectIds.of.Goals as goal

pub loop-project-init : goal.loop-project-init
loop-project-init c = rw c.new-ids.ensures.items (no_ids c.new-table.result c.projects-project-items.result.now c.new-table.ensures)

pub loop-project-preserved : goal.loop-project-preserved
loop-project-preserved c =
    let projects = c.projects-project-items.result.now in
    let differ : AllPairs (λ a b. a ≢ b) (ids_of projects) = subst (λ ps. AllPairs (λ a b. a ≢ b) (ids_of ps)) (sym c.projects-project-items.ensures.projects) c.projects-project-items.ensures.is_election.projects_differ in
    let size : c.len-place.result ≡ length c.loop-project.ids.items = search rules in
    HasIds-more c.loop-project.table _ _ _ projects c.loop-project.project-index _ c.project-item.result c.id.result.now c.loop-project.invariant
    differ (search rules) c.project-item.is c.id.ensures.id (size ∙ sym (length-map c.loop-project.ids.items string_bytes)) c.in_ok-note.ensures.table c.in_ok-note.ensures.ids

pub invariant_of-result : goal.invariant_of-result
invariant_of-result c =
    let projects = c.projects-project-items.result.now in
    let differ : AllPairs (λ a b. a ≢ b) (ids_of projects) = subst (λ ps. AllPairs (λ a b. a ≢ b) (ids_of ps)) (sym c.projects-project-items.ensures.projects) c.projects-project-items.ensures.is_election.projects_differ in
    (c.loop-project.invariant.found, (subst (AllPairs (λ a b. a ≢ b)) (sym (c.loop-project.invariant.are ∙ ap ids_of (take_all c.loop-project.project-index projects (search rules)))) differ, tt))

pub returns : goal.returns
returns c =
    c.loop-project.invariant.are ∙ ap ids_of (take_all c.loop-project.project-index c.projects-project-items.result.now c.loop-project-test.false)
    ∙ ap ids_of c.projects-project-items.ensures.projects

pub overflow_cast-place : goal.overflow_cast-place
overflow_cast-place c =
    let size : c.len-place.result ≡ length c.loop-project.ids.items = search rules in
    let count = sym (length-map c.loop-project.ids.items string_bytes) ∙ c.loop-project.invariant.count_is in
    let all = ap length c.projects-project-items.ensures.projects in
    omega (arith, size, count, all, c.loop-project-test.true, c.projects-project-items.ensures.is_election.few_projects)
