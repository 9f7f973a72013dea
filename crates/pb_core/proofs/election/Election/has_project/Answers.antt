use Rattle.std.proofs.Common.{arith, ◌∙◌, ℕ, List, IsTrue, ◌↔◌, Contains, true, false, true≢false, map, refl, ap, subst, sym}
use Rattle.std.proofs.lemmas.Slice.Eq.{bytes_eq-Decides}
use Rattle.pb_core.specs.Election.{ProjectView, project_ids}
use Rattle.pb_core.proofs.Elections.{Contains-ids, not-Contains-ids, others_more}
use Rattle.pb_core.proofs.election.Election.has_project.Goals as goal

abbrev id_of : ProjectView → List ℕ
id_of p = p.id

pub loop-project-init : goal.loop-project-init
loop-project-init g c = λ k d none_below. absurd (omega arith)

pub loop-project-preserved : goal.loop-project-preserved
loop-project-preserved g c =
    let test = bytes_eq-Decides c.id.result.now c.args.id.now in
    others_more id_of _ c.args.id.now c.loop-project.project-index c.project-item.result c.loop-project-test.true c.project-item.is
    (λ same. true≢false (sym (test.1 (c.id.ensures.id ∙ same)) ∙ (sym c.eq.ensures ∙ c.if-eq.false))) c.loop-project.invariant

pub returns-then-eq : goal.returns-then-eq
returns-then-eq g c =
    let same = sym c.id.ensures.id ∙ (bytes_eq-Decides c.id.result.now c.args.id.now).0 (sym c.eq.ensures ∙ c.if-eq.true) in
    let ids = ap (map id_of) c.deref-project-items.ensures.value ∙ ap project_ids c.self.view_is in
    subst (λ ids. IsTrue true ↔ Contains ids c.args.id.now) ids
    (λ _. Contains-ids id_of _ c.args.id.now c.loop-project.project-index c.project-item.result c.loop-project-test.true c.project-item.is same, λ _. refl)

pub returns : goal.returns
returns g c =
    let ids = ap (map id_of) c.deref-project-items.ensures.value ∙ ap project_ids c.self.view_is in
    subst (λ ids. IsTrue false ↔ Contains ids c.args.id.now) ids
    (λ h. cc, λ among. absurd (not-Contains-ids id_of _ c.args.id.now (λ k d below. c.loop-project.invariant k d (omega (arith, below, c.loop-project-test.false))) among))
