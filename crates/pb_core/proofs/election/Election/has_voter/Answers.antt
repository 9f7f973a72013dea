use Rattle.std.proofs.Common.{arith, ◌≡◌, ◌∙◌, ℕ, List, IsTrue, ◌↔◌, Contains, true, false, true≢false, map, refl, ap, subst, sym}
use Rattle.std.proofs.lemmas.Slice.Eq.{bytes_eq-Decides}
use Rattle.pb_core.specs.Election.{VoterView, voter_ids}
use Rattle.pb_core.proofs.Elections.{Contains-ids, not-Contains-ids, others_more}
use Rattle.pb_core.proofs.election.Election.has_voter.Goals as goal

abbrev id_of : VoterView → List ℕ
id_of v = v.id

pub loop-voter-init : goal.loop-voter-init
loop-voter-init g c = λ k d none_below. absurd (omega arith)

pub loop-voter-preserved : goal.loop-voter-preserved
loop-voter-preserved g c =
    let test = bytes_eq-Decides c.text.result.now c.text-in-loop-voter.result.now in
    let text : c.text.result.now ≡ c.voter-item.result.id = c.text.ensures.text ∙ ap id_of c.voter.view_is in
    others_more id_of _ c.args.id.now c.loop-voter.voter-index c.voter-item.result c.loop-voter-test.true c.voter-item.is
    (λ same. true≢false (sym (test.1 (text ∙ (same ∙ sym c.text-in-loop-voter.ensures.text))) ∙ (sym c.eq.ensures ∙ c.if-eq.false))) c.loop-voter.invariant

pub returns-then-eq : goal.returns-then-eq
returns-then-eq g c =
    let test = bytes_eq-Decides c.text.result.now c.text-in-loop-voter.result.now in
    let text : c.text.result.now ≡ c.voter-item.result.id = c.text.ensures.text ∙ ap id_of c.voter.view_is in
    let same = sym text ∙ (test.0 (sym c.eq.ensures ∙ c.if-eq.true) ∙ c.text-in-loop-voter.ensures.text) in
    let ids = ap (map id_of) c.deref-voter-items.ensures.value ∙ ap voter_ids c.self.view_is in
    subst (λ ids. IsTrue true ↔ Contains ids c.args.id.now) ids
    (λ _. Contains-ids id_of _ c.args.id.now c.loop-voter.voter-index c.voter-item.result c.loop-voter-test.true c.voter-item.is same, λ _. refl)

pub returns : goal.returns
returns g c =
    let ids = ap (map id_of) c.deref-voter-items.ensures.value ∙ ap voter_ids c.self.view_is in
    subst (λ ids. IsTrue false ↔ Contains ids c.args.id.now) ids
    (λ h. cc, λ among. absurd (not-Contains-ids id_of _ c.args.id.now (λ k d below. c.loop-voter.invariant k d (omega (arith, below, c.loop-voter-test.false))) among))
