-- What a count reads of an election that is changed.
use Rattle.std.proofs.Common.{◌≡◌, ◌∙◌, ◌<◌, ◌++◌, ◌∷◌, [], ℕ, List, append-nil, ap, arith, get_or, length, map, replicate, slice_set, subst, sym}
use Rattle.std.proofs.lemmas.List.{length-map, length-set}
use Rattle.pb_core.specs.Election.{ElectionView, IsElection, IsProject, ProjectView, project_ids}
use Rattle.pb_reasons.specs.WhatIf.{IsTrue, Says, Seen, changed, seen}
use Rattle.pb_reasons.specs.Inner.Searching.{AreKnown, further_of}
use Rattle.pb_reasons.specs.declared.changes.change.Change.{Change}
use Rattle.pb_reasons.specs.declared.changes.change.Change.TheVariants.{Cost, Voters}
use Rattle.pb_reasons.specs.declared.changes.change.Verdict.{Verdict}
use Rattle.pb_reasons.specs.declared.changes.question.Question.{Question}
use Rattle.pb_reasons.proofs.Copies.{own_cost}

-- the changed costs, and the further ballots behind those that there are
pub changed_seen : (change : Change) (place value : ℕ) (s t r : Seen) (more : List (List ℕ)) → t.costs ≡ s.costs → r.budget ≡ s.budget → r.ids ≡ s.ids
    → r.costs ≡ (changed change place value t).costs → r.ballots ≡ s.ballots ++ more → more ≡ replicate (further_of change value) (place ∷ [])
    → r ≡ changed change place value s
changed_seen Cost place value s t r more same budget ids costs ballots further = λ i. record {
  budget = budget i;
  ids = ids i;
  costs = (costs ∙ ap (λ (c : List ℕ). slice_set c place value) same) i;
  ballots = (ballots ∙ ap (λ (m : List (List ℕ)). s.ballots ++ m) further ∙ append-nil s.ballots) i;
}
changed_seen Voters place value s t r more same budget ids costs ballots further = λ i. record {
  budget = budget i;
  ids = ids i;
  costs = (costs ∙ same) i;
  ballots = (ballots ∙ ap (λ (m : List (List ℕ)). s.ballots ++ m) further) i;
}

-- a change leaves as many projects as there are
pub as_many : (change : Change) (place value : ℕ) (own frame : List ProjectView) (s : Seen) → s.costs ≡ map (λ p. p.cost) frame
    → map (λ p. p.cost) own ≡ (changed change place value s).costs → length own ≡ length frame
as_many Cost place value own frame s of costs =
    sym (length-map own (λ (p : ProjectView). p.cost)) ∙ ap length costs ∙ length-set s.costs place value ∙ ap length of ∙ length-map frame (λ (p : ProjectView). p.cost)
as_many Voters place value own frame s of costs =
    sym (length-map own (λ (p : ProjectView). p.cost)) ∙ ap length costs ∙ ap length of ∙ length-map frame (λ (p : ProjectView). p.cost)

-- an election is itself with its project's own cost, and with no further voter
pub known : (e : ElectionView) (q : Question) (p : ProjectView) (verdict : Verdict) → IsElection e → q.place < length e.projects → p ≡ get_or e.projects q.place p
    → Says e q verdict → AreKnown (seen e) q p.cost verdict
unfolding IsTrue
known e q p verdict is within at says = record {
  within = omega (arith, within, length-map e.projects (λ (p : ProjectView). p.cost));
  own = (e, is, (λ i. record { budget = e.budget; ids = project_ids e; costs = sym (own_cost e.projects q.place p within at) i; ballots = (seen e).ballots }), says);
  nobody = (e, is, (λ i. record { budget = e.budget; ids = project_ids e; costs = (seen e).costs; ballots = sym (append-nil (seen e).ballots) i }), says);
  can_be = (project.costs, project.affordable);
}
  where
    project : IsProject p
    project = subst IsProject (sym at) (is.are_projects q.place p within)
