use Rattle.std.proofs.Common.{◌≡◌, ◌<◌, ◌∙◌, ℕ, ap, length, rules, subst, sym}
use Rattle.std.proofs.lemmas.List.{length-map}
use Rattle.pb_core.specs.Election.{IsElection, ProjectView}
use Rattle.pb_reasons.specs.WhatIf.{IsTrue, Seen, changed, seen}
use Rattle.pb_reasons.proofs.changes.answer.one_change.Goals as goal

pub lend-lent-requires-clause-known : goal.lend-lent-requires-clause-known
lend-lent-requires-clause-known g c =
    let costs = ap (λ (s : Seen). length s.costs) c.in_ok-changing.ensures ∙ length-map c.args.election.projects (λ (p : ProjectView). p.cost) in
    subst (λ (n : ℕ). c.args.recount.now.question.place < n) (sym costs) c.requires.known

pub returns-clause-row : goal.returns-clause-row
unfolding IsTrue
returns-clause-row g c =
    let e = c.in_ok-changed.changed in
    let is : IsElection e = search rules in
    let read = subst (λ (s : Seen). seen e ≡ changed c.args.change c.args.recount.now.question.place c.args.value s) c.in_ok-changing.ensures
    c.in_ok-changed.ensures.lent.so_changed in
    (e, is, read, c.in_ok-verdict.ensures.ok)
