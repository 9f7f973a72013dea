use Rattle.std.proofs.Common.{◌≡◌, ◌∙◌, ◌<◌, ◌≤◌, List, get_or, length, subst, sym, true≢false, arith}
use Rattle.std.proofs.lemmas.Slice.Eq.{bytes_eq-Decides}
use Rattle.pb_core.proofs.Elections.{not-Contains-ids, others_more}
use Rattle.pb_core.specs.Election.{ProjectView}
use Rattle.pb_commands.proofs.WhatIfRows.{named_at}
use Rattle.pb_commands.proofs.what_if_rows.place_of.Goals as goal

pub loop-place-init : goal.loop-place-init
loop-place-init c = λ k d none_below. absurd (omega arith)

pub loop-place-preserved : goal.loop-place-preserved
loop-place-preserved c =
    let projects : List ProjectView = c.args.election.now.projects in
    let i = c.loop-place.place in
    let p : ProjectView = c.index-projects-place.result in
    let test = bytes_eq-Decides c.id.result.now c.args.id.now in
    let below : i < length projects = subst (λ (l : List ProjectView). i < length l) c.projects-projects.ensures.projects c.loop-place-test.true in
    let read : p ≡ get_or projects i p = subst (λ (l : List ProjectView). p ≡ get_or l i p) c.projects-projects.ensures.projects c.index-projects-place.is in
    others_more (λ (q : ProjectView). q.id) projects c.args.id.now i p below read
    (λ same. true≢false (sym (test.1 (c.id.ensures.id ∙ same)) ∙ (sym c.eq.ensures ∙ c.if-eq.false))) c.loop-place.invariant

pub returns-then-eq-clause-named : goal.returns-then-eq-clause-named
returns-then-eq-clause-named c =
    let projects : List ProjectView = c.args.election.now.projects in
    let i = c.loop-place.place in
    let p : ProjectView = c.index-projects-place.result in
    let below : i < length projects = subst (λ (l : List ProjectView). i < length l) c.projects-projects.ensures.projects c.loop-place-test.true in
    let read : p ≡ get_or projects i p = subst (λ (l : List ProjectView). p ≡ get_or l i p) c.projects-projects.ensures.projects c.index-projects-place.is in
    named_at projects i p c.args.id.now below read
    (sym c.id.ensures.id ∙ (bytes_eq-Decides c.id.result.now c.args.id.now).0 (sym c.eq.ensures ∙ c.if-eq.true))

pub returns-clause-nobody : goal.returns-clause-nobody
returns-clause-nobody c =
    let projects : List ProjectView = c.args.election.now.projects in
    let past : length projects ≤ c.loop-place.place = subst (λ (l : List ProjectView). length l ≤ c.loop-place.place) c.projects-projects.ensures.projects c.loop-place-test.false in
    λ none. not-Contains-ids (λ (q : ProjectView). q.id) projects c.args.id.now
    (λ k d below. c.loop-place.invariant k d (omega (arith, below, past)))
