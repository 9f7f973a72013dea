use Rattle.std.proofs.Common.{◌≡◌, ◌∙◌, ℕ, List, ap, length, map, subst, sym, take, rules}
use Rattle.std.proofs.lemmas.List.{length-map}
use Rattle.pb_core.specs.Election.{ElectionView, IsElection, VoterView}
use Rattle.pb_reasons.specs.WhatIf.{IsTrue, Seen}
use Rattle.pb_reasons.specs.Inner.Numbered.{AreNumbered}
use Rattle.pb_reasons.proofs.changes.changing.Changing.row.Goals as goal

pub returns-in-Ok-clause-is_true : goal.returns-in-Ok-clause-is_true
unfolding IsTrue
returns-in-Ok-clause-is_true g c =
    let is : IsElection c.in_ok-changed.changed = search rules in
    (c.in_ok-changed.changed, is, c.in_ok-changed.ensures.lent.so_changed, search rules)

pub take_back-requires : goal.take_back-requires
take_back-requires g c =
    let size : c.len-own.result ≡ length c.self.inside.voters.items = search rules in
    let own : c.len-own.result ≡ length c.args.self.now.ballots = size ∙ sym (length-map c.self.inside.voters.items (λ (v : VoterView). v.ballot))
    ∙ ap (λ (s : Seen). length s.ballots) c.self.view_is in
    let costs = ap (λ (s : Seen). length s.costs) c.in_ok-changed.ensures.left in
    subst (λ (e : ElectionView). AreNumbered (length c.lend.new.self.costs) (take c.len-own.result e.voters)) (sym c.in-Ok.ensures.kept)
    (subst (λ (n : ℕ). AreNumbered n (take c.len-own.result c.in_ok-changed.changed.voters)) (sym costs)
    (subst (λ (n : ℕ). AreNumbered (length c.args.self.now.costs) (take n c.in_ok-changed.changed.voters)) (sym own) c.in_ok-changed.ensures.lent.numbered))

pub returns-in-Ok-clause-kept : goal.returns-in-Ok-clause-kept
returns-in-Ok-clause-kept g c =
    let s : Seen = c.args.self.now in
    let size : c.len-own.result ≡ length c.self.inside.voters.items = search rules in
    let own : c.len-own.result ≡ length c.args.self.now.ballots = size ∙ sym (length-map c.self.inside.voters.items (λ (v : VoterView). v.ballot))
    ∙ ap (λ (s : Seen). length s.ballots) c.self.view_is in
    c.take_back.ensures
    ∙ ap (λ (e : ElectionView). record c.lend.new.self { ballots = map (λ (v : VoterView). v.ballot) (take c.len-own.result e.voters) }) c.in-Ok.ensures.kept
    ∙ ap (λ (left : Seen). record left { ballots = map (λ (v : VoterView). v.ballot) (take c.len-own.result c.in_ok-changed.changed.voters) }) c.in_ok-changed.ensures.left
    ∙ ap (λ (n : ℕ). record s { ballots = map (λ (v : VoterView). v.ballot) (take n c.in_ok-changed.changed.voters) }) own
    ∙ ap (λ (ballots : List (List ℕ)). record s { ballots = ballots }) c.in_ok-changed.ensures.lent.ballots
