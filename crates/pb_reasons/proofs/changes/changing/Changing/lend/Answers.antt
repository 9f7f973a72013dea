use Rattle.std.proofs.Common.{◌≡◌, ◌∙◌, ◌++◌, ◌+◌, ◌<◌, ◌≤◌, ℕ, All, List, ap, length, map, refl, subst, sym, take, arith, rules}
use Rattle.std.proofs.Math.Seq.{take_at}
use Rattle.std.proofs.lemmas.List.{length-map, map-append}
use Rattle.pb_core.specs.Election.{ElectionView, IsVoter, ProjectView, VoterView, most_voters}
use Rattle.pb_reasons.specs.WhatIf.{CanBe, Seen, changed, seen}
use Rattle.pb_reasons.specs.Inner.Searching.{further_of}
use Rattle.pb_reasons.specs.declared.changes.change.Change.{Change}
use Rattle.pb_reasons.specs.declared.changes.change.Change.TheVariants.{Cost, Voters}
use Rattle.pb_reasons.specs.Inner.Numbered.{AreNumbered}
use Rattle.pb_reasons.proofs.Changed.{as_many, changed_seen}
use Rattle.pb_reasons.proofs.NumberedIds.{numbers_differ}
use Rattle.pb_reasons.proofs.changes.changing.Changing.lend.Goals as goal

pub replace_voters-requires-clause-differ : goal.replace_voters-requires-clause-differ
replace_voters-requires-clause-differ c = numbers_differ _ c.add_further.new.voters.items c.in_ok-add_further.ensures.numbered

pub replace_voters-requires-clause-are_voters : goal.replace_voters-requires-clause-are_voters
replace_voters-requires-clause-are_voters c =
    let frame : ElectionView = c.self.inside.frame in
    let same = as_many c.args.change c.args.place c.args.value c.in_ok-changed.changed.projects frame.projects (seen frame) refl c.in_ok-changed.ensures.costs ∙ ap length (sym c.projects-projects.ensures.projects) in
    subst (λ (n : ℕ). All (IsVoter n) c.add_further.new.voters.items) (sym same) c.in_ok-add_further.ensures.numbered.are_voters

pub returns-clause-lent : goal.returns-clause-lent
returns-clause-lent c =
    let o : ElectionView = c.replace_voters.new.self in
    let s : Seen = c.args.self.now in
    let t : Seen = seen c.self.inside.frame in
    let own = c.self.inside.voters.items in
    let grown = c.in_ok-add_further.ensures.grown in
    let more = map (λ (v : VoterView). v.ballot) grown.0 in
    let voters : o.voters ≡ own ++ grown.0 = search rules in
    let cast : map (λ (v : VoterView). v.ballot) own ≡ s.ballots = search rules in
    let ballots : (seen o).ballots ≡ s.ballots ++ more = ap (map (λ (v : VoterView). v.ballot)) voters ∙ map-append (λ (v : VoterView). v.ballot) own grown.0
    ∙ ap (λ (l : List (List ℕ)). l ++ more) cast in
    let same : t.costs ≡ s.costs = search rules in
    let budget : (seen o).budget ≡ s.budget = search rules in
    let ids : (seen o).ids ≡ s.ids = search rules in
    let costs : (seen o).costs ≡ (changed c.args.change c.args.place c.args.value t).costs = search rules in
    let many : length own ≡ length s.ballots = sym (length-map own (λ (v : VoterView). v.ballot)) ∙ ap length cast in
    let first : take (length s.ballots) o.voters ≡ own = ap (take (length s.ballots)) voters ∙ take_at own grown.0 (length s.ballots) many in
    let projects : length c.self.inside.frame.projects ≡ length s.costs = sym (length-map c.self.inside.frame.projects (λ (p : ProjectView). p.cost)) ∙ ap length same in
    record {
      so_changed = changed_seen c.args.change c.args.place c.args.value s t (seen o) more same budget ids costs ballots (search rules);
      numbered = subst (AreNumbered (length s.costs)) (sym first) (subst (λ (n : ℕ). AreNumbered n own) projects c.self.invariant.1);
      ballots = ap (map (λ (v : VoterView). v.ballot)) first ∙ cast;
    }

pub changed_frame-requires-clause-known : goal.changed_frame-requires-clause-known
changed_frame-requires-clause-known c =
    let many : length c.self.inside.frame.projects ≡ length c.args.self.now.costs = sym (length-map c.self.inside.frame.projects (λ (p : ProjectView). p.cost))
    ∙ ap (λ (s : Seen). length s.costs) c.self.view_is in
    subst (λ (n : ℕ). c.args.place < n) (sym many) c.requires.known

pub add_further-requires-clause-known : goal.add_further-requires-clause-known
add_further-requires-clause-known c =
    let many : length c.self.inside.frame.projects ≡ length c.args.self.now.costs = sym (length-map c.self.inside.frame.projects (λ (p : ProjectView). p.cost))
    ∙ ap (λ (s : Seen). length s.costs) c.self.view_is in
    subst (λ (n : ℕ). c.args.place < n) (sym (ap length c.projects-projects.ensures.projects ∙ many)) c.requires.known

-- a change that can be has no more voters than an election may have
further_fits : (s : Seen) (change : Change) (value : ℕ) → length s.ballots ≤ most_voters → CanBe s change value → length s.ballots + further_of change value ≤ most_voters
further_fits s Cost value few can_be = omega (arith, few)
further_fits s Voters value few can_be = can_be

pub add_further-requires-clause-few : goal.add_further-requires-clause-few
add_further-requires-clause-few c =
    let own = sym (length-map c.self.inside.voters.items (λ (v : VoterView). v.ballot)) ∙ ap (λ (s : Seen). length s.ballots) c.self.view_is in
    let lent = ap (λ voters. length voters.items) c.replace-voters.ensures.value in
    let fits = further_fits c.args.self.now c.args.change c.args.value (omega (arith, own, c.self.invariant.1.few)) c.requires.can_be in
    omega (arith, fits, own, lent, c.further_of.ensures)
