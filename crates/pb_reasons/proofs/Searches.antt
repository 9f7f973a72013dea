-- Rows of a search, and what ends one.
use Rattle.std.specs.Prelude.{IfErr, IfOk}
use Rattle.std.proofs.Common.{◌≡◌, ◌≢◌, ◌<◌, ◌≤◌, ℕ, List, None, Ok, Err, Result, Bool, true, false, if◌then◌else◌, get_or, length, refl, sym, ◌∙◌, ap, arith, inl, inr}
use Rattle.pb_core.specs.Election.{ElectionView, IsElection, ProjectView}
use Rattle.pb_core.specs.Order.{position_in}
use Rattle.pb_reasons.specs.Counted.{counted, is_selected}
use Rattle.pb_reasons.specs.CountedElection.{IsFaultIn}
use Rattle.pb_rounds.specs.CountFault.{refusal_of}
use Rattle.pb_rounds.specs.Counted.{IsCountFault, IsCountOf}
use Rattle.pb_rounds.specs.Outcome.{OutcomeView}
use Rattle.pb_rounds.specs.TieOrder.{IsSortedFor}
use Rattle.pb_rounds.specs.declared.count_fault.CountFault.{CountFault}
use Rattle.pb_rounds.specs.declared.count_fault.CountFault.TheVariants.{WorkerCount, StepRange, RaisesRange, RaisesSpent, NoMemory, TooFine}
use Rattle.pb_rounds.specs.declared.rule.Rule.{Rule}
use Rattle.pb_reasons.specs.WhatIf.{CanBe, IsFound, IsTrue, Says, Seen, wins}
use Rattle.pb_reasons.specs.Inner.Searching.{AreEnds, AreNear, AreOpposed, HasWon, IsSaid, IsStop}
use Rattle.pb_reasons.specs.declared.changes.change.Change.{Change}
use Rattle.pb_reasons.specs.declared.changes.change.Change.TheVariants.{Cost, Voters}
use Rattle.pb_reasons.specs.declared.changes.change.Row.{Row}
use Rattle.pb_reasons.specs.declared.changes.change.Verdict.{Verdict}
use Rattle.pb_reasons.specs.declared.changes.change.Verdict.TheVariants.{Lost, Refused, Won}
use Rattle.pb_reasons.specs.declared.changes.question.Question.{Question}
use Rattle.pb_reasons.proofs.Changed.{known}

-- a value between two that a change can have
pub can_be_between : (s : Seen) (change : Change) (low value high : ℕ) → CanBe s change low → CanBe s change high → low ≤ value → value ≤ high
    → CanBe s change value
can_be_between s Cost low value high from to above below = (omega (arith, from.0, above), omega (arith, to.1, below))
can_be_between s Voters low value high from to above below = omega (arith, to, below)

-- a row between two takes the place of the one that is like it
pub opposed_low : (s : Seen) (q : Question) (change : Change) (from to : ℕ) (low high row : Row) → AreOpposed s q change from to low high
    → IsTrue s q change row → low.value < row.value → row.value < high.value → wins low.verdict ≡ wins row.verdict
    → AreOpposed s q change from to row high
opposed_low s q change from to low high row are is above below alike = record {
  ends = record {
    within = are.ends.within;
    low_is = is;
    high_is = are.ends.high_is;
    ordered = below;
    from = can_be_between s change low.value row.value high.value are.ends.from are.ends.to (omega (arith, above)) (omega (arith, below));
    to = are.ends.to;
  };
  one_wins = λ same. are.one_wins (alike ∙ same);
  from = omega (arith, above, are.from);
  to = are.to;
}

pub opposed_high : (s : Seen) (q : Question) (change : Change) (from to : ℕ) (low high row : Row) → AreOpposed s q change from to low high
    → IsTrue s q change row → low.value < row.value → row.value < high.value → wins low.verdict ≢ wins row.verdict
    → AreOpposed s q change from to low row
opposed_high s q change from to low high row are is above below apart = record {
  ends = record {
    within = are.ends.within;
    low_is = are.ends.low_is;
    high_is = is;
    ordered = above;
    from = are.ends.from;
    to = can_be_between s change low.value row.value high.value are.ends.from are.ends.to (omega (arith, above)) (omega (arith, below));
  };
  one_wins = apart;
  from = are.from;
  to = omega (arith, below, are.to);
}

-- what halving finds of a part of a range is found of the range
pub found_near : (s : Seen) (q : Question) (change : Change) (low from to high : ℕ) (a b : Row) → AreNear s q change from to a b → low ≤ from → to ≤ high
    → IsFound s q change low high a b
found_near s q change low from to high a b are below above =
    let o = are.opposed in
    record {
      first_is = o.ends.low_is;
      second_is = o.ends.high_is;
      agree = λ same. absurd (o.one_wins same);
      differ = λ apart. (omega (arith, below, o.from), omega (arith, are.near, o.ends.ordered), omega (arith, o.to, above));
    }

-- the ends of a range, which are alike
pub found_ends : (s : Seen) (q : Question) (change : Change) (a b : Row) → AreEnds s q change a b → wins a.verdict ≡ wins b.verdict
    → IsFound s q change a.value b.value a b
found_ends s q change a b ends alike = record {
  first_is = ends.low_is;
  second_is = ends.high_is;
  agree = λ same. (refl, refl);
  differ = λ apart. absurd (apart alike);
}

-- two rows of which both win, or neither does, at both ends of a range, also of one value
pub found_same : (s : Seen) (q : Question) (change : Change) (low high : ℕ) (a b : Row) → IsTrue s q change a → IsTrue s q change b → a.value ≡ low
    → b.value ≡ high → wins a.verdict ≡ wins b.verdict → IsFound s q change low high a b
found_same s q change low high a b a_is b_is a_at b_at same = record {
  first_is = a_is;
  second_is = b_is;
  agree = λ alike. (a_at, b_at);
  differ = λ apart. absurd (apart same);
}

-- a count's fault that is none of its raises and amounts is one of the options
pub stop_by : (e : ElectionView) (q : Question) (fault : CountFault) → fault ≢ RaisesSpent → fault ≢ TooFine
    → (fault ≢ NoMemory → IsFaultIn q.rule e fault) → IsStop q fault
stop_by e q WorkerCount apart coarse is = record { out_of_range = λ unlike. let (order, sorted, is_put, out) = is unlike in out }
stop_by e q StepRange apart coarse is = record { out_of_range = λ unlike. let (order, sorted, is_put, out) = is unlike in out }
stop_by e q RaisesRange apart coarse is = record { out_of_range = λ unlike. let (order, sorted, is_put, out) = is unlike in out }
stop_by e q RaisesSpent apart coarse is = absurd (apart refl)
stop_by e q TooFine apart coarse is = absurd (coarse refl)
stop_by e q NoMemory apart coarse is = record { out_of_range = λ unlike. absurd (unlike refl) }

-- where a count said something, the options are in their ranges
served_by : (e : ElectionView) (q : Question) (verdict : Verdict) → Says e q verdict → refusal_of q.rule.options ≡ None
served_by e q Lost (x, (by, is_put, (o, count, all)), won) = count.in_range.0
served_by e q Won (x, (by, is_put, (o, count, all)), won) = count.in_range.0
served_by e q Refused (inl (order, sorted, is_put, spent)) = spent.0
served_by e q Refused (inr (order, sorted, is_put, fine)) = fine.0

pub served : (s : Seen) (q : Question) (change : Change) (row : Row) → IsTrue s q change row → refusal_of q.rule.options ≡ None
unfolding IsTrue
served s q change row (e, is, read, says) = served_by e q row.verdict says

-- what the count of a sorted election says of the project
pub has_won_by : (e sorted : ElectionView) (q : Question) (order : List ℕ) (o : OutcomeView) (won : Bool) → IsSortedFor q.rule.ties e order sorted
    → IsCountOf sorted q.rule.options o → won ≡ is_selected (counted sorted q.rule.fill_up o) (position_in order q.place) → HasWon e q won
has_won_by e sorted q order o won is_put count is =
    (record { election = sorted; order = order; rule = q.rule; counted = counted sorted q.rule.fill_up o }, (refl, is_put, (o, count, refl)), sym is)

pub ok_won : {E : Type 0} (e sorted : ElectionView) (q : Question) (order : List ℕ) (position : ℕ) (r : Result Bool E) → IsSortedFor q.rule.ties e order sorted
    → position ≡ position_in order q.place
    → IfOk r (λ won. (o : OutcomeView) × IsCountOf sorted q.rule.options o × (won ≡ is_selected (counted sorted q.rule.fill_up o) position))
    → IfOk r (HasWon e q)
ok_won e sorted q order position (Ok won) is_put at (o, count, is) =
    has_won_by e sorted q order o won is_put count (is ∙ ap (is_selected (counted sorted q.rule.fill_up o)) at)
ok_won e sorted q order position (Err fault) is_put at said = tt

pub err_won : {A : Type 0} (e sorted : ElectionView) (rule : Rule) (order : List ℕ) (r : Result A CountFault) → IsSortedFor rule.ties e order sorted
    → IfErr r (IsCountFault sorted rule.options) → IfErr r (λ fault. fault ≢ NoMemory → IsFaultIn rule e fault)
err_won e sorted rule order (Ok x) is_put said = tt
err_won e sorted rule order (Err fault) is_put said = λ unlike. (order, sorted, is_put, said)

-- what is so in any case is so of each end
pub ok_so : {A : Type 0} {E : Type 0} (r : Result A E) {P : Type 0} → P → IfOk r (λ x. P)
ok_so (Ok x) so = so
ok_so (Err fault) so = tt

pub err_so : {A : Type 0} (r : Result A CountFault) {P : Type 0} → P → IfErr r (λ fault. fault ≢ NoMemory → P)
err_so (Ok x) so = tt
err_so (Err fault) so = λ unlike. so

-- what a count says that elects or adds the project, or does neither
pub says_won : (e : ElectionView) (q : Question) → HasWon e q true → Says e q Won
says_won e q (x, is, won) = (x, is, ap (λ (b : Bool). if b then Won else Lost) (sym won))

pub says_lost : (e : ElectionView) (q : Question) → HasWon e q false → Says e q Lost
says_lost e q (x, is, lost) = (x, is, ap (λ (b : Bool). if b then Won else Lost) (sym lost))

-- what a count says, and what is known of the project with its own cost
pub said : (e : ElectionView) (q : Question) (p : ProjectView) (won : Bool) → IsElection e → q.place < length e.projects
    → p ≡ get_or e.projects q.place p → HasWon e q won → IsSaid e q p.cost won
said e q p true is within at has =
    let says = says_won e q has in
    record { says = says; known = known e q p Won is within at says }
said e q p false is within at has =
    let says = says_lost e q has in
    record { says = says; known = known e q p Lost is within at says }
