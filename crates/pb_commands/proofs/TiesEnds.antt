-- How the run ends that writes the table of all ties.
use Rattle.std.proofs.Common.{◌≡◌, ◌≢◌, ◌∙◌, ◌<◌, ◌≤◌, ℕ, List, Option, Some, None, Err, ap, arith, refl, subst, sym}
use Rattle.std.specs.Prelude.{IfSome}
use Rattle.pb_core.specs.Election.{ElectionView}
use Rattle.pb_reasons.specs.AllTies.{runs_of}
use Rattle.pb_reasons.specs.Counted.{counted}
use Rattle.pb_reasons.specs.CountedElection.{CountedElectionView, IsCountIn}
use Rattle.pb_rounds.proofs.Counted.{one_outcome}
use Rattle.pb_rounds.specs.Counted.{IsCountOf}
use Rattle.pb_rounds.specs.declared.rule.Rule.{Rule}
use Rattle.pb_commands.proofs.Accepted.{one_sorted}
use Rattle.pb_commands.proofs.CountEnds.{Outcomes}
use Rattle.pb_commands.proofs.Endings.{Bars, FailsAs, IsElectionFile, IsHeard, Look, known_map, late_end, memory_end, passed_on}
use Rattle.pb_commands.proofs.InputEnds.{file_of, one_left}
use Rattle.pb_commands.specs.AllTies.{IsTiesOf, TiesRefuse}
use Rattle.pb_commands.specs.Closed.{CountRefuses, Gives, Leaves}
use Rattle.pb_commands.specs.Ends.{Ends, IfBothKnown}
use Rattle.pb_commands.specs.Inner.AllTies.{AreUntold}
use Rattle.pb_commands.specs.Inner.Outside.{IsOutsideFault}
use Rattle.pb_faults.specs.declared.fault.AppFault.{AppFault}
use Rattle.pb_faults.specs.declared.fault.AppFault.TheVariants.{Memory, TooManyRuns, Write}

-- all counts of an election by a rule rest on as many runs
pub one_runs : (rule : Rule) (e : ElectionView) (x y : CountedElectionView) → IsCountIn rule e x → IsCountIn rule e y → runs_of x ≡ runs_of y
one_runs rule e x y is other =
    let sorted : x.election ≡ y.election = one_sorted rule.ties e x.order y.order x.election y.election is.1 other.1 in
    let (o, is_count, filled) = is.2 in
    let (p, other_count, other_filled) = other.2 in
    let outcome = one_outcome x.election rule.options o p is_count (subst (λ (s : ElectionView). IsCountOf s rule.options p) (sym sorted) other_count) in
    ap (λ r. runs_of (record x { rule = r })) is.0 ∙ ap (λ c. runs_of (record x { rule = rule; counted = c })) filled
    ∙ ap (λ o. runs_of (record x { rule = rule; counted = counted x.election rule.fill_up o })) outcome
    ∙ ap (λ (s : ElectionView). runs_of (record y { election = s; rule = rule; counted = counted s rule.fill_up p })) sorted
    ∙ sym (ap (λ r. runs_of (record y { rule = r })) other.0 ∙ ap (λ c. runs_of (record y { rule = rule; counted = c })) other_filled)

module _ (rule : Rule) (files : Option (List ℕ)) (journals : Option (Option (List ℕ))) (look : Look) where
  counted_ties : (bytes : List ℕ) (journal : Option (List ℕ)) (e : ElectionView) (fault : AppFault) → CountRefuses rule bytes journal e fault → TiesRefuse rule bytes journal e fault
  counted_ties bytes None e TooManyRuns refused = absurd refused
  counted_ties bytes (Some rows) e TooManyRuns refused = absurd refused
  counted_ties bytes journal e fault refused = refused

  -- the count's fault is that of the run
  pub ties_pass : {T A : Type 0} (fault : AppFault) → fault ≢ Write → Ends {T = T} (Outcomes rule) (CountRefuses rule) files journals look (Err fault)
      → Ends {T = A} (Gives (IsTiesOf rule)) (TiesRefuse rule) files journals look (Err fault)
  ties_pass fault reads ends =
      passed_on (λ (journal : Option (List ℕ)). journal) (Outcomes rule) (CountRefuses rule) (Gives (IsTiesOf rule)) (TiesRefuse rule) files journals journals look fault
      (λ journal is. is) (λ bytes journal e refused. counted_ties bytes journal e fault refused)
      (λ bytes journal text writes. (writes.2.0, (writes.0, writes.1, writes.2.1))) reads ends

  module _ (e : ElectionView) (x : CountedElectionView) (is_count : IsCountIn rule e x) where
    too_many : (text : List ℕ) → 1000 < runs_of x → IsTiesOf rule e text → ⊥
    too_many text many told = omega (arith, many, told.2, one_runs rule e x told.0 is_count told.1)

    many_bars : 1000 < runs_of x → (bytes : List ℕ) (journal : Option (List ℕ)) → Leaves bytes journal e → (text : List ℕ) → Gives (IsTiesOf rule) bytes journal text
        → IsOutsideFault TooManyRuns
    many_bars many bytes journal leaves text writes =
        absurd (too_many text many (subst (λ (own : ElectionView). IsTiesOf rule own text) (one_left bytes journal writes.0 e writes.1 leaves) writes.2))

    -- the count rests on too many runs, or memory was refused
    pub untold_ends : {T : Type 0} (fault : AppFault) → AreUntold x fault → IfBothKnown files journals (λ bytes journal. Leaves bytes journal e)
        → IfSome files (λ bytes. IsElectionFile bytes) → IsHeard files look None → Ends {T = T} (Gives (IsTiesOf rule)) (TiesRefuse rule) files journals look (Err fault)
    untold_ends Memory untold leaves file none = memory_end (Gives (IsTiesOf rule)) (TiesRefuse rule) files journals look file none
    untold_ends TooManyRuns untold leaves file none =
        late_end (Gives (IsTiesOf rule)) (TiesRefuse rule) files journals look TooManyRuns tt refl file none
        (known_map (λ bytes journal. Leaves bytes journal e) (FailsAs (Gives (IsTiesOf rule)) (TiesRefuse rule) TooManyRuns) files journals
        (λ bytes journal leaves. let own = file_of bytes journal e leaves in (own.0, own.1, (x, (e, leaves, (is_count, untold))))) leaves)
        (known_map (λ bytes journal. Leaves bytes journal e) (Bars (Gives (IsTiesOf rule)) (TiesRefuse rule) TooManyRuns) files journals
        (λ bytes journal leaves text writes. many_bars untold bytes journal leaves text writes) leaves)
    untold_ends fault untold leaves file none = absurd untold
