-- The count of a shut desk, as its report.
use Rattle.std.proofs.Common.{◌≡◌, ◌∙◌, ◌++◌, ◌<◌, All, List, [], ℕ, Bool, false, true, sym, subst, refl, ap, append_assoc, get_or, length}
use Rattle.std.proofs.lemmas.List.{append-nil, length-map}
use Rattle.std.specs.Prelude.{MatchBool}
use Rattle.pb_core.proofs.InOrder.{nothing, those_at}
use Rattle.pb_core.proofs.Orders.{order_known}
use Rattle.pb_core.specs.Election.{ElectionView}
use Rattle.pb_desk.specs.Desk.{DeskView, closed_election, standing_of}
use Rattle.pb_reasons.specs.Counted.{IsCountBy}
use Rattle.pb_reasons.specs.CountedElection.{CountedElectionView, IsCountIn, IsCountedElection}
use Rattle.pb_reasons.proofs.Sorted.{is_order, one_each}
use Rattle.pb_rounds.specs.Counted.{IsCountFault}
use Rattle.pb_rounds.specs.TieOrder.{IsSortedFor}
use Rattle.pb_rounds.specs.declared.count_fault.CountFault.{CountFault}
use Rattle.pb_rounds.specs.declared.count_fault.CountFault.TheVariants.{NoMemory}
use Rattle.pb_rounds.specs.declared.rule.Rule.{Rule}
use Rattle.pb_rows.specs.Writing.{text_of_row}
use Rattle.pb_faults.specs.DeskRow.{entries_row}
use Rattle.pb_commands.specs.Audited.{IsReport, IsTextOf}
use Rattle.pb_commands.specs.Inner.Audited.{IsRefusedDesk}
use Rattle.pb_commands.specs.Report.{report_of}

when_true : (b : Bool) (A B : Type 0) → b ≡ true → A → MatchBool b A B
when_true b A B is a = subst (λ (t : Bool). MatchBool t A B) (sym is) a

-- below the row of a shut desk stands such a report
pub such_follows : (IsSuch : ElectionView → List ℕ → Type 0) (d : DeskView) (report told text : List ℕ) → (standing_of d).is_shut ≡ true
    → IsSuch (closed_election d) report → told ≡ text_of_row (entries_row d) → text ≡ told ++ report → IsTextOf IsSuch d text
such_follows IsSuch d report told text shut such is_row put =
    (report, put ∙ ap (λ (t : List ℕ). t ++ report) is_row, when_true (standing_of d).is_shut _ _ shut such)

-- nothing stands below that of an open one
pub none_follows : (IsSuch : ElectionView → List ℕ → Type 0) (d : DeskView) (text : List ℕ) → (standing_of d).is_shut ≡ false → text ≡ text_of_row (entries_row d)
    → IsTextOf IsSuch d text
none_follows IsSuch d text unshut is =
    let none : List ℕ = [] in
    let P : Bool → Type 0 = λ t. MatchBool t (IsSuch (closed_election d) none) (none ≡ none) in
    (none, is ∙ sym (append-nil (text_of_row (entries_row d))), subst P (sym unshut) refl)

-- the desk's row and the report of a count of its ballots are what is to be written of the desk
pub report_of_count : (rule : Rule) (d : DeskView) (x : CountedElectionView) → (standing_of d).is_shut ≡ true → IsCountIn rule (closed_election d) x
    → IsTextOf (IsReport rule) d (text_of_row (entries_row d) ++ report_of x)
report_of_count rule d x shut is_count = (report_of x, refl, when_true (standing_of d).is_shut _ _ shut (x, is_count, refl))

-- the report of a shut desk's ballots goes after the desk's row
pub report_follows : (rule : Rule) (d : DeskView) (x : CountedElectionView) (before middle after : List ℕ) → (standing_of d).is_shut ≡ true
    → IsCountIn rule (closed_election d) x → middle ≡ before ++ text_of_row (entries_row d) → after ≡ middle ++ report_of x
    → (text : List ℕ) × IsTextOf (IsReport rule) d text × (after ≡ before ++ text)
report_follows rule d x before middle after shut count row_is put =
    let row = text_of_row (entries_row d) in
    let report = report_of x in (
      row ++ report,
      (report, refl, when_true (standing_of d).is_shut _ _ shut (x, count, refl)),
      put ∙ ap (λ (t : List ℕ). t ++ report) row_is ∙ append_assoc before row report,
    )

-- nothing goes after the row of an open desk
pub row_alone : (rule : Rule) (d : DeskView) (before after : List ℕ) → (standing_of d).is_shut ≡ false → after ≡ before ++ text_of_row (entries_row d)
    → (text : List ℕ) × IsTextOf (IsReport rule) d text × (after ≡ before ++ text)
row_alone rule d before after unshut is =
    let row = text_of_row (entries_row d) in
    (row, none_follows (IsReport rule) d row unshut refl, is)

-- what a desk comes to that a count of it refuses
pub refused_desk : (d : DeskView) (rule : Rule) (order : List ℕ) (e : ElectionView) (fault : CountFault) → (standing_of d).is_shut ≡ true
    → IsSortedFor rule.ties (closed_election d) order e → IsCountFault e rule.options fault → IsRefusedDesk d rule fault
refused_desk d rule order e NoMemory shut is_put refused = tt
refused_desk d rule order e fault shut is_put refused = (shut, (order, e, is_put, refused))

-- a sorted election has as many projects as its order has places
pub desk_one_each : (rule : Rule) (d : DeskView) (order : List ℕ) (e : ElectionView) → IsSortedFor rule.ties (closed_election d) order e
    → length order ≡ length e.projects
desk_one_each rule d order e is_put =
    let file = closed_election d in
    let many = one_each rule.ties file order is_put.0 in
    let known = subst (λ n. All (λ place. place < n) order) many (order_known order (is_order rule.ties file order is_put.0)) in
    sym (ap (λ (s : ElectionView). length s.projects) is_put.1 ∙ ap length (those_at file.projects nothing order known)
    ∙ length-map order (λ place. get_or file.projects place nothing))

pub count_of_desk : (rule : Rule) (d : DeskView) (order : List ℕ) (e : ElectionView) (x : CountedElectionView) → IsCountedElection x → x.election ≡ e → x.order ≡ order
    → x.rule ≡ rule → IsSortedFor rule.ties (closed_election d) order e → IsCountIn rule (closed_election d) x
count_of_desk rule d order e x is election_is order_is rule_is is_put = (
  rule_is,
  subst (λ (o : List ℕ). IsSortedFor rule.ties (closed_election d) o x.election) (sym order_is)
      (subst (λ (s : ElectionView). IsSortedFor rule.ties (closed_election d) order s) (sym election_is) is_put),
  subst (λ (r : Rule). IsCountBy r x.election x.counted) rule_is (x.counted.outcome, is.is_count, is.is_filled_up),
)
