-- A file and a journal are those of one desk at most, which has one text; and what refuses them then comes from outside.
use Rattle.std.proofs.Common.{◌≡◌, ℕ, ◌≤◌, ◌++◌, List, [], Some, Bool, true, false, length, refl, sym, ◌∙◌, ap, subst, arith}
use Rattle.std.specs.Prelude.{MatchBool}
use Rattle.pb_core.specs.Election.{ElectionView}
use Rattle.pb_core.specs.Request.{EntryView}
use Rattle.pb_desk.proofs.AuditLaws.{no_fault, small_numbers}
use Rattle.pb_desk.proofs.RowLaws.{journal_rows-injective}
use Rattle.pb_desk.specs.Audit.{IsAudited, IsFaultOfJournal, IsSound}
use Rattle.pb_desk.specs.Desk.{DeskView, closed_election, standing_of}
use Rattle.pb_desk.specs.Opening.{OpeningView}
use Rattle.pb_desk.specs.Rows.{journal_rows}
use Rattle.pb_desk.specs.declared.audit_fault.AuditFault.{AuditFault}
use Rattle.pb_desk.specs.declared.audit_fault.AuditFault.TheVariants as audit
use Rattle.pb_read.proofs.Uniqueness.{one_election}
use Rattle.pb_read.specs.StandsFor.{StandsFor}
use Rattle.pb_rounds.specs.declared.count_fault.CountFault.{CountFault}
use Rattle.pb_rounds.specs.declared.count_fault.CountFault.TheVariants as count
use Rattle.pb_rounds.specs.declared.rule.Rule.{Rule}
use Rattle.pb_rows.specs.Reading.{records_of}
use Rattle.pb_rows.specs.Writing.{text_of_row}
use Rattle.pb_script.specs.Serving.{program_room}
use Rattle.pb_faults.specs.DeskRow.{entries_row}
use Rattle.pb_commands.specs.Audited.{AuditWrites, IsDeskOf, IsReport, IsTextOf}
use Rattle.pb_commands.specs.Inner.Audited.{IsRefusedDesk}
use Rattle.pb_commands.specs.declared.demand.Demand.{Demand}
use Rattle.pb_commands.specs.Inner.Outside.{IsOutsideFault}
use Rattle.pb_faults.specs.Fault.{merged}
use Rattle.pb_faults.specs.declared.fault.AppFault.TheVariants.{Audit, Count}
use Rattle.pb_commands.proofs.Accepted.{counted_from_outside, one_report}

-- these bytes are those of one desk at most
pub one_desk : (bytes journal : List ℕ) (d other : DeskView) → IsDeskOf bytes journal d → IsDeskOf bytes journal other → d ≡ other
one_desk bytes journal d other first second =
    let election = one_election (records_of bytes) d.opening.election other.opening.election first.stands second.stands in
    let room : d.room ≡ other.room = first.audited.room ∙ sym second.audited.room in
    let fits : length d.journal ≤ 4294967295 = first.audited.sound.fits in
    let fits' : length other.journal ≤ 4294967295 = second.audited.sound.fits in
    let same = journal_rows-injective d.opening.version other.opening.version d.journal other.journal (omega arith) (omega arith) (small_numbers _ first.audited.sound.entries) (small_numbers _ second.audited.sound.entries) (sym first.audited.rows ∙ second.audited.rows) in
    λ i. record { opening = record { election = election i; version = same.0 i }; room = room i; journal = same.1 i }

-- the rows of a sound journal have no fault, so that the fault is none of theirs
pub journal_from_outside : (o : OpeningView) (journal : List EntryView) → IsSound o program_room journal
    → (fault : AuditFault) → IsFaultOfJournal o.election program_room (journal_rows o.version journal) fault → IsOutsideFault (merged (Audit fault))
journal_from_outside o journal sound (audit.ReadFailed row) fails = refl
journal_from_outside o journal sound (audit.BadRow row) fails = absurd (no_fault o program_room journal (audit.BadRow row) (omega arith) sound fails (λ is. cc, λ i is. cc))
journal_from_outside o journal sound (audit.WrongNumber row) fails = absurd (no_fault o program_room journal (audit.WrongNumber row) (omega arith) sound fails (λ is. cc, λ i is. cc))
journal_from_outside o journal sound (audit.JournalFull row) fails = absurd (no_fault o program_room journal (audit.JournalFull row) (omega arith) sound fails (λ is. cc, λ i is. cc))
journal_from_outside o journal sound (audit.WrongAnswer row) fails = absurd (no_fault o program_room journal (audit.WrongAnswer row) (omega arith) sound fails (λ is. cc, λ i is. cc))
journal_from_outside o journal sound audit.NoMemory fails = refl

-- a desk that has a text is refused from outside alone
pub desk_from_outside : (rule : Rule) (d : DeskView) (text : List ℕ) → IsTextOf (IsReport rule) d text
    → (fault : CountFault) → IsRefusedDesk d rule fault → IsOutsideFault (merged (Count fault))
desk_from_outside rule d text written count.NoMemory refused = refl
desk_from_outside rule d text written fault refused =
    let report : IsReport rule (closed_election d) written.0 = rw refused.0 at written.2 in
    counted_from_outside rule (closed_election d) report.0 report.1 fault (λ unlike. refused.1)

-- the desk that an audit answers to a file's election
pub desk_of : (bytes journal : List ℕ) (e : ElectionView) (d : DeskView) → StandsFor (records_of bytes) e → IsAudited e program_room (Some journal) d
    → IsDeskOf bytes journal d
desk_of bytes journal e d stands is = record {
  stands = subst (StandsFor (records_of bytes)) (sym is.election) stands;
  audited = record { election = refl; room = is.room; sound = is.sound; rows = is.rows };
}

-- a desk has one text
one_desk_text : (rule : Rule) (shut : Bool) (e : ElectionView) (row a b first second : List ℕ)
    → a ≡ row ++ first → b ≡ row ++ second → MatchBool shut (IsReport rule e first) (first ≡ [])
    → MatchBool shut (IsReport rule e second) (second ≡ []) → a ≡ b
one_desk_text rule true e row a b first second is_a is_b one other =
    is_a ∙ ap (λ (t : List ℕ). row ++ t) (one_report rule e first second one other) ∙ sym is_b
one_desk_text rule false e row a b first second is_a is_b one other =
    is_a ∙ ap (λ (t : List ℕ). row ++ t) (one ∙ sym other) ∙ sym is_b

pub one_audit : (demand : Demand) (rule : Rule) (bytes journal : List ℕ) (a b : List ℕ)
    → AuditWrites demand (IsReport rule) bytes journal a → AuditWrites demand (IsReport rule) bytes journal b → a ≡ b
one_audit demand rule bytes journal a b first second =
    let d = first.0 in
    let P : DeskView → Type 0 = λ d. IsTextOf (IsReport rule) d b in
    let written = subst P (one_desk bytes journal second.0 d second.1 first.1) second.2.1 in
    one_desk_text rule (standing_of d).is_shut (closed_election d) (text_of_row (entries_row d)) a b first.2.1.0 written.0
    first.2.1.1 written.1 first.2.1.2 written.2
