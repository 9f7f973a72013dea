-- What is answered about the bytes of a script, where they may be known.
use Rattle.std.proofs.Common.{◌≡◌, ◌∙◌, ◌++◌, ℕ, ◌≤◌, List, [], ◌∷◌, All, Bool, true, false, if◌then◌else◌, length, map, Option, Some, None, ap, refl, subst, sym}
use Rattle.std.proofs.lemmas.List.{append-nil}
use Rattle.std.proofs.lemmas.List.Elements.{All-cons, All-nil}
use Rattle.std.specs.Prelude.{IfSome}
use Rattle.pb_core.specs.Election.{ElectionView}
use Rattle.pb_core.specs.Request.{EntryView, RequestView, Shut}
use Rattle.pb_desk.specs.Audit.{IsSound}
use Rattle.pb_desk.specs.Desk.{DeskView}
use Rattle.pb_desk.specs.Opening.{OpeningView}
use Rattle.pb_desk.specs.Replay.{IsLegal}
use Rattle.pb_desk.specs.Rows.{journal_text, ScriptRowView}
use Rattle.pb_rows.specs.Reading.{Fields}
use Rattle.pb_script.specs.Inner.ScriptReading.{SplitsScript}
use Rattle.pb_script.specs.declared.admission.Admission.{Admission}
use Rattle.pb_script.specs.Served.{IsServeFault, IsServed}
use Rattle.pb_shared.specs.Clerk.{AreClerks}
use Rattle.pb_script.specs.Serving.{program_room}
use Rattle.pb_script.specs.Inner.Serving.{IsServingFault, ServesAll, ServesScript, ShutAtEnd, opening_of}
use Rattle.pb_script.specs.declared.script_fault.ScriptFault.TheVariants as script
use Rattle.pb_script.specs.declared.serve_fault.ServeFault.{ServeFault}
use Rattle.pb_script.specs.declared.serve_fault.ServeFault.TheVariants.{Script, ClerkCount}
use Rattle.pb_script.proofs.DeskEntries.{script_ended, served_entries}
use Rattle.pb_script.proofs.Scripts.{memory_fault}

-- the desk opened with this election, and its journal has what each of these clerks asked, and its end
pub record IsServedBy (e : ElectionView) (clerks : ℕ) (shuts : Bool) (lists : List (List RequestView)) (d : DeskView) : Type 0 where
  pub in_range : AreClerks clerks
  pub opening : d.opening ≡ opening_of e
  pub room : d.room ≡ program_room
  pub serves : ShutAtEnd shuts (ServesAll lists) d.journal

-- the text is that of the desk's journal
pub record IsWritten (d : DeskView) (text : List ℕ) : Type 0 where
  pub legal : IsLegal d.opening d.journal
  pub fits : length d.journal ≤ d.room
  pub text_is : text ≡ journal_text d.opening.version d.journal

-- a journal that serves a script, in two parts
record HasParts (shuts : Bool) (clerks : ℕ) (script : List ScriptRowView) (journal : List EntryView) : Type 0 where
  served : List EntryView
  last : List EntryView
  serves : ServesScript clerks script served
  asks : map (λ x. x.request) last ≡ (if shuts then Shut ∷ [] else [])
  by_first : All (λ x. x.clerk ≡ 0) last
  journal_is : journal ≡ served ++ last

parts : (shuts : Bool) (clerks : ℕ) (script : List ScriptRowView) (journal : List EntryView) → ShutAtEnd shuts (ServesScript clerks script) journal → HasParts shuts clerks script journal
parts false clerks script journal serves = record {
  served = journal;
  last = [];
  serves = serves;
  asks = refl;
  by_first = All-nil (λ (x : EntryView). x.clerk ≡ 0);
  journal_is = sym (append-nil journal);
}
parts true clerks script journal serves =
    let last : EntryView = record { clerk = 0; request = Shut; answer = serves.1 } in record {
      served = serves.0;
      last = last ∷ [];
      serves = serves.2;
      asks = refl;
      by_first = All-cons (λ (x : EntryView). x.clerk ≡ 0) last [] refl (All-nil (λ (x : EntryView). x.clerk ≡ 0));
      journal_is = serves.3;
    }

-- the text of a desk's journal that has what each clerk asked serves the script
text_served : (a : Admission) (e : ElectionView) (clerks : ℕ) (shuts : Bool) (records : List Fields) (lists : List (List RequestView)) (d : DeskView) (text : List ℕ) → SplitsScript a clerks records lists
    → IsServedBy e clerks shuts lists d → IsWritten d text → IsServed a e clerks shuts records text
text_served a e clerks shuts records lists d text split served written =
    let serves = script_ended shuts clerks split.0 lists d.journal served.in_range split.2 served.serves in
    let o = opening_of e in
    let P : OpeningView → Type 0 = λ o. IsLegal o d.journal in
    let legal = subst P served.opening written.legal in
    let sound : IsSound o program_room d.journal =
    record { legal = legal; fits = rw served.room at written.fits; entries = served_entries a shuts o clerks records split.0 d.journal split.1 serves legal } in
    let both = parts shuts clerks split.0 d.journal serves in
    record {
      script = split.0;
      is_script = split.1;
      in_range = served.in_range;
      served = both.served;
      last = both.last;
      in_order = both.serves.in_order;
      by_clerks = both.serves.by_clerks;
      ends = (both.asks, both.by_first);
      sound = subst (IsSound o program_room) both.journal_is sound;
      text_is = written.text_is ∙ ap (λ (o : OpeningView). journal_text o.version d.journal) served.opening ∙ ap (journal_text o.version) both.journal_is;
    }

fault_of_serving : (a : Admission) (clerks : ℕ) (records : List Fields) (lists : List (List RequestView)) (fault : ServeFault) → SplitsScript a clerks records lists → IsServingFault clerks fault
    → IsServeFault a clerks records fault
fault_of_serving a clerks records lists ClerkCount split fails = (split.0, split.1, fails)
fault_of_serving a clerks records lists (Script script.NoMemory) split fails = memory_fault a clerks (Some records)
fault_of_serving a clerks records lists (Script fault) split fails = absurd fails

module _ (a : Admission) (clerks : ℕ) (lists : List (List RequestView)) where
  pub script_text : (shuts : Bool) (e : ElectionView) (scripts : Option (List Fields)) (d : DeskView) (text : List ℕ) → IfSome scripts (λ rows. SplitsScript a clerks rows lists)
      → IsServedBy e clerks shuts lists d → IsWritten d text → IfSome scripts (λ rows. IsServed a e clerks shuts rows text)
  script_text shuts e None d text splits served written = tt
  script_text shuts e (Some rows) d text splits served written = text_served a e clerks shuts rows lists d text splits served written

  pub script_unserved : (scripts : Option (List Fields)) (fault : ServeFault) → IfSome scripts (λ rows. SplitsScript a clerks rows lists)
      → IsServingFault clerks fault → IfSome scripts (λ rows. IsServeFault a clerks rows fault)
  script_unserved None fault splits fails = tt
  script_unserved (Some rows) fault splits fails = fault_of_serving a clerks rows lists fault splits fails
