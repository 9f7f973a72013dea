-- Who looks on is shown each record that was read.
use Rattle.std.proofs.Common.{◌≡◌, ◌≤◌, ◌+◌, ℕ, Bool, true, false, List, [], ◌∷◌, ◌++◌, length, map, Option, Some, None, refl, ap, sym, ◌∙◌, subst, arith, append_assoc, length-append}
use Rattle.std.specs.Prelude.{IfSome, option_map}
use Rattle.std.specs.Str.{trim}
use Rattle.std.proofs.lemmas.Bool.{true≢false}
use Rattle.csv.specs.Records.{AllText}
use Rattle.pb_rows.specs.Reading.{Fields}
use Rattle.pb_read.proofs.Alike.{at_just}
use Rattle.pb_read.proofs.GoesOn.{end_stands, reached_next, reached_start}
use Rattle.pb_read.specs.Inner.Forms.{next_row}
use Rattle.pb_read.specs.Inner.Checking.{Judges, JudgesRow}
use Rattle.pb_read.specs.Inner.Fields.{record_after, trimmed}
use Rattle.pb_read.specs.Inner.Machine.{Position, advance, row_fault, start}
use Rattle.pb_read.specs.Inner.Showing.{AreShownTo, IsRefusedNext, IsShownNext, IsShownRow, Shows, ShowsFault}
use Rattle.pb_read.specs.Inner.Tracking.{IsNextRow, Reached}
use Rattle.pb_read.specs.Refusals.{refusal_of}
use Rattle.pb_read.specs.Rows.{rows_of}
use Rattle.pb_read.specs.Shown.{IsAll, Sight, WereShown, ended, faults_of, kept, refused, seen}
use Rattle.pb_read.specs.Inner.Showing.{Adds}
use Rattle.pb_read.specs.StandsFor.{StandsFor, most_records}
use Rattle.pb_read.specs.declared.check.Verdict.TheVariants.{Passes, LeavesOut, Ends, Done}
use Rattle.pb_read.specs.declared.check.Verdict.{Verdict}
use Rattle.pb_read.specs.declared.fault.ReadFault.{ReadFault}
use Rattle.pb_read.specs.declared.fault.ReadKind.{ReadKind}

pub shows_start : (all : Option (List Fields)) (shown : Option (List Sight)) → Shows all all 0 [] start shown shown
shows_start None shown = tt
shows_start (Some all) None = record { done = []; cut = refl; count_is = refl; shown = tt }
shows_start (Some all) (Some old) = record {
  done = [];
  cut = refl;
  count_is = refl;
  shown = record { new = []; is = refl; are = tt; size = refl; faults_are = refl; reached = reached_start };
}

pub shows_none : (all : Option (List Fields)) (faults : List ReadFault) (p : Position) (shown : Option (List Sight)) → Shows all all 0 faults p None shown
shows_none None faults p shown = tt
shows_none (Some all) faults p shown = record { done = []; cut = refl; count_is = refl; shown = tt }

-- the record after those that were read
record_at : (done left : List Fields) → record_after (length done) (done ++ left) ≡ record_after 0 left
record_at [] left = refl
record_at (r ∷ done) left = record_at done left

record_next : (all done left : List Fields) (n : ℕ) → all ≡ done ++ left → n ≡ length done → record_after n all ≡ record_after 0 left
record_next all done left n cut is = (λ i. record_after (is i) (cut i)) ∙ record_at done left

-- one record more
shown_more : (all done left : List Fields) (r : Fields) (count : ℕ) (faults : List ReadFault) (p q : Position) (old : List Sight) (b c : Option (List Sight)) → all ≡ done ++ r ∷ left → length done ≡ count → AllText r → row_fault p (next_row (trimmed r)) ≡ None → q ≡ advance p (next_row (trimmed r)) →
    AreShownTo all count faults p old b → Adds (seen (count + 1) (trimmed r) q.1) b c → AreShownTo all (count + 1) faults q old c
shown_more all done left r count faults p q old b c cut size text none goes shown adds =
    let here : record_after (length shown.new) all ≡ r = record_next all done (r ∷ left) (length shown.new) cut (omega (arith, size, shown.size)) in
    let reached : Reached (kept all shown.new ++ record_after (length shown.new) all ∷ []) q =
    subst (λ x. Reached (kept all shown.new ++ x ∷ []) q) (sym here) (subst (Reached (kept all shown.new ++ r ∷ [])) (sym goes) (reached_next (kept all shown.new) p r shown.reached text none)) in
    let sight : Sight = seen (count + 1) (trimmed r) q.1 in
    record {
      new = sight ∷ shown.new;
      is = subst (λ m. Adds sight m c) shown.is adds;
      are = ((omega (arith, shown.size), ap trimmed (sym here), (q.0, at_just (rows_of (kept all shown.new ++ record_after (length shown.new) all ∷ [])) q reached.at)), shown.are);
      size = omega (arith, shown.size);
      faults_are = shown.faults_are;
      reached = reached;
    }

-- one refusal more
shown_refused : (all done left : List Fields) (count : ℕ) (faults : List ReadFault) (fault : ReadFault) (row : Fields) (p : Position) (old : List Sight) (b c : Option (List Sight)) → all ≡ done ++ left → length done ≡ count → fault.at ≡ count + 1 → row ≡ map trim (record_after 0 left) →
    AreShownTo all count faults p old b → Adds (refused (refusal_of p row fault)) b c → AreShownTo all (count + 1) (faults ++ fault ∷ []) p old c
shown_refused all done left count faults fault row p old b c cut size at is shown adds =
    let here : row ≡ map trim (record_after (length shown.new) all) = is ∙ ap (map trim) (sym (record_next all done left (length shown.new) cut (omega (arith, size, shown.size)))) in
    let sight : Sight = refused (refusal_of p row fault) in
    record {
      new = sight ∷ shown.new;
      is = subst (λ m. Adds sight m c) shown.is adds;
      are = ((omega (arith, at, shown.size), (p, at_just (rows_of (kept all shown.new)) p shown.reached.at, ap (λ r. refusal_of p r fault) here)), shown.are);
      size = omega (arith, shown.size);
      faults_are = ap (λ fs. fs ++ fault ∷ []) shown.faults_are;
      reached = shown.reached;
    }

-- a row that passes
pub passes_shown : (all left after : Option (List Fields)) (done : ℕ) (faults : List ReadFault) (p q : Position) (a b c : Option (List Sight)) → Shows all left done faults p a b → IsShownNext left after (done + 1) p q b c Passes → Shows all after (done + 1) faults q a c
passes_shown None left after done faults p q a b c shows said = tt
passes_shown (Some all) None after done faults p q a b c shows said = absurd shows
passes_shown (Some all) (Some []) after done faults p q a b c shows said = absurd (true≢false said.1.next)
passes_shown (Some all) (Some (r ∷ rest)) after done faults p q a b c shows said =
    let next = said.1 in
    let same : next.fields ≡ r = next.next.1 in
    subst (λ left. Shows (Some all) left (done + 1) faults q a c) (sym next.next.2) (record {
      done = shows.done ++ next.fields ∷ [];
      cut = shows.cut ∙ ap (λ x. shows.done ++ x ∷ rest) (sym same) ∙ sym (append_assoc shows.done (next.fields ∷ []) rest);
      count_is = length-append shows.done (next.fields ∷ []) ∙ ap (λ n. n + 1) shows.count_is;
      shown = go a shows.shown;
    })
  where
    go : (a : Option (List Sight)) → IfSome a (λ old. AreShownTo all done faults p old b) → IfSome a (λ old. AreShownTo all (done + 1) faults q old c)
    go None shown = tt
    go (Some old) shown =
        let next = said.1 in
        let same : next.fields ≡ r = next.next.1 in
        let row : said.0 ≡ trimmed next.fields = next.row_is in
        shown_more all shows.done rest next.fields done faults p q old b c (shows.cut ∙ ap (λ x. shows.done ++ x ∷ rest) (sym same)) shows.count_is next.text (ap (λ x. row_fault p (next_row x)) (sym row) ∙ said.2) (said.3 ∙ ap (λ x. advance p (next_row x)) row) shown (subst (λ x. Adds (seen (done + 1) x q.1) b c) row said.4)

-- a refusal, where what was shown before is known
refused_shown : (all done left : List Fields) (count : ℕ) (faults : List ReadFault) (kind : ReadKind) (p : Position) (a b c : Option (List Sight)) → all ≡ done ++ left → length done ≡ count → IsRefusedNext (Some left) (count + 1) p kind b c →
    IfSome a (λ old. AreShownTo all count faults p old b) → IfSome a (λ old. AreShownTo all (count + 1) (faults ++ record { kind = kind; at = count + 1 } ∷ []) p old c)
refused_shown all done left count faults kind p None b c cut size said shown = tt
refused_shown all done left count faults kind p (Some old) b c cut size said shown =
    shown_refused all done left count faults (record { kind = kind; at = count + 1 }) said.0 p old b c cut size refl said.1 shown said.2

-- a row that is left out
pub left_out_shown : (all left after : Option (List Fields)) (done count : ℕ) (faults : List ReadFault) (p q : Position) (kind : ReadKind) (a b c : Option (List Sight)) → Shows all left done faults p a b → Judges count left after p q (LeavesOut kind) → IsRefusedNext left (done + 1) p kind b c →
    Shows all after (done + 1) (faults ++ record { kind = kind; at = done + 1 } ∷ []) q a c
left_out_shown None left after done count faults p q kind a b c shows judged said = tt
left_out_shown (Some all) None after done count faults p q kind a b c shows judged said = absurd shows
left_out_shown (Some all) (Some []) after done count faults p q kind a b c shows judged said = absurd judged.0
left_out_shown (Some all) (Some (r ∷ rest)) after done count faults p q kind a b c shows judged said =
    let new = faults ++ record { kind = kind; at = done + 1 } ∷ [] in
    subst (λ left. Shows (Some all) left (done + 1) new q a c) (sym judged.0.0) (subst (λ at. Shows (Some all) (Some rest) (done + 1) new at a c) (sym judged.1) (record {
      done = shows.done ++ r ∷ [];
      cut = shows.cut ∙ sym (append_assoc shows.done (r ∷ []) rest);
      count_is = length-append shows.done (r ∷ []) ∙ ap (λ n. n + 1) shows.count_is;
      shown = refused_shown all shows.done (r ∷ rest) done faults kind p a b c shows.cut shows.count_is said shows.shown;
    }))

-- what was shown so far: as many as were read
were_shown : (all : List Fields) (count : ℕ) (faults : List ReadFault) (p : Position) (a c : Option (List Sight)) → IfSome a (λ old. AreShownTo all count faults p old c) → WereShown all faults (λ new. length new ≡ count) a c
were_shown all count faults p None c shown = tt
were_shown all count faults p (Some old) c shown = (shown.new, shown.is, shown.are, shown.faults_are, shown.size)

-- a refusal for good
pub ends_shown : (all left after : Option (List Fields)) (done count : ℕ) (faults : List ReadFault) (p q : Position) (kind : ReadKind) (a b c : Option (List Sight)) → Shows all left done faults p a b → Judges count left after p q (Ends kind) → IsRefusedNext left (done + 1) p kind b c →
    IfSome all (λ records. WereShown records (faults ++ record { kind = kind; at = done + 1 } ∷ []) (IsAll records) a c)
unfolding shown_refused
ends_shown None left after done count faults p q kind a b c shows judged said = tt
ends_shown (Some all) None after done count faults p q kind a b c shows judged said = absurd shows
ends_shown (Some all) (Some left) after done count faults p q kind None b c shows judged said = tt
ends_shown (Some all) (Some left) after done count faults p q kind (Some old) b c shows judged said =
    let shown = shows.shown in
    let more = shown_refused all shows.done left done faults (record { kind = kind; at = done + 1 }) said.0 p old b c shows.cut shows.count_is refl said.1 shown said.2 in
    (more.new, more.is, more.are, more.faults_are, (p, at_just (rows_of (kept all shown.new)) p shown.reached.at, judged.1))

-- which is the last sight
pub ends_last : (all left : Option (List Fields)) (done : ℕ) (faults : List ReadFault) (p : Position) (kind : ReadKind) (a b c : Option (List Sight)) → Shows all left done faults p a b → IsRefusedNext left (done + 1) p kind b c →
    IfSome all (λ records. WereShown records (faults ++ record { kind = kind; at = done + 1 } ∷ []) (λ new. length new ≡ done + 1) a c)
ends_last None left done faults p kind a b c shows said = tt
ends_last (Some all) None done faults p kind a b c shows said = absurd shows
ends_last (Some all) (Some left) done faults p kind a b c shows said =
    were_shown all (done + 1) (faults ++ record { kind = kind; at = done + 1 } ∷ []) p a c (refused_shown all shows.done left done faults kind p a b c shows.cut shows.count_is said shows.shown)

-- no more records are kept than are not refused
kept_few : (all : List Fields) (new : List Sight) → length (kept all new) + length (faults_of new) ≤ length new
kept_few all [] = omega arith
kept_few all (seen at row e ∷ new) = omega (arith, kept_few all new, length-append (kept all new) (record_after (length new) all ∷ []))
kept_few all (refused r ∷ new) = omega (arith, kept_few all new, length-append (faults_of new) (r.fault ∷ []))
kept_few all (ended e ∷ new) = omega (arith, kept_few all new)

-- the file has ended
pub done_shown : (all left after : Option (List Fields)) (done kept' count : ℕ) (faults : List ReadFault) (p q : Position) (a b c d : Option (List Sight)) → Judges count left after p q Done → Shows all left done faults p a b → done ≡ kept' + length faults → kept' ≤ most_records → c ≡ b →
    Adds (ended q.1) c d → IfSome all (λ records. WereShown records faults (IsAll records) a d)
done_shown None left after done kept' count faults p q a b c d judged shows size few same ends = tt
done_shown (Some all) None after done kept' count faults p q a b c d judged shows size few same ends = absurd shows
done_shown (Some all) (Some left) after done kept' count faults p q None b c d judged shows size few same ends = tt
done_shown (Some all) (Some left) after done kept' count faults p q (Some old) b c d judged shows size few same ends =
    let shown = shows.shown in
    let columns = judged.2.1.0 in
    let e = judged.2.0 in
    let stands : StandsFor (kept all shown.new) e =
    end_stands (kept all shown.new) columns e (omega (arith, kept_few all shown.new, shown.size, size, few, ap length shown.faults_are)) (subst (Reached (kept all shown.new)) judged.2.1.1 shown.reached) in
    let is : q.1 ≡ e = ap (λ (x : Position). x.1) (judged.1 ∙ judged.2.1.1) in
    let none : length left ≡ 0 = ap length judged.0 in
    let whole : length shown.new ≡ length all = omega (arith, ap length shows.cut, length-append shows.done left, none, shows.count_is, shown.size) in
    (ended q.1 ∷ shown.new, subst (λ m. Adds (ended q.1) m d) (same ∙ shown.is) ends, ((whole, subst (StandsFor (kept all shown.new)) (sym is) stands), shown.are), shown.faults_are, tt)

-- the first fault
pub first_shown : (all left : Option (List Fields)) (fault : ReadFault) (p : Position) (a c : Option (List Sight)) (is_left_out : Bool) → ShowsFault all left [] p a c fault is_left_out → IfSome all (λ records. WereShown records (fault ∷ []) (λ new. length new ≡ fault.at) a c)
first_shown None left fault p a c is_left_out shows = tt
first_shown (Some all) None fault p a c true shows = absurd shows
first_shown (Some all) (Some left) fault p a c true shows = were_shown all fault.at (fault ∷ []) p a c shows.shown
first_shown (Some all) left fault p a c false shows = shows.1

-- what holds of the records of a text that is known
pub where_known : {X Y : Type 0} (f : X → Y) (P : Y → Type 0) (known : Option X) (left : Option Y) → left ≡ option_map f known → IfSome left P → IfSome known (λ x. P (f x))
where_known f P None left same holds = tt
where_known f P (Some x) left same holds = subst (λ other. IfSome other P) same holds

-- a row that was read and judged
row_ahead : (left after : Option (List Fields)) (row : Fields) → IsNextRow left after true row → IfSome left (λ records. row ≡ map trim (record_after 0 records))
row_ahead None after row next = tt
row_ahead (Some []) after row next = absurd (true≢false next.next)
row_ahead (Some (r ∷ rest)) after row next = next.row_is ∙ ap trimmed next.next.1

pub text_shown : (left after : Option (List Fields)) (at count : ℕ) (p q : Position) (b c : Option (List Sight)) (row : Fields) (verdict : Verdict) → IsNextRow left after true row → JudgesRow count row p q verdict → IsShownRow row at p q b c verdict → IsShownNext left after at p q b c verdict
text_shown left after at count p q b c row Passes next judged shown = (row, next, judged.1, judged.2, shown)
text_shown left after at count p q b c row Done next judged shown = shown
text_shown left after at count p q b c row (LeavesOut kind) next judged shown = (row, row_ahead left after row next, shown)
text_shown left after at count p q b c row (Ends kind) next judged shown = (row, row_ahead left after row next, shown)
