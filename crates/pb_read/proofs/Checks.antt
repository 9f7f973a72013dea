-- A check of a whole file: what each verdict means for the faults that are listed.
use Rattle.std.proofs.Common.{◌≡◌, ◌≢◌, ◌<◌, ◌≤◌, ◌+◌, ◌-◌, ◌==◌, ◌⊎◌, ℕ, suc, Bool, true, false, cond, not, List, [], ◌∷◌, ◌++◌, length, take, drop, Option, Some, None, refl, ap, sym, ◌∙◌, subst, arith, inl, inr, ⊎_elim, length-append}
use Rattle.std.specs.Prelude.{IfSome}
use Rattle.std.specs.List.{list_all}
use Rattle.std.specs.Str.{is_utf8}
use Rattle.std.proofs.Math.Seq.{drop-append-add, take-append_seam}
use Rattle.std.proofs.lemmas.Bool.{eqb-false, true≢false, false_from_ne_true}
use Rattle.csv.specs.Records.{AllText}
use Rattle.pb_core.specs.Election.{ElectionView}
use Rattle.pb_rows.specs.Reading.{Fields, IsNext}
use Rattle.pb_read.proofs.DraftFacts.{explains}
use Rattle.pb_read.proofs.GoesOn.{AllText-from_test, test-from_AllText}
use Rattle.pb_read.proofs.Tracking.{ended, explained, fault_at, tracks_more, tracks_start}
use Rattle.pb_read.specs.Inner.Forms.{next_row}
use Rattle.pb_read.specs.Inner.Checking.{EndsAt, Going, IsGoing, IsRefusal, IsVerdict, Judges, JudgesRow, LeadsTo, LeftHas, StopsAt, text_fault, without}
use Rattle.pb_read.proofs.Uniqueness.{refused_from_outside}
use Rattle.pb_read.specs.FirstFault.{IsFaultAt, IsFromOutside}
use Rattle.pb_read.specs.Listed.{AreListed, leaves_out}
use Rattle.pb_read.specs.Inner.Checking.{IsHandedOut, IsLeftOutAt}
use Rattle.pb_read.specs.Rows.{rows_of}
use Rattle.pb_read.proofs.Alike.{at_just}
use Rattle.pb_read.specs.Inner.Machine.{Explains, Position, lowest_kind, row_fault, start}
use Rattle.pb_read.specs.Inner.Fields.{trimmed}
use Rattle.pb_read.specs.Stages.{IsAt}
use Rattle.pb_read.specs.declared.progress.Stage.{Stage}
use Rattle.pb_read.specs.declared.progress.Stage.TheVariants.{InProjects, InVotes}
use Rattle.pb_read.specs.StandsFor.{StandsFor, most_records}
use Rattle.pb_read.specs.Inner.Tracking.{HasCome, IsNextRow, Tracks}
use Rattle.pb_read.specs.declared.check.Verdict.{Verdict}
use Rattle.pb_read.specs.declared.check.Verdict.TheVariants.{Passes, LeavesOut, Ends, Done}
use Rattle.pb_read.specs.declared.fault.ReadFault.{ReadFault}
use Rattle.pb_read.specs.declared.fault.ReadKind.{ReadKind}
use Rattle.pb_read.specs.declared.fault.ReadKind.TheVariants as kinds

-- the record after those that were kept is taken out
without-here : (done : List Fields) (next : Fields) (rest : List Fields) → without (length done + 1) (done ++ next ∷ rest) ≡ done ++ rest
without-here done next rest =
    let back : length done + 1 - 1 ≡ length done = omega arith in
    let here : suc (length done + 1 - 1) ≡ length done + 1 = omega arith in
    ap (λ n. take n (done ++ next ∷ rest) ++ drop (suc (length done + 1 - 1)) (done ++ next ∷ rest)) back
    ∙ ap (λ n. take (length done) (done ++ next ∷ rest) ++ drop n (done ++ next ∷ rest)) here
    ∙ ap (λ (t : List Fields). t ++ drop (length done + 1) (done ++ next ∷ rest)) (take-append_seam done (next ∷ rest))
    ∙ ap (λ (t : List Fields). done ++ t) (drop-append-add done (next ∷ rest) 1)

come_without : (now : List Fields) (next : Fields) (rest : List Fields) (kept : ℕ) (p : Position) → HasCome now (next ∷ rest) kept p → HasCome (without (kept + 1) now) rest kept p
come_without now next rest kept p come = record {
  done = come.done;
  cut = (λ i. without (sym come.count_is i + 1) (come.cut i)) ∙ without-here come.done next rest;
  count_is = come.count_is;
  reached = come.reached;
}

-- the first fault of the records that were not left out
fault_here : (now left : List Fields) (kept : ℕ) (p : Position) (kind : ReadKind) → HasCome now left kept p → kept ≤ most_records → lowest_kind kept p left ≡ Some kind → IsFaultAt now kind (kept + 1)
fault_here now left kept p kind come few lowest =
    explained now left kept p come few (kept + 1) refl kind (lowest_kind kept p left) (explains kind _ lowest) (λ k found. found)

fault_left : (now left : List Fields) (kept : ℕ) (p : Position) (kind : ReadKind) → HasCome now left kept p → kept ≤ most_records → LeftHas kept (Some left) p kind → IsFaultAt now kind (kept + 1)
fault_left now left kept p kinds.ReadFailed come few has = fault_at now left kept p come few (kept + 1) refl kinds.ReadFailed (inr (inl refl))
fault_left now left kept p kinds.NoMemory come few has = fault_at now left kept p come few (kept + 1) refl kinds.NoMemory (inr (inr refl))
fault_left now left kept p kind come few has = fault_here now left kept p _ come few has

-- whether the next record is left out, by where the file has come to
so_here : (goes : Bool) (now left : List Fields) (kept : ℕ) (p : Position) (kind : ReadKind) → HasCome now left kept p → leaves_out p.0 kind ≡ goes → IsLeftOutAt goes now kind (kept + 1)
so_here goes now left kept p kind come said =
    let back : kept + 1 - 1 ≡ length come.done = omega (arith, come.count_is) in
    let front : take (kept + 1 - 1) now ≡ come.done =
    ap (λ n. take n now) back ∙ ap (λ (t : List Fields). take (length come.done) t) come.cut ∙ take-append_seam come.done left in
    (p, subst (λ (rows : List Fields). IsAt (rows_of rows) p) (sym front) (at_just (rows_of come.done) p come.reached.at), said)

-- one more record is taken out
leads_push : (out : ℕ) (records : List Fields) (faults : List ReadFault) (fault : ReadFault) (now : List Fields) (n : ℕ) → LeadsTo out records faults now → n ≡ out + length faults → n < fault.at → IsFaultAt now fault.kind (fault.at - n) → n < 999 → IsLeftOutAt true now fault.kind (fault.at - n) →
    LeadsTo out records (faults ++ fault ∷ []) (without (fault.at - n) now)
leads_push out records [] fault now n leads same after is few so =
    let at_start : n ≡ out = omega (arith, same) in (
      omega (arith, after, at_start),
      subst (λ (x : List Fields). IsFaultAt x fault.kind (fault.at - out)) (sym leads) (subst (λ m. IsFaultAt now fault.kind (fault.at - m)) at_start is),
      omega (arith, few, at_start),
      subst (λ (x : List Fields). IsLeftOutAt true x fault.kind (fault.at - out)) (sym leads) (subst (λ m. IsLeftOutAt true now fault.kind (fault.at - m)) at_start so),
      λ i. without (fault.at - sym at_start i) (leads i),
    )
leads_push out records (first ∷ more) fault now n leads same after is few so =
    (leads.0, leads.1, leads.2, leads.3, leads_push (out + 1) (without (first.at - out) records) more fault now n leads.4 (omega (arith, same)) after is few so)

-- no fault is left
listed_all : (out : ℕ) (records : List Fields) (faults : List ReadFault) (now : List Fields) (e : ElectionView) → LeadsTo out records faults now → StandsFor now e → AreListed out records faults
listed_all out records [] now e leads stands = (e, subst (λ x. StandsFor x e) (sym leads) stands)
listed_all out records (first ∷ more) now e leads stands =
    (leads.0, leads.1, inr (leads.2, leads.3, listed_all (out + 1) (without (first.at - out) records) more now e leads.4 stands))

-- the last fault that is listed
listed_end : (out : ℕ) (records : List Fields) (faults : List ReadFault) (fault : ReadFault) (now : List Fields) (n : ℕ) → LeadsTo out records faults now → n ≡ out + length faults → n < fault.at → IsFaultAt now fault.kind (fault.at - n) →
    (n ≡ 999) ⊎ IsLeftOutAt false now fault.kind (fault.at - n) → AreListed out records (faults ++ fault ∷ [])
listed_end out records [] fault now n leads same after is may =
    let at_start : n ≡ out = omega (arith, same) in (
      omega (arith, after, at_start),
      subst (λ (x : List Fields). IsFaultAt x fault.kind (fault.at - out)) (sym leads) (subst (λ m. IsFaultAt now fault.kind (fault.at - m)) at_start is),
      inl (
        refl,
        ⊎_elim (λ last. inl (sym at_start ∙ last))
            (λ so. inr (subst (λ (x : List Fields). IsLeftOutAt false x fault.kind (fault.at - out)) (sym leads) (subst (λ m. IsLeftOutAt false now fault.kind (fault.at - m)) at_start so))) may,
      ),
    )
listed_end out records (first ∷ more) fault now n leads same after is may =
    (leads.0, leads.1, inr (leads.2, leads.3, listed_end (out + 1) (without (first.at - out) records) more fault now n leads.4 (omega (arith, same)) after is may))

pub going_start : (all : Option (List Fields)) → IsGoing all all 0 [] start
going_start None = tt
going_start (Some all) = record { now = all; kept = 0; leads = refl; done_is = refl; few = omega arith; tracks = tracks_start (Some all) }

-- a record passes
pub going_passes : (all left after : Option (List Fields)) (done kept : ℕ) (faults : List ReadFault) (p q : Position) → IsGoing all left done faults p → done ≡ kept + length faults → Judges kept left after p q Passes → IsGoing all after (done + 1) faults q
going_passes None left after done kept faults p q going same judged = tt
going_passes (Some all) left after done kept faults p q going same judged =
    let is : going.kept ≡ kept = omega (arith, same, going.done_is) in
    let not_full : kept ≢ most_records = eqb-false kept most_records judged.2.0 in
    record {
      now = going.now;
      kept = going.kept + 1;
      leads = going.leads;
      done_is = omega (arith, going.done_is);
      few = omega (arith, going.few, is, not_full);
      tracks = tracks_more (Some going.now) left after going.kept p q judged.0 going.tracks judged.1 judged.2.1 judged.2.2;
    }

-- a record is left out
pub going_leaves : (all left after : Option (List Fields)) (done kept : ℕ) (faults : List ReadFault) (p q : Position) (kind : ReadKind) → IsGoing all left done faults p → done ≡ kept + length faults → length faults < 999 → Judges kept left after p q (LeavesOut kind) →
    IsGoing all after (done + 1) (faults ++ record { kind = kind; at = done + 1 } ∷ []) q
going_leaves None left after done kept faults p q kind going same few judged = tt
going_leaves (Some all) None after done kept faults p q kind going same few judged = absurd going.tracks
going_leaves (Some all) (Some []) after done kept faults p q kind going same few judged = absurd judged.0
going_leaves (Some all) (Some (next ∷ rest)) after done kept faults p q kind going same few judged =
    let is : going.kept ≡ kept = omega (arith, same, going.done_is) in
    let fault : ReadFault = record { kind = kind; at = done + 1 } in
    let number : done + 1 - length faults ≡ going.kept + 1 = omega (arith, going.done_is) in
    let here : IsFaultAt going.now kind (done + 1 - length faults) =
    subst (λ n. IsFaultAt going.now kind n) (sym number) (fault_here going.now (next ∷ rest) going.kept p kind going.tracks going.few (ap (λ n. lowest_kind n p (next ∷ rest)) is ∙ judged.0.1)) in
    let come : HasCome (without (done + 1 - length faults) going.now) rest going.kept q =
    subst (λ n. HasCome (without n going.now) rest going.kept q) (sym number) (subst (HasCome (without (going.kept + 1) going.now) rest going.kept) (sym judged.1) (come_without going.now next rest going.kept p going.tracks)) in
    let so : IsLeftOutAt true going.now kind (done + 1 - length faults) =
    subst (λ n. IsLeftOutAt true going.now kind n) (sym number) (so_here true going.now (next ∷ rest) going.kept p kind going.tracks judged.2) in
    let one : List ReadFault = fault ∷ [] in
    record {
      now = without (done + 1 - length faults) going.now;
      kept = going.kept;
      leads = leads_push 0 all faults fault going.now (length faults) going.leads (omega arith) (omega (arith, going.done_is)) here few so;
      done_is = omega (arith, going.done_is, length-append faults one);
      few = going.few;
      tracks = subst (λ l. Tracks (Some (without (done + 1 - length faults) going.now)) l going.kept q) (sym judged.0.0) come;
    }

-- the last of as many as are listed
pub listed_full : (all left after : Option (List Fields)) (done kept : ℕ) (faults : List ReadFault) (p q : Position) (kind : ReadKind) → IsGoing all left done faults p → done ≡ kept + length faults → length faults ≡ 999 → Judges kept left after p q (LeavesOut kind) →
    IfSome all (λ records. AreListed 0 records (faults ++ record { kind = kind; at = done + 1 } ∷ []))
listed_full None left after done kept faults p q kind going same last judged = tt
listed_full (Some all) None after done kept faults p q kind going same last judged = absurd going.tracks
listed_full (Some all) (Some []) after done kept faults p q kind going same last judged = absurd judged.0
listed_full (Some all) (Some (next ∷ rest)) after done kept faults p q kind going same last judged =
    let is : going.kept ≡ kept = omega (arith, same, going.done_is) in
    let number : done + 1 - length faults ≡ going.kept + 1 = omega (arith, going.done_is) in
    let here : IsFaultAt going.now kind (done + 1 - length faults) =
    subst (λ n. IsFaultAt going.now kind n) (sym number) (fault_here going.now (next ∷ rest) going.kept p kind going.tracks going.few (ap (λ n. lowest_kind n p (next ∷ rest)) is ∙ judged.0.1)) in
    listed_end 0 all faults (record { kind = kind; at = done + 1 }) going.now (length faults) going.leads (omega arith) (omega (arith, going.done_is)) here (inl last)

-- reading ends at a fault
pub listed_last : (all left after : Option (List Fields)) (done kept : ℕ) (faults : List ReadFault) (p q : Position) (kind : ReadKind) → IsGoing all left done faults p → done ≡ kept + length faults → Judges kept left after p q (Ends kind) →
    IfSome all (λ records. AreListed 0 records (faults ++ record { kind = kind; at = done + 1 } ∷ []))
listed_last None left after done kept faults p q kind going same judged = tt
listed_last (Some all) None after done kept faults p q kind going same judged = absurd going.tracks
listed_last (Some all) (Some left) after done kept faults p q kind going same judged =
    let is : kept ≡ going.kept = omega (arith, same, going.done_is) in
    let number : done + 1 - length faults ≡ going.kept + 1 = omega (arith, going.done_is) in
    let here : IsFaultAt going.now kind (done + 1 - length faults) =
    subst (λ n. IsFaultAt going.now kind n) (sym number) (fault_left going.now left going.kept p kind going.tracks going.few (subst (λ n. LeftHas n (Some left) p kind) is judged.0)) in
    let so : IsLeftOutAt false going.now kind (done + 1 - length faults) =
    subst (λ n. IsLeftOutAt false going.now kind n) (sym number) (so_here false going.now left going.kept p kind going.tracks judged.1) in
    listed_end 0 all faults (record { kind = kind; at = done + 1 }) going.now (length faults) going.leads (omega arith) (omega (arith, going.done_is)) here (inr so)

-- reading stops at a record that is left out
pub stops_left_out : (all left after : Option (List Fields)) (done kept : ℕ) (faults : List ReadFault) (p q : Position) (kind : ReadKind) → IsGoing all left done faults p → done ≡ kept + length faults → Judges kept left after p q (LeavesOut kind) →
    StopsAt all after faults q (record { kind = kind; at = done + 1 }) true
stops_left_out all left after done kept faults p q kind going same judged = (
  λ few. going_leaves all left after done kept faults p q kind going same few judged,
  λ last. listed_full all left after done kept faults p q kind going same last judged,
)

-- the file has ended
pub stops_done : (all left after : Option (List Fields)) (done kept : ℕ) (faults : List ReadFault) (p q : Position) → IsGoing all left done faults p → Judges kept left after p q Done →
    IfSome all (λ records. AreListed 0 records faults × (faults ≡ [] → StandsFor records q.1))
stops_done None left after done kept faults p q going judged = tt
stops_done (Some all) None after done kept faults p q going judged = absurd going.tracks
stops_done (Some all) (Some left) after done kept faults p q going judged =
    let come : HasCome going.now [] going.kept p = subst (λ l. HasCome going.now l going.kept p) judged.0 going.tracks in
    let same : q.1 ≡ judged.2.0 = ap (λ (x : Position). x.1) (judged.1 ∙ judged.2.1.1) in
    let stands : StandsFor going.now judged.2.0 = ended going.now going.kept p judged.2.0 come going.few judged.2.1 in (
      listed_all 0 all faults going.now judged.2.0 going.leads stands,
      λ none.
          let leads : all ≡ going.now = subst (λ fs. LeadsTo 0 all fs going.now) none going.leads in
          subst (λ x. StandsFor x q.1) (sym leads) (subst (StandsFor going.now) (sym same) stands),
    )

-- the election that is handed out there: the one of the rows that were accepted, where none was left out
pub handed_done : (all : Option (List Fields)) (faults : List ReadFault) (e : ElectionView) (election : Option ElectionView) → IfSome all (λ records. AreListed 0 records faults × (faults ≡ [] → StandsFor records e)) → (faults ≡ [] → election ≡ Some e) → (faults ≢ [] → election ≡ None) →
    IfSome all (λ records. IsHandedOut records faults election)
handed_done None faults e election stops whole faulty = tt
handed_done (Some all) [] e election stops whole faulty = subst (λ x. IsHandedOut all [] x) (sym (whole refl)) (refl, stops.1 refl)
handed_done (Some all) (first ∷ more) e election stops whole faulty = subst (λ x. IsHandedOut all (first ∷ more) x) (sym (faulty (λ e. cc))) (λ e. cc)

-- none is handed out beside a fault
pub none_handed : (all : Option (List Fields)) (faults new : List ReadFault) (fault : ReadFault) → new ≡ faults ++ fault ∷ [] → IfSome all (λ records. IsHandedOut records new None)
none_handed None faults new fault pushed = tt
none_handed (Some all) [] new fault pushed = subst (λ fs. IsHandedOut all fs None) (sym pushed) (λ e. cc)
none_handed (Some all) (first ∷ more) new fault pushed = subst (λ fs. IsHandedOut all fs None) (sym pushed) (λ e. cc)

-- a kind that was found, and one at which reading ends
pub ends_at : (kind : ReadKind) (found : Option ReadKind) → Explains kind found → EndsAt kind found
ends_at kinds.ReadFailed found said = tt
ends_at kinds.NoMemory found said = tt
ends_at kind found said = said

explained_unless : (kind : ReadKind) (found : Option ReadKind) → Explains kind found → kind ≢ kinds.NoMemory → found ≡ Some kind
explained_unless kinds.NoMemory found said other = absurd (other refl)
explained_unless kind found said other = said

-- a kind that is not left out at a stage is not at another one, which is the same unless memory was refused
ends_both : (q p : Position) (kind : ReadKind) → (kind ≢ kinds.NoMemory → q ≡ p) → leaves_out q.0 kind ≡ false → leaves_out p.0 kind ≡ false
ends_both q p kinds.NoMemory stays ends = memory_ends p.0
  where
    memory_ends : (stage : Stage) → leaves_out stage kinds.NoMemory ≡ false
    memory_ends (InProjects columns) = refl
    memory_ends (InVotes columns) = refl
    memory_ends stage = refl
ends_both q p kind stays ends = subst (λ (x : Position). leaves_out x.0 kind ≡ false) (stays (λ e. cc)) ends

pub refusal_judged : (q p : Position) (found : Option ReadKind) (kind : ReadKind) (verdict : Verdict) → Explains kind found → (kind ≢ kinds.NoMemory → q ≡ p) → IsRefusal q.0 kind verdict → IsVerdict found p q verdict
refusal_judged q p found kind Passes said stays refusal = absurd refusal
refusal_judged q p found kind Done said stays refusal = absurd refusal
refusal_judged q p found kind (LeavesOut other) said stays refusal = (
  explained_unless kind found said refusal.1 ∙ ap (λ k. Some k) (sym refusal.0),
  stays refusal.1,
  subst (λ k. leaves_out p.0 k ≡ true) (sym refusal.0) (subst (λ (x : Position). leaves_out x.0 kind ≡ true) (stays refusal.1) refusal.2),
)
refusal_judged q p found kind (Ends other) said stays refusal =
    (subst (λ k. EndsAt k found) (sym refusal.0) (ends_at kind found said), subst (λ k. leaves_out p.0 k ≡ false) (sym refusal.0) (ends_both q p kind stays refusal.1))

-- the kind that applies to a record that is text
text_lowest : (kept : ℕ) (p : Position) (next : Fields) (rest : List Fields) → AllText next → lowest_kind kept p (next ∷ rest) ≡ text_fault kept p (trimmed next)
text_lowest kept p next rest text =
    ap (λ t. cond (not t) (Some kinds.NotText) (cond (kept == most_records) (Some kinds.TooManyRecords) (row_fault p (next_row (trimmed next))))) (test-from_AllText next text)

-- and to one that is none
no_text_lowest : (kept : ℕ) (p : Position) (next : Fields) (rest : List Fields) → ¬ AllText next → lowest_kind kept p (next ∷ rest) ≡ Some kinds.NotText
no_text_lowest kept p next rest none =
    let test : list_all is_utf8 next ≡ false = false_from_ne_true (list_all is_utf8 next) (λ e. none (AllText-from_test next e)) in
    ap (λ t. cond (not t) (Some kinds.NotText) (cond (kept == most_records) (Some kinds.TooManyRecords) (row_fault p (next_row (trimmed next))))) test

-- a kind that applies to the next record
next_judged : (kept : ℕ) (next : Fields) (rest : List Fields) (after : Option (List Fields)) (p q : Position) (verdict : Verdict) → after ≡ Some rest → IsVerdict (lowest_kind kept p (next ∷ rest)) p q verdict → Judges kept (Some (next ∷ rest)) after p q verdict
next_judged kept next rest after p q Passes goes judged = absurd judged
next_judged kept next rest after p q Done goes judged = absurd judged
next_judged kept next rest after p q (LeavesOut kind) goes judged = ((goes, judged.0), judged.1, judged.2)
next_judged kept next rest after p q (Ends kind) goes judged = (left_has kind judged.0, judged.1)
  where
    left_has : (k : ReadKind) → EndsAt k (lowest_kind kept p (next ∷ rest)) → LeftHas kept (Some (next ∷ rest)) p k
    left_has kinds.ReadFailed at = tt
    left_has kinds.NoMemory at = tt
    left_has k at = at

-- where nothing is known of what is left
unknown_judged : (kept : ℕ) (after : Option (List Fields)) (p q : Position) (found : Option ReadKind) (verdict : Verdict) → IsVerdict found p q verdict → Judges kept None after p q verdict
unknown_judged kept after p q found Passes judged = absurd judged
unknown_judged kept after p q found Done judged = absurd judged
unknown_judged kept after p q found (LeavesOut kind) judged = (tt, judged.1, judged.2)
unknown_judged kept after p q found (Ends kind) judged = (left_has kind, judged.1)
  where
    left_has : (k : ReadKind) → LeftHas kept None p k
    left_has kinds.ReadFailed = tt
    left_has kinds.NoMemory = tt
    left_has k = tt

refused_judged : (kept : ℕ) (left after : Option (List Fields)) (p q : Position) (fields : Fields) (found : Option ReadKind) (verdict : Verdict) → IsNext left after true fields → ((rest : List Fields) → lowest_kind kept p (fields ∷ rest) ≡ found) → IsVerdict found p q verdict → Judges kept left after p q verdict
refused_judged kept None after p q fields found verdict next lowest judged = unknown_judged kept after p q found verdict judged
refused_judged kept (Some []) after p q fields found verdict next lowest judged = absurd (true≢false next)
refused_judged kept (Some (first ∷ rest)) after p q fields found verdict next lowest judged =
    next_judged kept first rest after p q verdict next.2 (subst (λ f. IsVerdict f p q verdict) (sym (lowest rest) ∙ ap (λ x. lowest_kind kept p (x ∷ rest)) next.1) judged)

-- a row that is text was judged
text_refused : (kept : ℕ) (left after : Option (List Fields)) (p q : Position) (row : Fields) (verdict : Verdict) → IsNextRow left after true row → IsVerdict (text_fault kept p row) p q verdict → Judges kept left after p q verdict
text_refused kept left after p q row verdict next judged =
    refused_judged kept left after p q next.fields (text_fault kept p (trimmed next.fields)) verdict next.next (λ rest. text_lowest kept p next.fields rest next.text) (subst (λ x. IsVerdict (text_fault kept p x) p q verdict) next.row_is judged)

pub text_judged : (kept : ℕ) (left after : Option (List Fields)) (p q : Position) (row : Fields) (verdict : Verdict) → IsNextRow left after true row → JudgesRow kept row p q verdict → Judges kept left after p q verdict
text_judged kept left after p q row Passes next judged = (row, next, judged)
text_judged kept left after p q row Done next judged = absurd judged
text_judged kept left after p q row (LeavesOut kind) next judged = text_refused kept left after p q row (LeavesOut kind) next judged
text_judged kept left after p q row (Ends kind) next judged = text_refused kept left after p q row (Ends kind) next judged

-- a record that is no text
pub no_text_judged : (kept : ℕ) (left after : Option (List Fields)) (p q : Position) (verdict : Verdict) → (fields : Fields) × IsNext left after true fields × ¬ AllText fields → q ≡ p → IsRefusal q.0 kinds.NotText verdict → Judges kept left after p q verdict
no_text_judged kept left after p q verdict found stays refusal =
    refused_judged kept left after p q found.0 (Some kinds.NotText) verdict found.1 (λ rest. no_text_lowest kept p found.0 rest found.2) (refusal_judged q p (Some kinds.NotText) kinds.NotText verdict refl (λ other. stays) refusal)

-- what is listed begins with the first fault
pub listed_first : (records : List Fields) (fault : ReadFault) (more : List ReadFault) → AreListed 0 records (fault ∷ more) → IsFaultAt records fault.kind fault.at
listed_first records fault more listed =
    let same : fault.at - 0 ≡ fault.at = omega arith in
    subst (IsFaultAt records fault.kind) same listed.1

pub accepted_listed : (records : List Fields) (fault : ReadFault) (more : List ReadFault) (e : ElectionView) → AreListed 0 records (fault ∷ more) → StandsFor records e → IsFromOutside fault.kind
accepted_listed records fault more e listed stands = refused_from_outside records e fault.kind fault.at stands (listed_first records fault more listed)

pub one_longer : (faults new : List ReadFault) (fault : ReadFault) → new ≡ faults ++ fault ∷ [] → length new ≡ length faults + 1
one_longer faults new fault pushed =
    let one : List ReadFault = fault ∷ [] in
    ap length pushed ∙ length-append faults one

-- the first stop is at the first fault
pub first_stop : (all left : Option (List Fields)) (p : Position) (fault : ReadFault) (is_left_out : Bool) → StopsAt all left [] p fault is_left_out → IfSome all (λ records. IsFaultAt records fault.kind fault.at)
first_stop None left p fault is_left_out stops = tt
first_stop (Some all) left p fault true stops =
    let same : fault.at - 0 ≡ fault.at = omega arith in
    let going : Going all left fault.at (fault ∷ []) p = stops.0 (omega arith) in
    subst (IsFaultAt all fault.kind) same going.leads.1
first_stop (Some all) left p fault false stops = listed_first all fault [] stops

-- the file ends before the first stop
pub first_done : (all : Option (List Fields)) (faults : List ReadFault) (e now : ElectionView) → faults ≡ [] → IfSome all (λ records. AreListed 0 records faults × (faults ≡ [] → StandsFor records now)) → e ≡ now → IfSome all (λ records. StandsFor records e)
first_done None faults e now none stops same = tt
first_done (Some all) faults e now none stops same = subst (StandsFor all) (sym same) (stops.1 none)

-- what holds of all records
pub said_of_all : (P : List Fields → Type 0) → ((records : List Fields) → P records) → (all : Option (List Fields)) → IfSome all P
said_of_all P holds None = tt
said_of_all P holds (Some records) = holds records
