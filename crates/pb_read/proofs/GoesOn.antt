-- Records that were read without fault may go on to stand for an election; after a fault nothing helps.
use Rattle.std.proofs.Common.{◌≡◌, ◌≤◌, ◌==◌, Bool, true, false, cond, not, List, [], ◌∷◌, ◌++◌, length, map, filter, Option, Some, None, Result, Ok, Err, refl, ap, sym, ◌∙◌, subst, arith, append_assoc, length-append}
use Rattle.std.specs.Prelude.{codes}
use Rattle.std.specs.List.{AllByRecursion, list_all}
use Rattle.std.specs.Str.{is_utf8, trim_start, trim_end, chars}
use Rattle.std.proofs.lemmas.Bool.{eqb-true, and_parts, and_from, false≢true}
use Rattle.std.proofs.lemmas.List.{append-nil, map-append}
use Rattle.std.proofs.lemmas.List.Elements.{filter-append}
use Rattle.std.proofs.lemmas.Str.{IsUtf8-from_is_utf8, is_utf8-from_IsUtf8}
use Rattle.csv.specs.Records.{AllText}
use lib.Utf8.{encode}
use Rattle.pb_core.specs.Election.{ElectionView, IsElection}
use Rattle.pb_rows.specs.Reading.{Fields}
use Rattle.pb_read.proofs.Alike.{at_just}
use Rattle.pb_read.proofs.LowestKind.{lowest_applies}
use Rattle.pb_read.proofs.Keeps.{IsTidy, IsTidy-trimmed, kept, next_follows, opening_is_election}
use Rattle.pb_read.proofs.ListFacts.{some≢none, ok≢err, same_Ok, AllByRecursion-append, AllByRecursion-left, AllByRecursion-right}
use Rattle.pb_read.proofs.MachineLaws.{run-append}
use Rattle.pb_read.proofs.Runs.{AreFull, run_fault, run_onto, run_row, runs}
use Rattle.pb_read.specs.Inner.Forms.{next_row}
use Rattle.pb_read.specs.Stages.{the_end, blank}
use Rattle.pb_read.specs.declared.progress.Stage.TheVariants.{Start, Header, InMeta, InProjects, InVotes}
use Rattle.pb_read.specs.declared.section.Section.TheVariants as section
use Rattle.pb_read.specs.FirstFault.{HasNoFault, IsFirstFault}
use Rattle.pb_read.specs.Inner.Opening.{no_terms}
use Rattle.pb_read.specs.Inner.Positions.{IsJustAt}
use Rattle.pb_read.specs.Inner.Machine.{Position, start, advance, bind, run, step, row_fault, lowest_kind}
use Rattle.pb_read.specs.Inner.Tracking.{Reached}
use Rattle.pb_read.specs.Inner.Fields.{trimmed}
use Rattle.pb_read.specs.Rows.{head_of, is_blank, rows_of}
use Rattle.pb_read.specs.StandsFor.{Describes, GivesAll, StandsFor, most_records}
use Rattle.pb_read.specs.declared.columns.VoteColumns.{VoteColumns}
use Rattle.pb_read.specs.declared.fault.ReadKind.{ReadKind}
use Rattle.pb_read.specs.declared.fault.ReadKind.TheVariants as kinds

pub rows_of-append : (xs ys : List Fields) → rows_of (xs ++ ys) ≡ rows_of xs ++ rows_of ys
rows_of-append xs ys = ap (filter (λ row. not (is_blank row))) (map-append trimmed xs ys) ∙ filter-append (λ row. not (is_blank row)) (map trimmed xs) (map trimmed ys)

rows_of-full : (r : Fields) (rest : List Fields) → is_blank (trimmed r) ≡ false → rows_of (r ∷ rest) ≡ trimmed r ∷ rows_of rest
rows_of-full r rest full = ap (λ t. cond (not t) (trimmed r ∷ rows_of rest) (rows_of rest)) full

rows_of-blank : (r : Fields) (rest : List Fields) → is_blank (trimmed r) ≡ true → rows_of (r ∷ rest) ≡ rows_of rest
rows_of-blank r rest none = ap (λ t. cond (not t) (trimmed r ∷ rows_of rest) (rows_of rest)) none

-- of each row that counts holds what holds of the trimmed records
AllByRecursion-rows_of : (P : Fields → Type 0) (records : List Fields) → AllByRecursion (λ r. is_blank (trimmed r) ≡ false → P (trimmed r)) records → AllByRecursion P (rows_of records)
AllByRecursion-rows_of P [] all = tt
AllByRecursion-rows_of P (r ∷ records) all = go (is_blank (trimmed r)) refl (AllByRecursion-rows_of P records all.1)
  where
    go : (none : Bool) → is_blank (trimmed r) ≡ none → AllByRecursion P (rows_of records) → AllByRecursion P (cond (not none) (trimmed r ∷ rows_of records) (rows_of records))
    go true e rest = rest
    go false e rest = (all.0 e, rest)

pub AllByRecursion-from : {X : Type 0} (P : X → Type 0) → ((x : X) → P x) → (xs : List X) → AllByRecursion P xs
AllByRecursion-from P all [] = tt
AllByRecursion-from P all (x ∷ xs) = (all x, AllByRecursion-from P all xs)

AllByRecursion-weaker : {X : Type 0} (P Q : X → Type 0) → ((x : X) → P x → Q x) → (xs : List X) → AllByRecursion P xs → AllByRecursion Q xs
AllByRecursion-weaker P Q f [] all = tt
AllByRecursion-weaker P Q f (x ∷ xs) all = (f x all.0, AllByRecursion-weaker P Q f xs all.1)

pub rows_of-are_full : (records : List Fields) → AreFull (rows_of records)
rows_of-are_full records = AllByRecursion-rows_of _ records (AllByRecursion-from _ (λ r full. full) records)

pub rows_of-are_tidy : (records : List Fields) → AllByRecursion AllText records → AllByRecursion IsTidy (rows_of records)
rows_of-are_tidy records text = AllByRecursion-rows_of IsTidy records (AllByRecursion-weaker AllText _ (λ r t full. IsTidy-trimmed r t) records text)

-- the test of text decides it
pub AllText-from_test : (r : Fields) → list_all is_utf8 r ≡ true → AllText r
unfolding AllText
AllText-from_test [] e = tt
AllText-from_test (f ∷ fields) e =
    let parts = and_parts (is_utf8 f) (list_all is_utf8 fields) e in
    (IsUtf8-from_is_utf8 f parts.0, AllText-from_test fields parts.1)

pub test-from_AllText : (r : Fields) → AllText r → list_all is_utf8 r ≡ true
unfolding AllText
test-from_AllText [] t = refl
test-from_AllText (f ∷ fields) t = and_from (is_utf8 f) (list_all is_utf8 fields) (is_utf8-from_IsUtf8 f t.0) (test-from_AllText fields t.1)

are_text : (records : List Fields) → list_all (list_all is_utf8) records ≡ true → AllByRecursion AllText records
are_text [] e = tt
are_text (r ∷ records) e =
    let parts = and_parts (list_all is_utf8 r) (list_all (list_all is_utf8) records) e in
    (AllText-from_test r parts.0, are_text records parts.1)

-- rows that complete a file from each stage
abbrev vote_header : List Fields
vote_header = (codes "voter_id" ∷ codes "vote" ∷ []) ∷ []

abbrev votes : List Fields
votes = (codes "VOTES" ∷ []) ∷ vote_header

abbrev project_header : List Fields
project_header = (codes "project_id" ∷ codes "cost" ∷ []) ∷ votes

abbrev meta_rows : List Fields
meta_rows = (codes "budget" ∷ codes "0" ∷ []) ∷ (codes "vote_type" ∷ codes "approval" ∷ []) ∷ (codes "max_length" ∷ []) ∷ (codes "PROJECTS" ∷ []) ∷ project_header

abbrev meta_header : List Fields
meta_header = (codes "key" ∷ codes "value" ∷ []) ∷ meta_rows

abbrev completion : Position → List Fields
completion (Start, e) = (codes "META" ∷ []) ∷ meta_header
completion (Header section.Meta, e) = meta_header
completion (InMeta meta, e) = meta_rows
completion (Header section.Projects, e) = project_header
completion (InProjects columns, e) = votes
completion (Header section.Votes, e) = vote_header
completion (InVotes columns, e) = []

completes : (p : Position) → (columns : VoteColumns) × (e : ElectionView) × (run p (completion p) ≡ Ok (InVotes columns, e))
unfolding step row_fault head_of
completes (Start, e) = (_, _, refl)
completes (Header section.Meta, e) = (_, _, refl)
completes (InMeta meta, e) = (_, _, refl)
completes (Header section.Projects, e) = (_, _, refl)
completes (InProjects columns, e) = (_, _, refl)
completes (Header section.Votes, e) = (_, _, refl)
completes (InVotes columns, e) = (columns, e, refl)

completion_rows : (p : Position) → rows_of (completion p) ≡ completion p
unfolding trim_start trim_end chars encode
completion_rows (Start, e) = refl
completion_rows (Header section.Meta, e) = refl
completion_rows (InMeta meta, e) = refl
completion_rows (Header section.Projects, e) = refl
completion_rows (InProjects columns, e) = refl
completion_rows (Header section.Votes, e) = refl
completion_rows (InVotes columns, e) = refl

completion_text : (p : Position) → list_all (list_all is_utf8) (completion p) ≡ true
unfolding is_utf8 chars encode
completion_text (Start, e) = refl
completion_text (Header section.Meta, e) = refl
completion_text (InMeta meta, e) = refl
completion_text (Header section.Projects, e) = refl
completion_text (InProjects columns, e) = refl
completion_text (Header section.Votes, e) = refl
completion_text (InVotes columns, e) = refl

-- rows without fault, one after another
pub run_keeps : (p q : Position) (rows more : List Fields) → AreFull more → AllByRecursion IsTidy more → IsJustAt rows p → IsElection p.1 → run p more ≡ Ok q → IsJustAt (rows ++ more) q × IsElection q.1
run_keeps p q rows [] full tidy at sound e =
    let same : p ≡ q = cc in
    subst (λ x. IsJustAt (rows ++ []) x × IsElection x.1) same (subst (λ xs. IsJustAt xs p) (sym (append-nil rows)) at, sound)
run_keeps p q rows (row ∷ more) full tidy at sound e = go (run_keeps (advance p (next_row row)) q (rows ++ row ∷ []) more full.1 tidy.1) (row_fault p (next_row row)) refl
  where
    go : (IsJustAt (rows ++ row ∷ []) (advance p (next_row row)) → IsElection ((advance p (next_row row)).1) → run (advance p (next_row row)) more ≡ Ok q → IsJustAt ((rows ++ row ∷ []) ++ more) q × IsElection q.1) →
        (fault : Option ReadKind) → row_fault p (next_row row) ≡ fault → IsJustAt (rows ++ row ∷ more) q × IsElection q.1
    go later (Some kind) f = absurd (ok≢err (sym e ∙ run_fault p row more kind f))
    go later None f =
        let next = kept p (next_row row) rows row (next_follows row full.0) tidy.0 f at sound in
        let rest = later next.0 next.1 (sym (run_row p row more (next_row row) refl f) ∙ e) in
        (subst (λ xs. IsJustAt xs q) (append_assoc rows (row ∷ []) more) rest.0, rest.1)

pub blank_passes : (p : Position) → row_fault p blank ≡ None
unfolding row_fault
blank_passes (Start, e) = refl
blank_passes (Header section.Meta, e) = refl
blank_passes (InMeta meta, e) = refl
blank_passes (Header section.Projects, e) = refl
blank_passes (InProjects columns, e) = refl
blank_passes (Header section.Votes, e) = refl
blank_passes (InVotes columns, e) = refl

pub advance-blank : (p : Position) → advance p blank ≡ p
advance-blank (Start, e) = refl
advance-blank (Header section.Meta, e) = refl
advance-blank (InMeta meta, e) = refl
advance-blank (Header section.Projects, e) = refl
advance-blank (InProjects columns, e) = refl
advance-blank (Header section.Votes, e) = refl
advance-blank (InVotes columns, e) = refl

pub reached_start : Reached [] start
reached_start = record { text = tt; at = (refl, refl); sound = opening_is_election no_terms (omega arith) }

pub next_row-blank : (row : Fields) → is_blank row ≡ true → next_row row ≡ blank
next_row-blank row none = rw none refl

-- one record without fault
pub reached_next : (done : List Fields) (p : Position) (r : Fields) → Reached done p → AllText r → row_fault p (next_row (trimmed r)) ≡ None → Reached (done ++ r ∷ []) (advance p (next_row (trimmed r)))
reached_next done p r so_far text none = go (is_blank (trimmed r)) refl
  where
    all_text : AllByRecursion AllText (done ++ r ∷ [])
    all_text = AllByRecursion-append AllText done (r ∷ []) so_far.text (text, tt)

    go : (no_field : Bool) → is_blank (trimmed r) ≡ no_field → Reached (done ++ r ∷ []) (advance p (next_row (trimmed r)))
    go true e =
        let rows : rows_of (done ++ r ∷ []) ≡ rows_of done = rows_of-append done (r ∷ []) ∙ ap (λ xs. rows_of done ++ xs) (rows_of-blank r [] e) ∙ append-nil (rows_of done) in
        let stays : p ≡ advance p (next_row (trimmed r)) = sym (ap (advance p) (next_row-blank (trimmed r) e) ∙ advance-blank p) in
        subst (λ q. Reached (done ++ r ∷ []) q) stays (record { text = all_text; at = subst (λ xs. IsJustAt xs p) (sym rows) so_far.at; sound = so_far.sound })
    go false e =
        let rows : rows_of (done ++ r ∷ []) ≡ rows_of done ++ trimmed r ∷ [] = rows_of-append done (r ∷ []) ∙ ap (λ xs. rows_of done ++ xs) (rows_of-full r [] e) in
        let next = kept p (next_row (trimmed r)) (rows_of done) (trimmed r) (next_follows (trimmed r) e) (IsTidy-trimmed r text) none so_far.at so_far.sound in
        record { text = all_text; at = subst (λ xs. IsJustAt xs (advance p (next_row (trimmed r)))) (sym rows) next.0; sound = next.1 }

-- more records may follow so that all of them describe an election
abbrev pub MayGoOn : List Fields → Type 0
MayGoOn records = (more : List Fields) × (e : ElectionView) × Describes (records ++ more) e

-- where a file has come without fault, some records complete it
pub goes_on : (done : List Fields) (p : Position) → Reached done p → MayGoOn done
goes_on done p so_far =
    let q = completes p in
    let more : List Fields = completion p in
    let text : AllByRecursion AllText more = are_text more (completion_text p) in
    let ran : run p (rows_of more) ≡ Ok (InVotes q.0, q.1) = ap (run p) (completion_rows p) ∙ q.2 in
    let all = run_keeps p (InVotes q.0, q.1) (rows_of done) (rows_of more) (rows_of-are_full more) (rows_of-are_tidy more text) so_far.at so_far.sound ran in (
      more,
      q.1,
      record {
        text = AllByRecursion-append AllText done more so_far.text text;
        columns = q.0;
        rows = subst (GivesAll q.0 q.1) (sym (rows_of-append done more)) all.0;
        is_election = all.1;
      },
    )

-- after a record that is no text nothing helps
pub no_text_ends : (done : List Fields) (r : Fields) → ¬ AllText r → ¬ MayGoOn (done ++ r ∷ [])
no_text_ends done r none way =
    let all : AllByRecursion AllText (done ++ r ∷ []) = AllByRecursion-left AllText (done ++ r ∷ []) way.0 way.2.text in
    none (AllByRecursion-right AllText done (r ∷ []) all).0

pub run_from_start : (done : List Fields) (p : Position) → Reached done p → run start (rows_of done) ≡ Ok p
run_from_start done p so_far = runs p (rows_of done) (rows_of-are_full done) so_far.at so_far.sound

-- after a record at fault nothing helps
pub fault_ends : (done : List Fields) (p : Position) (r : Fields) (kind : ReadKind) → Reached done p → row_fault p (next_row (trimmed r)) ≡ Some kind → ¬ MayGoOn (done ++ r ∷ [])
fault_ends done p r kind so_far fault way = go (is_blank (trimmed r)) refl
  where
    records : List Fields
    records = (done ++ r ∷ []) ++ way.0

    whole : run start (rows_of ((done ++ r ∷ []) ++ way.0)) ≡ Ok (InVotes way.2.columns, way.1)
    whole = runs (InVotes way.2.columns, way.1) (rows_of ((done ++ r ∷ []) ++ way.0)) (rows_of-are_full ((done ++ r ∷ []) ++ way.0)) way.2.rows way.2.is_election

    go : (no_field : Bool) → is_blank (trimmed r) ≡ no_field → ⊥
    go true e = some≢none (sym fault ∙ ap (row_fault p) (next_row-blank (trimmed r) e) ∙ blank_passes p)
    go false e =
        let rows : rows_of ((done ++ r ∷ []) ++ way.0) ≡ rows_of done ++ trimmed r ∷ rows_of way.0 =
        ap rows_of (append_assoc done (r ∷ []) way.0) ∙ rows_of-append done (r ∷ way.0) ∙ ap (λ xs. rows_of done ++ xs) (rows_of-full r way.0 e) in
        ok≢err (sym whole ∙ ap (run start) rows ∙ run_onto start p (rows_of done) (trimmed r ∷ rows_of way.0) (run_from_start done p so_far) ∙ run_fault p (trimmed r) (rows_of way.0) kind fault)

votes_end : (columns : VoteColumns) (e : ElectionView) → row_fault (InVotes columns, e) the_end ≡ None
unfolding row_fault
votes_end columns e = refl

-- where the file ends at fault, it stands for nothing
pub end_ends : (done : List Fields) (p : Position) (kind : ReadKind) → Reached done p → row_fault p the_end ≡ Some kind → (e : ElectionView) → ¬ StandsFor done e
end_ends done p kind so_far fault e stands =
    let whole : run start (rows_of done) ≡ Ok (InVotes stands.describes.columns, e) =
    runs (InVotes stands.describes.columns, e) (rows_of done) (rows_of-are_full done) stands.describes.rows stands.describes.is_election in
    let same : p ≡ (InVotes stands.describes.columns, e) = same_Ok (sym (run_from_start done p so_far) ∙ whole) in
    some≢none (sym fault ∙ ap (λ x. row_fault x the_end) same ∙ votes_end stands.describes.columns e)

-- where the file ends without fault, it stands for the election
pub end_stands : (done : List Fields) (columns : VoteColumns) (e : ElectionView) → length done ≤ most_records → Reached done (InVotes columns, e) → StandsFor done e
end_stands done columns e few so_far = record {
  few = few;
  describes = record { text = so_far.text; columns = columns; rows = so_far.at; is_election = so_far.sound };
}

pub no_fault_so_far : (done : List Fields) (p : Position) → length done ≤ most_records → Reached done p → HasNoFault done
no_fault_so_far done p few so_far =
    let way = goes_on done p so_far in
    (few, way.0, way.1, way.2)

-- the first of the records that are left is at fault: those before it have no fault, and with it they have;
-- where none is left, those that were read stand for no election
abbrev pub IsAtFault : List Fields → List Fields → Type 0
IsAtFault done [] = (e : ElectionView) → ¬ StandsFor done e
IsAtFault done (next ∷ rest) = ¬ HasNoFault (done ++ next ∷ [])

-- where a kind applies, it is
pub is_at_fault : (done left : List Fields) (p : Position) (kind : ReadKind) → Reached done p → lowest_kind (length done) p left ≡ Some kind → IsAtFault done left
is_at_fault done [] p kind so_far e = end_ends done p kind so_far e
is_at_fault done (r ∷ rest) p kind so_far e = by_text (list_all is_utf8 r) refl e
  where
    full : length done ≡ most_records → ¬ HasNoFault (done ++ r ∷ [])
    full n none = omega (arith, n, none.0, length-append done (r ∷ []))

    by_count : (all : Bool) → (length done == most_records) ≡ all → cond all (Some kinds.TooManyRecords) (row_fault p (next_row (trimmed r))) ≡ Some kind → ¬ HasNoFault (done ++ r ∷ [])
    by_count true n f = full (eqb-true (length done) most_records n)
    by_count false n f = λ none. fault_ends done p r kind so_far f (none.1, none.2, none.3)

    by_text : (text : Bool) → list_all is_utf8 r ≡ text →
        cond (not text) (Some kinds.NotText) (cond (length done == most_records) (Some kinds.TooManyRecords) (row_fault p (next_row (trimmed r)))) ≡ Some kind →
        ¬ HasNoFault (done ++ r ∷ [])
    by_text false t f = λ none. no_text_ends done r (λ text. false≢true (sym t ∙ test-from_AllText r text)) (none.1, none.2, none.3)
    by_text true t f = by_count (length done == most_records) refl f

-- the lowest kind that applies is the first fault
pub first_fault : (done left : List Fields) (p : Position) (kind : ReadKind) → Reached done p → lowest_kind (length done) p left ≡ Some kind → IsFirstFault done left kind
first_fault done left p kind so_far lowest =
    let found = lowest_applies (length done) p left kind lowest in
    record { stage = p; so_far = at_just (rows_of done) p so_far.at; applies = found.0; lowest = found.1 }

bind_ok : (r : Result Position ReadKind) (f : Position → Result Position ReadKind) (q : Position) → bind r f ≡ Ok q → (p : Position) × (r ≡ Ok p)
bind_ok (Ok p) f q e = (p, refl)
bind_ok (Err kind) f q e = absurd (ok≢err (sym e))

-- records without a fault were read to some position
pub reached_without_fault : (done : List Fields) → HasNoFault done → (p : Position) × Reached done p
reached_without_fault done way =
    let all : Describes (done ++ way.1) way.2 = way.3 in
    let text : AllByRecursion AllText done = AllByRecursion-left AllText done way.1 all.text in
    let whole = runs (InVotes all.columns, way.2) (rows_of (done ++ way.1)) (rows_of-are_full (done ++ way.1)) all.rows all.is_election in
    let split = sym (run-append start (rows_of done) (rows_of way.1)) ∙ ap (run start) (sym (rows_of-append done way.1)) ∙ whole in
    let ran = bind_ok (run start (rows_of done)) (λ p. run p (rows_of way.1)) (InVotes all.columns, way.2) split in
    let at = run_keeps start ran.0 [] (rows_of done) (rows_of-are_full done) (rows_of-are_tidy done text) reached_start.at reached_start.sound ran.1 in
    (ran.0, record { text = text; at = at.0; sound = at.1 })
