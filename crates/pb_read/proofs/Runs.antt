-- What stands runs: rows that have come so far are read without fault, to that position.
use Rattle.std.proofs.Common.{◌≡◌, ◌≢◌, ◌<◌, ℕ, false, cond, List, [], ◌∷◌, ◌++◌, length, map, All, Contains, Some, None, Ok, Err, refl, ap, sym, ◌∙◌, subst, arith, append_assoc, length-append}
use Rattle.std.specs.Option.{option_map_or}
use Rattle.std.specs.Prelude.{is_none}
use Rattle.std.specs.List.{AllByRecursion, AllZip}
use Rattle.std.proofs.lemmas.Bool.{false_from_ne_true}
use Rattle.std.proofs.lemmas.List.{append-nil, map-append, get_or_append_left}
use Rattle.std.proofs.lemmas.List.Elements.{All-contains, Contains-append_right}
use Rattle.std.proofs.Math.Seq.{get_or-append_seam}
use Rattle.pb_core.specs.Inner.Ids.{AreDistinct}
use Rattle.pb_core.specs.Election.{ElectionView, ProjectView, VoterView, IsElection, IsProject, IsVoter, project_ids}
use Rattle.pb_core.specs.Inner.Terms.{opening, terms_of}
use Rattle.pb_rows.specs.Reading.{Fields}
use Rattle.pb_read.proofs.ListFacts.{IsPlain, Contains-is_among, AllByRecursion-left, AllByRecursion-right}
use Rattle.pb_read.proofs.MachineLaws.{run-append, meta_of-push, head_passes, project_passes, vote_passes, PassesProject, PassesVote}
use Rattle.pb_read.specs.Inner.Forms.{meta_for, next_row}
use Rattle.pb_read.specs.Columns.{project_columns, vote_columns}
use Rattle.pb_read.specs.Stages.{Next, head, plain}
use Rattle.pb_read.specs.declared.progress.Stage.TheVariants.{Start, Header, InMeta, InProjects, InVotes}
use Rattle.pb_read.specs.Inner.Positions.{IsJustAt}
use Rattle.pb_read.specs.Inner.Machine.{Position, start, advance, amount_of, project_of, voter_of, run, bind, step, step_or, row_fault}
use Rattle.pb_read.specs.MetaRows.{meta_of}
use Rattle.pb_read.specs.Rows.{field, head_of, is_blank, is_empty}
use Rattle.pb_read.specs.Inner.Opening.{empty}
use Rattle.pb_read.specs.StandsFor.{EndsIn, GivesAll, GivesAllButVoters, GivesProject, GivesVoter, IsMeta}
use Rattle.pb_read.specs.Voting.{is_among}
use Rattle.pb_read.specs.declared.columns.ProjectColumns.{ProjectColumns}
use Rattle.pb_read.specs.declared.columns.VoteColumns.{VoteColumns}
use Rattle.pb_read.specs.declared.fault.ReadKind.{ReadKind}
use Rattle.pb_read.specs.declared.fault.ReadKind.TheVariants as kind
use Rattle.pb_read.specs.declared.meta.Meta.{Meta}
use Rattle.pb_read.specs.declared.section.Section.{Section}
use Rattle.pb_read.specs.declared.section.Section.TheVariants as section

abbrev pub AreFull : List Fields → Type 0
AreFull rows = AllByRecursion (λ row. is_blank row ≡ false) rows

abbrev Runs : Position → List Fields → Position → Type 0
Runs p rows q = run p rows ≡ Ok q

-- one row without fault
pub run_row : (p : Position) (row : Fields) (rest : List Fields) (n : Next) → next_row row ≡ n → row_fault p n ≡ None → run p (row ∷ rest) ≡ run (advance p n) rest
unfolding step
run_row p row rest n is none =
    ap (λ m. bind (step p m) (λ q. run q rest)) is ∙ ap (λ r. bind (step_or r (advance p n)) (λ q. run q rest)) none

-- one row at fault
pub run_fault : (p : Position) (row : Fields) (rest : List Fields) (kind : ReadKind) → row_fault p (next_row row) ≡ Some kind → run p (row ∷ rest) ≡ Err kind
unfolding step
run_fault p row rest kind fault = ap (λ r. bind (step_or r (advance p (next_row row))) (λ q. run q rest)) fault

-- rows after others
pub run_onto : (p q : Position) (front rest : List Fields) → run p front ≡ Ok q → run p (front ++ rest) ≡ run q rest
run_onto p q front rest e = run-append p front rest ∙ ap (λ r. bind r (λ x. run x rest)) e

next_plain : (row : Fields) → is_blank row ≡ false → IsPlain row → next_row row ≡ plain row
next_plain row full is = rw (full, is) refl

next_head : (row : Fields) (name : Section) → is_blank row ≡ false → head_of row ≡ Some name → next_row row ≡ head name
next_head row name full is = rw (full, is) refl

meta_opens : row_fault start (head section.Meta) ≡ None
unfolding row_fault
meta_opens = refl

header_passes : (e : ElectionView) (r : Fields) → row_fault (Header section.Meta, e) (plain r) ≡ None
unfolding row_fault
header_passes e r = refl

pub meta_row_passes : (meta : Meta) (e : ElectionView) (r : Fields) → row_fault (InMeta meta, e) (plain r) ≡ None
unfolding row_fault
meta_row_passes meta e r = refl

project_header_passes : (e : ElectionView) (header : Fields) (columns : ProjectColumns) → project_columns header ≡ Some columns → row_fault (Header section.Projects, e) (plain header) ≡ None
unfolding row_fault
project_header_passes e header columns c = ap (λ o. cond (is_none o) (Some kind.MissingColumn) None) c

vote_header_passes : (e : ElectionView) (header : Fields) (columns : VoteColumns) → vote_columns header ≡ Some columns → row_fault (Header section.Votes, e) (plain header) ≡ None
unfolding row_fault
vote_header_passes e header columns c = ap (λ o. cond (is_none o) (Some kind.MissingColumn) None) c

votes_open : (columns : ProjectColumns) (e : ElectionView) → row_fault (InProjects columns, e) (head section.Votes) ≡ None
unfolding row_fault
votes_open columns e = refl

run_meta_body : (e : ElectionView) (done body : List Fields) → AllByRecursion IsPlain body → AreFull body → Runs (InMeta (meta_of done), e) body (InMeta (meta_of (done ++ body)), e)
run_meta_body e done [] plain_rows full = ap (λ rows. Ok (InMeta (meta_of rows), e)) (sym (append-nil done))
run_meta_body e done (row ∷ body) plain_rows full =
    run_row (InMeta (meta_of done), e) row body (plain row) (next_plain row full.0 plain_rows.0) (meta_row_passes (meta_of done) e row)
    ∙ ap (λ m. run (InMeta m, e) body) (sym (meta_of-push done row))
    ∙ run_meta_body e (done ++ row ∷ []) body plain_rows.1 full.1
    ∙ ap (λ rows. Ok (InMeta (meta_of rows), e)) (append_assoc done (row ∷ []) body)

run_meta : (rows : List Fields) (meta : Meta) → AreFull rows → IsMeta meta rows → Runs start rows (InMeta meta, empty)
run_meta rows meta full at =
    let ends = at.2 in
    let cut : rows ≡ ends.1 ∷ at.0 ∷ at.1 = ends.2 ∙ ap (λ front. front ++ ends.1 ∷ at.0 ∷ at.1) ends.3 in
    let whole : AreFull (ends.1 ∷ at.0 ∷ at.1) = subst AreFull cut full in
    ap (run start) cut
    ∙ run_row start ends.1 (at.0 ∷ at.1) (head section.Meta) (next_head ends.1 section.Meta whole.0 ends.4) meta_opens
    ∙ run_row (Header section.Meta, empty) at.0 at.1 (plain at.0) (next_plain at.0 whole.1.0 ends.5.0) (header_passes (empty) at.0)
    ∙ run_meta_body (empty) [] at.1 ends.5.1 whole.1.1
    ∙ ap (λ m. Ok (InMeta m, empty)) (sym at.3)

-- rows that end in a section, where those before it run to a position
run_ends : (Before : List Fields → Type 0) (name : Section) (body rows : List Fields) (p : Position) → (at : EndsIn Before name body rows) → Runs start at.0 p → run start rows ≡ run p (at.1 ∷ body)
run_ends Before name body rows p at front = ap (run start) at.2 ∙ run_onto start p at.0 (at.1 ∷ body) front

full_front : (Before : List Fields → Type 0) (name : Section) (body rows : List Fields) → (at : EndsIn Before name body rows) → AreFull rows → AreFull at.0
full_front Before name body rows at full = AllByRecursion-left _ at.0 (at.1 ∷ body) (subst AreFull at.2 full)

full_back : (Before : List Fields → Type 0) (name : Section) (body rows : List Fields) → (at : EndsIn Before name body rows) → AreFull rows → AreFull (at.1 ∷ body)
full_back Before name body rows at full = AllByRecursion-right _ at.0 (at.1 ∷ body) (subst AreFull at.2 full)

run_terms : (of e : ElectionView) (row : Fields) (rest : List Fields) → is_blank row ≡ false → head_of row ≡ Some section.Projects →
    run (InMeta (meta_for of), e) (row ∷ rest) ≡ run (Header section.Projects, opening (terms_of of)) rest
run_terms of e row rest full opens =
    run_row (InMeta (meta_for of), e) row rest (head section.Projects) (next_head row section.Projects full opens) (head_passes (meta_for of) e of.budget of.max_length refl refl refl)

-- rows that end with PROJECTS' head or in PROJECTS, up to behind its head
run_to_projects : (rows body : List Fields) (e : ElectionView) → AreFull rows → EndsIn (IsMeta (meta_for e)) section.Projects body rows → run start rows ≡ run (Header section.Projects, opening (terms_of e)) body
run_to_projects rows body e full at =
    run_ends (IsMeta (meta_for e)) section.Projects body rows (InMeta (meta_for e), empty) at
    (run_meta at.0 (meta_for e) (full_front (IsMeta (meta_for e)) section.Projects body rows at full) at.3)
    ∙ run_terms e (empty) at.1 body (full_back (IsMeta (meta_for e)) section.Projects body rows at full).0 at.4

-- what is true of an element in the middle
middle : {X : Type 0} (P : X → Type 0) (xs : List X) (y : X) (ys : List X) → All P (xs ++ y ∷ ys) → P y
middle P xs y ys all = All-contains P (xs ++ y ∷ ys) y all (Contains-append_right xs (y ∷ ys) y (0, omega arith, refl))

-- an id in the middle of distinct ids is not among those before it
new_in_middle : (xs : List (List ℕ)) (y : List ℕ) (ys : List (List ℕ)) → AreDistinct (xs ++ y ∷ ys) → is_among xs y ≡ false
new_in_middle xs y ys distinct =
    false_from_ne_true (is_among xs y) (λ there.
    let c : Contains xs y = Contains-is_among xs y there in
    let within : length xs < length (xs ++ y ∷ ys) = omega (arith, length-append xs (y ∷ ys)) in
    distinct c.0 (length xs) y c.1 within (get_or_append_left xs (y ∷ ys) y c.0 c.1 ∙ c.2 ∙ sym (get_or-append_seam xs y ys y)))

abbrev ids_of : List ProjectView → List (List ℕ)
ids_of ps = map (λ p. p.id) ps

abbrev voters_of : List VoterView → List (List ℕ)
voters_of vs = map (λ v. v.id) vs

full_text : (text id : List ℕ) → id ≡ text → id ≢ [] → is_empty text ≡ false
full_text [] id same full = absurd (full same)
full_text (x ∷ text) id same full = refl

passes_at : (columns : ProjectColumns) (e : ElectionView) (qs ps : List ProjectView) (p : ProjectView) (row : Fields) → GivesProject columns row p → IsElection (record e { projects = qs ++ p ∷ ps; voters = [] }) →
    PassesProject columns row (record e { projects = qs; voters = [] })
passes_at columns e qs ps p row given is =
    let project : IsProject p = middle IsProject qs p ps is.are_projects in
    let distinct : AreDistinct (ids_of qs ++ p.id ∷ ids_of ps) = subst AreDistinct (map-append (λ (x : ProjectView). x.id) qs (p ∷ ps)) is.projects_differ in
    record {
      cost = p.cost;
      whole = given.whole;
      reads = given.cost;
      costs = project.costs;
      has_id = full_text (field row columns.id) p.id given.id project.has_id;
      new_id = subst (λ id. is_among (ids_of qs) id ≡ false) given.id (new_in_middle (ids_of qs) p.id (ids_of ps) distinct);
      room = omega (arith, is.few_projects, length-append qs (p ∷ ps));
    }

run_projects_body : (columns : ProjectColumns) (e : ElectionView) (qs ps : List ProjectView) (body : List Fields) → AllZip (GivesProject columns) body ps → AllByRecursion IsPlain body → AreFull body →
    IsElection (record e { projects = qs ++ ps; voters = [] }) →
    Runs (InProjects columns, record e { projects = qs; voters = [] }) body (InProjects columns, record e { projects = qs ++ ps; voters = [] })
run_projects_body columns e qs [] [] zip plain_rows full is = ap (λ ps. Ok (InProjects columns, record e { projects = ps; voters = [] })) (sym (append-nil qs))
run_projects_body columns e qs (p ∷ ps) [] zip plain_rows full is = absurd zip
run_projects_body columns e qs [] (row ∷ body) zip plain_rows full is = absurd zip
run_projects_body columns e qs (p ∷ ps) (row ∷ body) zip plain_rows full is =
    let given : GivesProject columns row p = zip.0 in
    let same : project_of columns row ≡ p = λ i. record { id = sym given.id i; name = sym given.name i; cost = ap amount_of given.cost i } in
    run_row (InProjects columns, record e { projects = qs; voters = [] }) row body (plain row) (next_plain row full.0 plain_rows.0) (project_passes columns row (record e { projects = qs; voters = [] }) (passes_at columns e qs ps p row given is))
    ∙ ap (λ x. run (InProjects columns, record e { projects = qs ++ x ∷ []; voters = [] }) body) same
    ∙ run_projects_body columns e (qs ++ p ∷ []) ps body zip.1 plain_rows.1 full.1 (subst (λ xs. IsElection (record e { projects = xs; voters = [] })) (sym (append_assoc qs (p ∷ []) ps)) is)
    ∙ ap (λ xs. Ok (InProjects columns, record e { projects = xs; voters = [] })) (append_assoc qs (p ∷ []) ps)

run_projects : (rows : List Fields) (columns : ProjectColumns) (e : ElectionView) → AreFull rows → GivesAllButVoters columns e rows → e.voters ≡ [] → IsElection e → Runs start rows (InProjects columns, e)
run_projects rows columns e full at no_voter is =
    let ends = at.2 in
    let back : AreFull (ends.1 ∷ at.0 ∷ at.1) = full_back (IsMeta (meta_for e)) section.Projects (at.0 ∷ at.1) rows ends full in
    run_to_projects rows (at.0 ∷ at.1) e full ends
    ∙ run_row (Header section.Projects, opening (terms_of e)) at.0 at.1 (plain at.0) (next_plain at.0 back.1.0 ends.5.0) (project_header_passes (opening (terms_of e)) at.0 columns at.3)
    ∙ ap (λ o. run (option_map_or (λ c. (InProjects c, opening (terms_of e))) o (Start, opening (terms_of e))) at.1) at.3
    ∙ run_projects_body columns e [] e.projects at.1 at.4 ends.5.1 back.1.1 (subst (λ vs. IsElection (record e { voters = vs })) no_voter is)
    ∙ ap (λ vs. Ok (InProjects columns, record e { voters = vs })) (sym no_voter)

-- the same of VOTES
run_to_votes : (rows body : List Fields) (columns : ProjectColumns) (e : ElectionView) → AreFull rows → EndsIn (GivesAllButVoters columns e) section.Votes body rows → e.voters ≡ [] → IsElection e →
    run start rows ≡ run (Header section.Votes, e) body
run_to_votes rows body columns e full at no_voter is =
    run_ends (GivesAllButVoters columns e) section.Votes body rows (InProjects columns, e) at
    (run_projects at.0 columns e (full_front (GivesAllButVoters columns e) section.Votes body rows at full) at.3 no_voter is)
    ∙ run_row (InProjects columns, e) at.1 body (head section.Votes) (next_head at.1 section.Votes (full_back (GivesAllButVoters columns e) section.Votes body rows at full).0 at.4) (votes_open columns e)

vote_passes_at : (columns : VoteColumns) (e : ElectionView) (us vs : List VoterView) (v : VoterView) (row : Fields) → GivesVoter columns (project_ids e) row v → IsElection (record e { voters = us ++ v ∷ vs }) →
    PassesVote columns row (record e { voters = us })
vote_passes_at columns e us vs v row given is =
    let voter : IsVoter (length e.projects) v = middle (IsVoter (length e.projects)) us v vs is.are_voters in
    let distinct : AreDistinct (voters_of us ++ v.id ∷ voters_of vs) = subst AreDistinct (map-append (λ (x : VoterView). x.id) us (v ∷ vs)) is.voters_differ in
    record {
      whole = given.whole;
      has_id = full_text (field row columns.voter) v.id given.id voter.has_id.not_empty;
      new_id = subst (λ id. is_among (voters_of us) id ≡ false) given.id (new_in_middle (voters_of us) v.id (voters_of vs) distinct);
      known = given.known;
      room = omega (arith, is.few_voters, length-append us (v ∷ vs));
    }

run_votes_body : (columns : VoteColumns) (e : ElectionView) (us vs : List VoterView) (body : List Fields) → AllZip (GivesVoter columns (project_ids e)) body vs → AllByRecursion IsPlain body → AreFull body →
    IsElection (record e { voters = us ++ vs }) →
    Runs (InVotes columns, record e { voters = us }) body (InVotes columns, record e { voters = us ++ vs })
run_votes_body columns e us [] [] zip plain_rows full is = ap (λ xs. Ok (InVotes columns, record e { voters = xs })) (sym (append-nil us))
run_votes_body columns e us (v ∷ vs) [] zip plain_rows full is = absurd zip
run_votes_body columns e us [] (row ∷ body) zip plain_rows full is = absurd zip
run_votes_body columns e us (v ∷ vs) (row ∷ body) zip plain_rows full is =
    let given : GivesVoter columns (project_ids e) row v = zip.0 in
    let same : voter_of columns (project_ids e) row ≡ v = λ i. record { id = sym given.id i; ballot = sym given.ballot i } in
    run_row (InVotes columns, record e { voters = us }) row body (plain row) (next_plain row full.0 plain_rows.0) (vote_passes columns row (record e { voters = us }) (vote_passes_at columns e us vs v row given is))
    ∙ ap (λ x. run (InVotes columns, record e { voters = us ++ x ∷ [] }) body) same
    ∙ run_votes_body columns e (us ++ v ∷ []) vs body zip.1 plain_rows.1 full.1 (subst (λ xs. IsElection (record e { voters = xs })) (sym (append_assoc us (v ∷ []) vs)) is)
    ∙ ap (λ xs. Ok (InVotes columns, record e { voters = xs })) (append_assoc us (v ∷ []) vs)

pub without_voters_is_election : (e : ElectionView) → IsElection e → IsElection (record e { voters = [] })
without_voters_is_election e is = record {
  budget_bounded = is.budget_bounded;
  few_projects = is.few_projects;
  few_voters = omega arith;
  are_projects = is.are_projects;
  are_voters = λ k d below. absurd (omega (arith, below));
  projects_differ = is.projects_differ;
  voters_differ = λ i j d above below. absurd (omega (arith, below));
}

run_votes : (rows : List Fields) (columns : VoteColumns) (e : ElectionView) → AreFull rows → GivesAll columns e rows → IsElection e → Runs start rows (InVotes columns, e)
run_votes rows columns e full all is =
    let ends = all.3 in
    let before : ElectionView = record e { voters = [] } in
    let back : AreFull (ends.1 ∷ all.1 ∷ all.2) = full_back (GivesAllButVoters all.0 e) section.Votes (all.1 ∷ all.2) rows ends full in
    run_to_votes rows (all.1 ∷ all.2) all.0 before full ends refl (without_voters_is_election e is)
    ∙ run_row (Header section.Votes, before) all.1 all.2 (plain all.1) (next_plain all.1 back.1.0 ends.5.0) (vote_header_passes before all.1 columns all.4)
    ∙ ap (λ o. run (option_map_or (λ c. (InVotes c, before)) o (Start, before)) all.2) all.4
    ∙ run_votes_body columns e [] e.voters all.2 all.5 ends.5.1 back.1.1 is

-- what stands runs, wherever a file has come to
pub runs : (p : Position) (rows : List Fields) → AreFull rows → IsJustAt rows p → IsElection p.1 → Runs start rows p
runs (Start, e) rows full at sound = ap (run start) at.0 ∙ ap (λ x. Ok (Start, x)) (sym at.1)
runs (Header section.Meta, e) rows full at sound =
    let ends = at.0 in
    let cut : rows ≡ ends.1 ∷ [] = ends.2 ∙ ap (λ front. front ++ ends.1 ∷ []) ends.3 in
    let whole : AreFull (ends.1 ∷ []) = subst AreFull cut full in
    ap (run start) cut
    ∙ run_row start ends.1 [] (head section.Meta) (next_head ends.1 section.Meta whole.0 ends.4) meta_opens
    ∙ ap (λ x. Ok (Header section.Meta, x)) (sym at.1)
runs (InMeta meta, e) rows full at sound = run_meta rows meta full at.0 ∙ ap (λ x. Ok (InMeta meta, x)) (sym at.1)
runs (Header section.Projects, e) rows full at sound = run_to_projects rows [] e full at.0 ∙ ap (λ x. Ok (Header section.Projects, x)) (sym at.1)
runs (InProjects columns, e) rows full at sound = run_projects rows columns e full at.0 at.1 sound
runs (Header section.Votes, e) rows full at sound = run_to_votes rows [] at.0.0 e full at.0.1 at.1 sound
runs (InVotes columns, e) rows full at sound = run_votes rows columns e full at sound
