-- Which faults apply rests on the rows alone: where the same rows have come so far, the same faults apply.
use Rattle.std.proofs.Common.{◌≡◌, ◌⊎◌, ℕ, List, [], ◌∷◌, ◌++◌, map, Some, refl, ap, sym, ◌∙◌, subst, inl, inr}
use Rattle.std.specs.Prelude.{nat_le, length}
use Rattle.std.specs.List.{AllByRecursion, AllZip}
use Rattle.std.proofs.lemmas.Option.{same_Some}
use Rattle.pb_core.specs.Election.{ElectionView, ProjectView, VoterView, most_projects, most_voters, project_ids}
use Rattle.pb_core.specs.Money.{money_of}
use Rattle.pb_rows.specs.Reading.{Fields}
use Rattle.pb_read.proofs.ListFacts.{IsPlain, some≢none, AllByRecursion-right}
use Rattle.pb_read.proofs.MachineLaws.{project_fault, vote_fault}
use Rattle.pb_read.specs.Inner.Forms.{meta_for}
use Rattle.pb_read.specs.Columns.{project_columns, vote_columns, has_fields}
use Rattle.pb_read.specs.Inner.Machine.{Position, amount_of, project_checks, project_of, row_fault, vote_checks, voter_of}
use Rattle.pb_read.specs.Inner.Positions.{IsJustAt}
use Rattle.pb_read.specs.MetaRows.{meta_of}
use Rattle.pb_read.specs.Rows.{field, head_of, is_empty}
use Rattle.pb_read.specs.Stages.{IsAt, Next, the_end, blank, head, plain}
use Rattle.pb_read.specs.StandsFor.{EndsIn, GivesAllButVoters, GivesProject, GivesVoter, IsMeta}
use Rattle.pb_read.specs.Voting.{is_among, names_only}
use Rattle.pb_read.specs.declared.columns.ProjectColumns.{ProjectColumns}
use Rattle.pb_read.specs.declared.columns.VoteColumns.{VoteColumns}
use Rattle.pb_read.specs.declared.meta.Meta.{Meta}
use Rattle.pb_read.specs.declared.progress.Stage.{Stage}
use Rattle.pb_read.specs.declared.progress.Stage.TheVariants.{Start, Header, InMeta, InProjects, InVotes}
use Rattle.pb_read.specs.declared.section.Section.{Section}
use Rattle.pb_read.specs.declared.section.Section.TheVariants as section

-- the same faults apply at both
abbrev pub Alike : Position → Position → Type 0
Alike p q = (n : Next) → row_fault p n ≡ row_fault q n

alike_start : (e f : ElectionView) → Alike (Start, e) (Start, f)
unfolding row_fault
alike_start e f the_end = refl
alike_start e f blank = refl
alike_start e f (head section.Meta) = refl
alike_start e f (head section.Projects) = refl
alike_start e f (head section.Votes) = refl
alike_start e f (plain row) = refl

alike_header : (name : Section) (e f : ElectionView) → Alike (Header name, e) (Header name, f)
unfolding row_fault
alike_header name e f the_end = refl
alike_header section.Meta e f blank = refl
alike_header section.Projects e f blank = refl
alike_header section.Votes e f blank = refl
alike_header name e f (head other) = refl
alike_header section.Meta e f (plain row) = refl
alike_header section.Projects e f (plain row) = refl
alike_header section.Votes e f (plain row) = refl

alike_meta : (meta : Meta) (e f : ElectionView) → Alike (InMeta meta, e) (InMeta meta, f)
unfolding row_fault
alike_meta meta e f the_end = refl
alike_meta meta e f blank = refl
alike_meta meta e f (head section.Meta) = refl
alike_meta meta e f (head section.Projects) = refl
alike_meta meta e f (head section.Votes) = refl
alike_meta meta e f (plain row) = refl

alike_projects : (columns : ProjectColumns) (e f : ElectionView) → e.projects ≡ f.projects → Alike (InProjects columns, e) (InProjects columns, f)
unfolding row_fault
alike_projects columns e f same the_end = refl
alike_projects columns e f same blank = refl
alike_projects columns e f same (head section.Meta) = refl
alike_projects columns e f same (head section.Projects) = refl
alike_projects columns e f same (head section.Votes) = refl
alike_projects columns e f same (plain row) =
    let checked : List ProjectView → _ = λ ps. project_checks (has_fields columns.id columns.cost row) (money_of (field row columns.cost)) (is_empty (field row columns.id)) (is_among (map (λ (p : ProjectView). p.id) ps) (field row columns.id)) (nat_le most_projects (length ps)) in
    project_fault columns row e ∙ ap checked same ∙ sym (project_fault columns row f)

alike_votes : (columns : VoteColumns) (e f : ElectionView) → e.projects ≡ f.projects → e.voters ≡ f.voters → Alike (InVotes columns, e) (InVotes columns, f)
unfolding row_fault
alike_votes columns e f projects voters the_end = refl
alike_votes columns e f projects voters blank = refl
alike_votes columns e f projects voters (head name) = refl
alike_votes columns e f projects voters (plain row) =
    let checked : List ProjectView → List VoterView → _ = λ ps vs. vote_checks (has_fields columns.voter columns.vote row) (is_empty (field row columns.voter)) (is_among (map (λ (v : VoterView). v.id) vs) (field row columns.voter)) (names_only (map (λ (p : ProjectView). p.id) ps) (field row columns.vote)) (nat_le most_voters (length vs)) in
    vote_fault columns row e ∙ (λ i. checked (projects i) (voters i)) ∙ sym (vote_fault columns row f)

-- rows have one last head
one_end : (front other : List Fields) (h k : Fields) (body rest : List Fields) (name second : Section) → front ++ h ∷ body ≡ other ++ k ∷ rest → head_of h ≡ Some name → head_of k ≡ Some second →
    AllByRecursion IsPlain body → AllByRecursion IsPlain rest → (front ≡ other) × (name ≡ second) × (body ≡ rest)
one_end [] [] h k body rest name second e a b p q =
    let heads : h ≡ k = cc in
    let bodies : body ≡ rest = cc in
    (refl, same_Some name second (sym a ∙ ap head_of heads ∙ b), bodies)
one_end [] (x ∷ other) h k body rest name second e a b p q =
    let bodies : body ≡ other ++ k ∷ rest = cc in
    let plain_rows : AllByRecursion IsPlain (k ∷ rest) = AllByRecursion-right IsPlain other (k ∷ rest) (subst (AllByRecursion IsPlain) bodies p) in
    absurd (some≢none (sym b ∙ plain_rows.0))
one_end (x ∷ front) [] h k body rest name second e a b p q =
    let bodies : front ++ h ∷ body ≡ rest = cc in
    let plain_rows : AllByRecursion IsPlain (h ∷ body) = AllByRecursion-right IsPlain front (h ∷ body) (subst (AllByRecursion IsPlain) (sym bodies) q) in
    absurd (some≢none (sym a ∙ plain_rows.0))
one_end (x ∷ front) (y ∷ other) h k body rest name second e a b p q =
    let heads : x ≡ y = cc in
    let tails : front ++ h ∷ body ≡ other ++ k ∷ rest = cc in
    let same = one_end front other h k body rest name second tails a b p q in
    ((λ i. heads i ∷ same.0 i), same.1, same.2)

same_end : (B C : List Fields → Type 0) (name second : Section) (body rest rows : List Fields) (a : EndsIn B name body rows) (b : EndsIn C second rest rows) → (a.0 ≡ b.0) × (name ≡ second) × (body ≡ rest)
same_end B C name second body rest rows a b = one_end a.0 b.0 a.1 b.1 body rest name second (sym a.2 ∙ b.2) a.4 b.4 a.5 b.5

projects_are : (columns : ProjectColumns) (body : List Fields) (ps : List ProjectView) → AllZip (GivesProject columns) body ps → ps ≡ map (project_of columns) body
projects_are columns [] [] zip = refl
projects_are columns [] (p ∷ ps) zip = absurd zip
projects_are columns (row ∷ body) [] zip = absurd zip
projects_are columns (row ∷ body) (p ∷ ps) zip =
    let given : GivesProject columns row p = zip.0 in
    let same : p ≡ project_of columns row = λ i. record { id = given.id i; name = given.name i; cost = ap amount_of (sym given.cost) i } in
    let rest = projects_are columns body ps zip.1 in
    λ i. same i ∷ rest i

voters_are : (columns : VoteColumns) (ids : List (List ℕ)) (body : List Fields) (vs : List VoterView) → AllZip (GivesVoter columns ids) body vs → vs ≡ map (voter_of columns ids) body
voters_are columns ids [] [] zip = refl
voters_are columns ids [] (v ∷ vs) zip = absurd zip
voters_are columns ids (row ∷ body) [] zip = absurd zip
voters_are columns ids (row ∷ body) (v ∷ vs) zip =
    let given : GivesVoter columns ids row v = zip.0 in
    let same : v ≡ voter_of columns ids row = λ i. record { id = given.id i; ballot = given.ballot i } in
    let rest = voters_are columns ids body vs zip.1 in
    λ i. same i ∷ rest i

-- where rows stand whose last head is of this section, with these rows before it and behind it
abbrev StandsBehind : List Fields → List Fields → Section → Position → Type 0
StandsBehind front [] name p = p.0 ≡ Header name
StandsBehind front (header ∷ body) section.Meta p = p.0 ≡ InMeta (meta_of body)
StandsBehind front (header ∷ body) section.Projects p =
    (columns : ProjectColumns) × (project_columns header ≡ Some columns) × (p.0 ≡ InProjects columns) × (p.1.projects ≡ map (project_of columns) body)
StandsBehind front (header ∷ body) section.Votes p =
    (columns : VoteColumns) × (vote_columns header ≡ Some columns) × (p.0 ≡ InVotes columns)
    × ((before : ProjectColumns) × GivesAllButVoters before p.1 front) × (p.1.voters ≡ map (voter_of columns (project_ids p.1)) body)

record Behind (rows : List Fields) (p : Position) : Type 0 where
  name : Section
  body : List Fields
  ends : EndsIn (λ front. Unit {0}) name body rows
  stands : StandsBehind ends.0 body name p

abbrev Stands : List Fields → Position → Type 0
Stands rows p = ((rows ≡ []) × (p.0 ≡ Start)) ⊎ Behind rows p

abbrev at_any : (Before : List Fields → Type 0) (name : Section) (body rows : List Fields) → EndsIn Before name body rows → EndsIn (λ front. Unit {0}) name body rows
at_any Before name body rows at = (at.0, at.1, at.2, tt, at.4, at.5)

stands_at : (rows : List Fields) (p : Position) → IsAt rows p → Stands rows p
stands_at rows (Start, e) at = inl (at, refl)
stands_at rows (Header name, e) at = inr (record { name = name; body = []; ends = at; stands = refl })
stands_at rows (InMeta meta, e) at =
    inr (record { name = section.Meta; body = at.0 ∷ at.1; ends = at_any (λ front. front ≡ []) section.Meta (at.0 ∷ at.1) rows at.2; stands = ap InMeta at.3 })
stands_at rows (InProjects columns, e) at =
    inr (record {
      name = section.Projects;
      body = at.0 ∷ at.1;
      ends = at_any (IsMeta (meta_for e)) section.Projects (at.0 ∷ at.1) rows at.2;
      stands = (columns, at.3, refl, projects_are columns at.1 e.projects at.4);
    })
stands_at rows (InVotes columns, e) at =
    inr (record {
      name = section.Votes;
      body = at.1 ∷ at.2;
      ends = at_any (GivesAllButVoters at.0 e) section.Votes (at.1 ∷ at.2) rows at.3;
      stands = (columns, at.4, refl, (at.0, at.3.3), voters_are columns (project_ids e) at.2 e.voters at.5);
    })

-- the same rows give the same projects
same_projects : (front : List Fields) (c d : ProjectColumns) (e f : ElectionView) → GivesAllButVoters c e front → GivesAllButVoters d f front → e.projects ≡ f.projects
same_projects front c d e f a b =
    let ends = same_end (IsMeta (meta_for e)) (IsMeta (meta_for f)) section.Projects section.Projects (a.0 ∷ a.1) (b.0 ∷ b.1) front a.2 b.2 in
    let whole : a.0 ∷ a.1 ≡ b.0 ∷ b.1 = ends.2 in
    let headers : a.0 ≡ b.0 = cc in
    let bodies : a.1 ≡ b.1 = cc in
    let columns : c ≡ d = same_Some c d (sym a.3 ∙ ap project_columns headers ∙ b.3) in
    projects_are c a.1 e.projects a.4 ∙ (λ i. map (project_of (columns i)) (bodies i)) ∙ sym (projects_are d b.1 f.projects b.4)

-- by their stages
alike_by : (s t u : Stage) (e f : ElectionView) → s ≡ u → t ≡ u → Alike (u, e) (u, f) → Alike (s, e) (t, f)
alike_by s t u e f a b same n = ap (λ x. row_fault (x, e) n) a ∙ same n ∙ ap (λ x. row_fault (x, f) n) (sym b)

alike_behind : (front body : List Fields) (name : Section) (p q : Position) → StandsBehind front body name p → StandsBehind front body name q → Alike p q
alike_behind front [] name (s, e) (t, f) a b = alike_by s t (Header name) e f a b (alike_header name e f)
alike_behind front (header ∷ body) section.Meta (s, e) (t, f) a b = alike_by s t (InMeta (meta_of body)) e f a b (alike_meta (meta_of body) e f)
alike_behind front (header ∷ body) section.Projects (s, e) (t, f) a b =
    let columns : b.0 ≡ a.0 = same_Some b.0 a.0 (sym b.1 ∙ a.1) in
    let projects : e.projects ≡ f.projects = a.3 ∙ ap (λ c. map (project_of c) body) (sym columns) ∙ sym b.3 in
    alike_by s t (InProjects a.0) e f a.2 (b.2 ∙ ap InProjects columns) (alike_projects a.0 e f projects)
alike_behind front (header ∷ body) section.Votes (s, e) (t, f) a b =
    let columns : b.0 ≡ a.0 = same_Some b.0 a.0 (sym b.1 ∙ a.1) in
    let projects : e.projects ≡ f.projects = same_projects front a.3.0 b.3.0 e f a.3.1 b.3.1 in
    let voters : e.voters ≡ f.voters =
    a.4 ∙ (λ i. map (voter_of (sym columns i) (map (λ (p : ProjectView). p.id) (projects i))) body) ∙ sym b.4 in
    alike_by s t (InVotes a.0) e f a.2 (b.2 ∙ ap InVotes columns) (alike_votes a.0 e f projects voters)

not_empty : (front : List Fields) (h : Fields) (body rows : List Fields) → rows ≡ front ++ h ∷ body → rows ≡ [] → ⊥
not_empty [] h body rows cut none = let e : h ∷ body ≡ [] = sym cut ∙ none in cc
not_empty (x ∷ front) h body rows cut none = let e : x ∷ (front ++ h ∷ body) ≡ [] = sym cut ∙ none in cc

alike_stands : (rows : List Fields) (p q : Position) → Stands rows p → Stands rows q → Alike p q
alike_stands rows (s, e) (t, f) (inl a) (inl b) = alike_by s t Start e f a.1 b.1 (alike_start e f)
alike_stands rows p q (inl a) (inr b) = absurd (not_empty b.ends.0 b.ends.1 b.body rows b.ends.2 a.0)
alike_stands rows p q (inr a) (inl b) = absurd (not_empty a.ends.0 a.ends.1 a.body rows a.ends.2 b.0)
alike_stands rows p q (inr a) (inr b) =
    let same = same_end (λ front. Unit {0}) (λ front. Unit {0}) b.name a.name b.body a.body rows b.ends a.ends in
    let there : StandsBehind a.ends.0 a.body a.name q =
    subst (λ x. StandsBehind a.ends.0 a.body x q) same.1 (subst (λ x. StandsBehind a.ends.0 x b.name q) same.2 (subst (λ x. StandsBehind x b.body b.name q) same.0 b.stands)) in
    alike_behind a.ends.0 a.body a.name p q a.stands there

pub alike : (rows : List Fields) (p q : Position) → IsAt rows p → IsAt rows q → Alike p q
alike rows p q a b = alike_stands rows p q (stands_at rows p a) (stands_at rows q b)

pub at_just : (rows : List Fields) (p : Position) → IsJustAt rows p → IsAt rows p
at_just rows (Start, e) at = at.0
at_just rows (Header section.Meta, e) at = at_any (λ front. front ≡ []) section.Meta [] rows at.0
at_just rows (InMeta meta, e) at = at.0
at_just rows (Header section.Projects, e) at = at_any (IsMeta (meta_for e)) section.Projects [] rows at.0
at_just rows (InProjects columns, e) at = at.0
at_just rows (Header section.Votes, e) at = at_any (GivesAllButVoters at.0.0 e) section.Votes [] rows at.0.1
at_just rows (InVotes columns, e) at = at
