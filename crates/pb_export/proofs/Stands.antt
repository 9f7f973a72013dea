-- What is written of an election stands for it.
use Rattle.std.proofs.Common.{◌≡◌, ◌≢◌, ◌<◌, ◌≤◌, ◌+◌, ℕ, suc, Bool, false, not, List, [], ◌∷◌, ◌++◌, length, map, filter, All, Option, Some, None, Ok, get_or, refl, ap, sym, ◌∙◌, subst, arith, length-append}
use Rattle.std.specs.Prelude.{slice_index_or}
use Rattle.std.specs.List.{AllByRecursion, list_any}
use Rattle.std.specs.Str.{IsUtf8, trim}
use Rattle.std.proofs.lemmas.Bool.{false_from_ne_true, false≢true, or_parts}
use Rattle.std.proofs.lemmas.List.{length-map, map-append}
use Rattle.std.proofs.lemmas.List.Elements.{All-from_recursion, All-head, All-tail, filter-append, recursion_from_All}
use Rattle.std.proofs.lemmas.List.Folds.{list_any_at}
use Rattle.csv.specs.Records.{AllText}
use Rattle.pb_core.specs.Election.{ElectionView, IsElection, ProjectView, VoterView, project_ids}
use Rattle.pb_core.specs.Money.{largest_money, money_of}
use Rattle.pb_core.specs.MoneyText.{money_text}
use Rattle.pb_rows.proofs.RoundTrip.{ComeBack-ascii}
use Rattle.pb_rows.specs.Reading.{Fields, records_of}
use Rattle.pb_rows.specs.Writing.{text_of_rows}
use Rattle.pb_rows.specs.Inner.Writing.{ComeBack}
use Rattle.pb_read.proofs.ListFacts.{AllByRecursion-append, AllByRecursion-left, AllByRecursion-right}
use Rattle.pb_read.specs.Inner.Fields.{trimmed}
use Rattle.pb_read.specs.Rows.{is_blank, rows_of}
use Rattle.pb_read.specs.StandsFor.{GivesAll, StandsFor}
use Rattle.pb_export.specs.Inner.Parts.{has_comma_in_vote, has_section_word}
use Rattle.pb_export.specs.Inner.Parts.{KeyView, has_comma, is_section_word, key_rows, meta_parts, projects_from, vote_row}
use Rattle.pb_export.specs.FileRows.{file_rows, meta_rows, projects_rows, votes_rows}
use Rattle.pb_export.specs.declared.further.Further.{Further}
use Rattle.pb_export.specs.Inner.Behind.{of_project, of_voter}
use Rattle.pb_export.proofs.OfFile.{IsOfFile}
use Rattle.pb_export.proofs.KeysBehind.{few_keys, key_rows_fields}
use Rattle.pb_export.proofs.Metas.{gives_terms, meta_is}
use Rattle.pb_export.proofs.Pieces.{IsPiece}
use Rattle.pb_export.proofs.Words.{section_words}
use Rattle.pb_export.proofs.Projects as projects
use Rattle.pb_export.proofs.Votes as votes

abbrev HasField : Fields → Type 0
HasField fields = 0 < length fields

parts_fields : (e : ElectionView) (rule comment : List ℕ) (keys : List KeyView) → length keys ≤ 900000 → AllByRecursion HasField (meta_parts e rule comment keys) × (length (meta_parts e rule comment keys) ≤ 900009)
parts_fields e rule comment keys small = go e.max_length
  where
    few : length (key_rows keys) ≤ 900000
    few = few_keys keys small

    behind : AllByRecursion HasField (key_rows keys)
    behind = key_rows_fields keys

    go : (limit : Option ℕ) → AllByRecursion HasField (meta_parts (record e { max_length = limit }) rule comment keys) × (length (meta_parts (record e { max_length = limit }) rule comment keys) ≤ 900009)
    go None = ((omega arith, (omega arith, (omega arith, (omega arith, (omega arith, (omega arith, (omega arith, (omega arith, behind)))))))), omega (arith, few))
    go (Some most) = ((omega arith, (omega arith, (omega arith, (omega arith, (omega arith, (omega arith, (omega arith, (omega arith, (omega arith, behind))))))))), omega (arith, few))

meta_fields : (e : ElectionView) (rule comment : List ℕ) (keys : List KeyView) → length keys ≤ 900000 → AllByRecursion HasField (meta_rows e rule comment keys) × (length (meta_rows e rule comment keys) ≤ 900009)
meta_fields e rule comment keys small =
    subst (λ (rows : List Fields). AllByRecursion HasField rows × (length rows ≤ 900009)) (sym (meta_is e rule comment keys)) (parts_fields e rule comment keys small)

project_fields : (counts : List ℕ) (selected : List Bool) (more_of : ℕ → Fields) (place : ℕ) (ps : List ProjectView) → AllByRecursion HasField (projects_from counts selected more_of place ps) × (length (projects_from counts selected more_of place ps) ≡ length ps)
project_fields counts selected more_of place [] = (tt, refl)
project_fields counts selected more_of place (p ∷ ps) =
    let rest = project_fields counts selected more_of (place + 1) ps in
    ((omega arith, rest.0), ap suc rest.1)

vote_fields : (ids : List (List ℕ)) (more_of : List ℕ → Fields) (vs : List VoterView) → AllByRecursion HasField (map (vote_row ids more_of) vs)
vote_fields ids more_of [] = tt
vote_fields ids more_of (v ∷ vs) = (omega arith, vote_fields ids more_of vs)

rows_of-append : (xs ys : List Fields) → rows_of (xs ++ ys) ≡ rows_of xs ++ rows_of ys
rows_of-append xs ys =
    ap (filter (λ row. not (is_blank row))) (map-append trimmed xs ys) ∙ filter-append (λ row. not (is_blank row)) (map trimmed xs) (map trimmed ys)

-- where no element passes, each fails
each_fails : {X : Type 0} (p : X → Bool) (xs : List X) → list_any p xs ≡ false → All (λ x. p x ≡ false) xs
each_fails p xs none k d within = false_from_ne_true _ (λ passes. false≢true (sym none ∙ list_any_at p xs k d within passes))

-- an id that is text, without white space at its ends
record IsId (id : List ℕ) : Type 0 where
  some : id ≢ []
  tidy : trim id ≡ id
  text : IsUtf8 id

ids_are : (counts : List ℕ) (selected : List Bool) (more_of : ℕ → Fields) (place : ℕ) (ps : List ProjectView) → AllByRecursion AllText (projects_from counts selected more_of place ps) → AllByRecursion projects.IsWritable ps → AllByRecursion IsId (map (λ (p : ProjectView). p.id) ps)
unfolding AllText
ids_are counts selected more_of place [] texts are = tt
ids_are counts selected more_of place (p ∷ ps) texts are =
    (record { some = are.0.has_id; tidy = are.0.tidy_id; text = texts.0.0 }, ids_are counts selected more_of (place + 1) ps texts.1 are.1)

ballot_pieces : (ids : List (List ℕ)) → All IsId ids → (ballot : List ℕ) → All (λ place. place < length ids) ballot → list_any (λ place. has_comma (slice_index_or ids place [])) ballot ≡ false →
    AllByRecursion IsPiece (map (λ place. slice_index_or ids place []) ballot)
ballot_pieces ids are [] known none = tt
ballot_pieces ids are (place ∷ ballot) known none =
    let below : place < length ids = All-head (λ p. p < length ids) place ballot known in
    let id = are place [] below in
    let parts = or_parts (has_comma (slice_index_or ids place [])) (list_any (λ p. has_comma (slice_index_or ids p [])) ballot) none in
    (record { some = id.some; tidy = id.tidy; text = id.text; no_comma = parts.0 }, ballot_pieces ids are ballot (All-tail (λ p. p < length ids) place ballot known) parts.1)

-- by the laws of rows and of money
module _ (come_back : (rows : List Fields) → ComeBack rows → records_of (text_of_rows rows) ≡ rows) (reads_back : (h : ℕ) → h ≤ largest_money → money_of (money_text h) ≡ Ok h)
    (e : ElectionView) (rule comment counts : List ℕ) (selected : List Bool) (further : Further) (small : length further.keys ≤ 900000) (is : IsElection e) (of : IsOfFile e) (words : has_section_word e ≡ false) (commas : has_comma_in_vote e ≡ false)
    (texts : AllByRecursion AllText (file_rows e rule comment counts selected further)) where
  abbrev rows : List Fields
  rows = file_rows e rule comment counts selected further

  abbrev metas : List Fields
  metas = meta_rows e rule comment further.keys

  abbrev middle : List Fields
  middle = projects_rows counts selected further e.projects

  abbrev last : List Fields
  last = votes_rows (project_ids e) further e.voters

  heads : (list_any (λ p. is_section_word p.id) e.projects ≡ false) × (list_any (λ v. is_section_word v.id) e.voters ≡ false)
  heads = or_parts _ _ (sym (section_words e) ∙ words)

  writable_projects : AllByRecursion projects.IsWritable e.projects
  writable_projects = recursion_from_All projects.IsWritable e.projects (λ k d within.
      record {
        has_id = (is.are_projects k d within).has_id;
        tidy_id = of.ids k d within;
        tidy_name = of.names k d within;
        affordable = (is.are_projects k d within).affordable;
        no_head = each_fails (λ (p : ProjectView). is_section_word p.id) e.projects heads.0 k d within;
      })

  middle_texts : AllByRecursion AllText middle
  middle_texts = AllByRecursion-right AllText metas middle (AllByRecursion-left AllText (metas ++ middle) last texts)

  ids : All IsId (project_ids e)
  ids = All-from_recursion IsId (project_ids e) (ids_are counts selected (of_project further) 0 e.projects middle_texts.1.1 writable_projects)

  size : length (project_ids e) ≡ length e.projects
  size = length-map e.projects (λ (p : ProjectView). p.id)

  writable_voters : AllByRecursion (votes.IsWritable (project_ids e)) e.voters
  writable_voters = recursion_from_All (votes.IsWritable (project_ids e)) e.voters (λ k d within.
      let v = get_or e.voters k d in
      let voter = is.are_voters k d within in
      let known : All (λ place. place < length (project_ids e)) v.ballot = subst (λ n. All (λ place. place < n) v.ballot) (sym size) voter.ballot_known in
      record {
        has_id = voter.has_id.not_empty;
        tidy_id = voter.has_id.is_trimmed;
        no_head = each_fails (λ (w : VoterView). is_section_word w.id) e.voters heads.1 k d within;
        rises = voter.ballot_rises;
        known = known;
        pieces = ballot_pieces (project_ids e) ids v.ballot known (each_fails (λ (w : VoterView). list_any (λ place. has_comma (slice_index_or (project_ids e) place [])) w.ballot) e.voters commas k d within);
      })

  fields : AllByRecursion HasField rows
  fields =
      AllByRecursion-append HasField (metas ++ middle) last
      (AllByRecursion-append HasField metas middle (meta_fields e rule comment further.keys small).0 (omega arith, (omega arith, (project_fields counts selected (of_project further) 0 e.projects).0)))
      (omega arith, (omega arith, vote_fields (project_ids e) (of_voter further) e.voters))

  back : records_of (text_of_rows rows) ≡ rows
  back = come_back rows (ComeBack-ascii rows (All-from_recursion HasField rows fields) (omega arith))

  gives_front : projects.GivesFront e (rows_of (metas ++ middle))
  gives_front =
      subst (projects.GivesFront e) (sym (rows_of-append metas middle)) (projects.gives_projects reads_back counts selected further e (rows_of metas) (gives_terms reads_back e rule comment further.keys is.budget_bounded of.limit) writable_projects)

  gives : GivesAll (record { voter = 0; vote = 1 }) e (rows_of rows)
  gives =
      subst (GivesAll (record { voter = 0; vote = 1 }) e) (sym (rows_of-append (metas ++ middle) last)) (votes.gives_voters e further (rows_of (metas ++ middle)) gives_front is.projects_differ writable_voters)

  few : length rows ≤ 2000000
  few =
      omega (arith, length-append (metas ++ middle) last, length-append metas middle, (meta_fields e rule comment further.keys small).1, (project_fields counts selected (of_project further) 0 e.projects).1, length-map e.voters (vote_row (project_ids e) (of_voter further)), is.few_projects, is.few_voters)

  pub stands : StandsFor (records_of (text_of_rows (file_rows e rule comment counts selected further))) e
  stands = subst (λ (records : List Fields). StandsFor records e) (sym back)
      (record { few = few; describes = record { text = texts; columns = record { voter = 0; vote = 1 }; rows = gives; is_election = is } })
