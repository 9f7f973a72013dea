-- Every election that a file stands for can be written, but for the ids that are refused.
use Rattle.std.proofs.Common.{◌≡◌, ◌≤◌, ◌&&◌, All, ℕ, Bool, true, false, cond, not, List, [], ◌∷◌, ◌++◌, get_or, Option, Some, None, Result, Ok, Err, refl, ap, sym, ◌∙◌, subst, arith}
use Rattle.std.specs.Prelude.{codes, nat_le}
use Rattle.std.specs.List.{AllByRecursion, AllZip, list_all}
use Rattle.std.specs.Option.{option_map_or}
use Rattle.std.specs.Str.{trim, trim_start, trim_end, chars}
use Rattle.std.specs.Str.Parse.{digits_value}
use Rattle.std.proofs.lemmas.Bool.{and_from, and_parts, leb-true}
use Rattle.std.proofs.lemmas.List.Elements.{All-from_recursion}
use Rattle.csv.specs.Records.{AllText}
use Rattle.pb_core.specs.Election.{ElectionView, ProjectView, most_projects}
use Rattle.pb_core.specs.MoneyText.{whole_part}
use Rattle.pb_rows.specs.Reading.{Fields}
use Rattle.pb_read.proofs.Keeps.{IsTidy, IsTidy-trimmed}
use Rattle.pb_read.proofs.ListFacts.{AllByRecursion-left, AllByRecursion-right}
use Rattle.pb_read.specs.MetaRows.{value_of}
use Rattle.pb_read.specs.Lengths.{has_length_form, max_length_of}
use Rattle.pb_read.specs.Inner.Fields.{trimmed}
use Rattle.pb_read.specs.Rows.{field, is_blank, is_empty, rows_of}
use Rattle.pb_read.specs.StandsFor.{GivesProject, StandsFor}
use Rattle.pb_read.specs.declared.fault.ReadKind.{ReadKind}
use Rattle.pb_read.specs.declared.fault.ReadKind.TheVariants.{BadLength}
use Rattle.std.proofs.lemmas.Slice.Eq.{bytes_eq-Decides}
use Rattle.pb_export.proofs.Metas.{small_enough}
use Rattle.pb_export.specs.Export.{is_of_file}
use Rattle.pb_export.specs.Inner.Parts.{is_small, is_tidy}
use Rattle.std.proofs.lemmas.List.Sums.{list_all-from_AllPass}

rows_tidy : (records : List Fields) → AllByRecursion AllText records → AllByRecursion IsTidy (rows_of records)
rows_tidy [] texts = tt
rows_tidy (record' ∷ records) texts = go (is_blank (trimmed record')) (rows_tidy records texts.1)
  where
    go : (blank : Bool) → AllByRecursion IsTidy (rows_of records) → AllByRecursion IsTidy (cond (not blank) (trimmed record' ∷ rows_of records) (rows_of records))
    go true rest = rest
    go false rest = (IsTidy-trimmed record' texts.0, rest)

trim-nil : trim [] ≡ []
unfolding trim_start trim_end chars
trim-nil = refl

name_tidy : (name : Option ℕ) (row : Fields) → IsTidy row → trim (option_map_or (field row) name []) ≡ option_map_or (field row) name []
name_tidy None row tidy = trim-nil
name_tidy (Some place) row tidy = tidy place

projects_tidy : (columns : _) (rows : List Fields) (ps : List ProjectView) → AllByRecursion IsTidy rows → AllZip (GivesProject columns) rows ps
    → AllByRecursion (λ (p : ProjectView). trim p.id ≡ p.id) ps × AllByRecursion (λ (p : ProjectView). trim p.name ≡ p.name) ps
projects_tidy columns [] [] tidy gives = (tt, tt)
projects_tidy columns [] (p ∷ ps) tidy gives = absurd gives
projects_tidy columns (row ∷ rows) [] tidy gives = absurd gives
projects_tidy columns (row ∷ rows) (p ∷ ps) tidy gives =
    let rest = projects_tidy columns rows ps tidy.1 gives.1 in
    let id : trim p.id ≡ p.id = subst (λ (t : List ℕ). trim t ≡ t) (sym gives.0.id) (tidy.0 columns.id) in
    let name : trim p.name ≡ p.name = subst (λ (t : List ℕ). trim t ≡ t) (sym gives.0.name) (name_tidy columns.name row tidy.0) in
    ((id, rest.0), (name, rest.1))

-- a limit that was read is at most 10,000
limit_small : (empty form : Bool) (n most : ℕ)
    → ◌≡◌ {A = Result (Option ℕ) ReadKind} (cond empty (Ok None) (cond (not form) (Err BadLength) (cond (not (nat_le n most_projects)) (Ok None) (Ok (Some n))))) (Ok (Some most)) → most ≤ most_projects
limit_small true form n most is = cc is
limit_small false false n most is = cc is
limit_small false true n most is = go (nat_le n most_projects) refl is
  where
    go : (small : Bool) → nat_le n most_projects ≡ small → ◌≡◌ {A = Result (Option ℕ) ReadKind} (cond (not small) (Ok None) (Ok (Some n))) (Ok (Some most)) → most ≤ most_projects
    go false s is = cc is
    go true s is = let same : n ≡ most = cc in omega (arith, leb-true n most_projects s, same)

limit_of_text : (text : List ℕ) (most : ℕ) → max_length_of text ≡ Ok (Some most) → most ≤ most_projects
limit_of_text text most is = limit_small (is_empty text) (has_length_form text) (digits_value 10 (whole_part text)) most is

limit_of_value : (value : Option (List ℕ)) (most : ℕ) → option_map_or max_length_of value (Ok None) ≡ Ok (Some most) → most ≤ most_projects
limit_of_value None most is = cc is
limit_of_value (Some text) most is = limit_of_text text most is

-- the same as facts
pub record IsOfFile (e : ElectionView) : Type 0 where
  pub ids : All (λ p. trim p.id ≡ p.id) e.projects
  pub names : All (λ p. trim p.name ≡ p.name) e.projects
  pub limit : (most : ℕ) → e.max_length ≡ Some most → most ≤ most_projects

tested : (ps : List ProjectView) → AllByRecursion (λ (p : ProjectView). trim p.id ≡ p.id) ps → AllByRecursion (λ (p : ProjectView). trim p.name ≡ p.name) ps → list_all (λ (p : ProjectView). is_tidy p.id && is_tidy p.name) ps ≡ true
tested [] ids names = refl
tested (p ∷ ps) ids names =
    and_from _ _ (and_from _ _ ((bytes_eq-Decides (trim p.id) p.id).1 ids.0) ((bytes_eq-Decides (trim p.name) p.name).1 names.0)) (tested ps ids.1 names.1)

small_tested : (limit : Option ℕ) → ((most : ℕ) → limit ≡ Some most → most ≤ most_projects) → is_small limit ≡ true
small_tested None limited = refl
small_tested (Some most) limited = small_enough most (limited most refl)

tidy_parts : (ps : List ProjectView) → list_all (λ (p : ProjectView). is_tidy p.id && is_tidy p.name) ps ≡ true → AllByRecursion (λ (p : ProjectView). trim p.id ≡ p.id) ps × AllByRecursion (λ (p : ProjectView). trim p.name ≡ p.name) ps
tidy_parts [] are = (tt, tt)
tidy_parts (p ∷ ps) are =
    let first = and_parts (is_tidy p.id && is_tidy p.name) (list_all (λ (q : ProjectView). is_tidy q.id && is_tidy q.name) ps) are in
    let both = and_parts (is_tidy p.id) (is_tidy p.name) first.0 in
    let rest = tidy_parts ps first.1 in
    (((bytes_eq-Decides (trim p.id) p.id).0 both.0, rest.0), ((bytes_eq-Decides (trim p.name) p.name).0 both.1, rest.1))

small_limit : (limit : Option ℕ) → is_small limit ≡ true → (most : ℕ) → limit ≡ Some most → most ≤ most_projects
small_limit None small most is = cc is
small_limit (Some n) small most is = let same : n ≡ most = cc in omega (arith, leb-true n most_projects small, same)

pub tested_file : (e : ElectionView) → is_of_file e ≡ true → IsOfFile e
tested_file e is =
    let parts = and_parts (list_all (λ (p : ProjectView). is_tidy p.id && is_tidy p.name) e.projects) (is_small e.max_length) is in
    let tidy = tidy_parts e.projects parts.0 in
    record {
      ids = All-from_recursion (λ (p : ProjectView). trim p.id ≡ p.id) e.projects tidy.0;
      names = All-from_recursion (λ (p : ProjectView). trim p.name ≡ p.name) e.projects tidy.1;
      limit = small_limit e.max_length parts.1;
    }

-- an election that records stand for is that of a file
pub of_file : (records : List Fields) (e : ElectionView) → StandsFor records e → is_of_file e ≡ true
of_file records e stands =
    let all = stands.describes.rows in
    let votes = all.3 in
    let tidy : AllByRecursion IsTidy (votes.0 ++ votes.1 ∷ all.1 ∷ all.2) = subst (AllByRecursion IsTidy) votes.2 (rows_tidy records stands.describes.text) in
    let front = votes.3 in
    let projects = front.2 in
    let front_tidy : AllByRecursion IsTidy (projects.0 ++ projects.1 ∷ front.0 ∷ front.1) = subst (AllByRecursion IsTidy) projects.2 (AllByRecursion-left IsTidy votes.0 (votes.1 ∷ all.1 ∷ all.2) tidy) in
    let section_tidy : AllByRecursion IsTidy (projects.1 ∷ front.0 ∷ front.1) = AllByRecursion-right IsTidy projects.0 (projects.1 ∷ front.0 ∷ front.1) front_tidy in
    let named = projects_tidy all.0 front.1 e.projects section_tidy.1.1 front.4 in
    let metas = projects.3 in
    let limit : (most : ℕ) → e.max_length ≡ Some most → most ≤ most_projects = λ most is. limit_of_value (value_of (codes "max_length") metas.1) most (sym (ap (λ meta. meta.max_length) metas.3) ∙ ap Ok is) in
    and_from _ _ (tested e.projects named.0 named.1) (small_tested e.max_length limit)

-- the test, in the words of its law
pub file_is : (e : ElectionView) → is_of_file e ≡ true
    → All (λ p. (trim p.id ≡ p.id) × (trim p.name ≡ p.name)) e.projects × ((most : ℕ) → e.max_length ≡ Some most → most ≤ most_projects)
file_is e is = let of = tested_file e is in (λ k p below. (of.ids k p below, of.names k p below), of.limit)

pub it_is_of_file : (e : ElectionView)
    → All (λ p. (trim p.id ≡ p.id) × (trim p.name ≡ p.name)) e.projects × ((most : ℕ) → e.max_length ≡ Some most → most ≤ most_projects)
    → is_of_file e ≡ true
it_is_of_file e (tidy, limit) =
    let test : ProjectView → Bool = λ p. is_tidy p.id && is_tidy p.name in
    let each : All (λ p. test p ≡ true) e.projects = λ k d below.
    (let p = get_or e.projects k d in and_from _ _ ((bytes_eq-Decides (trim p.id) p.id).1 (tidy k d below).0) ((bytes_eq-Decides (trim p.name) p.name).1 (tidy k d below).1)) in
    and_from _ _ (list_all-from_AllPass test e.projects each) (small_tested e.max_length limit)
