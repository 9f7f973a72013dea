-- PROJECTS, read back.
use Rattle.std.proofs.Common.{◌≡◌, ◌≢◌, ◌≤◌, ◌+◌, ℕ, Bool, true, false, cond, not, List, [], ◌∷◌, ◌++◌, codes, decimal, Option, Some, None, Ok, refl, ap, sym, ◌∙◌, arith}
use Rattle.std.specs.Prelude.{is_some, slice_index, slice_index_or}
use Rattle.std.specs.List.{AllByRecursion, AllZip}
use Rattle.std.specs.Str.{trim, trim_start, trim_end, chars}
use Rattle.std.proofs.Math.Utf8.{encode}
use Rattle.std.proofs.lemmas.Bool.{cond-true}
use Rattle.pb_core.specs.Election.{ElectionView, ProjectView}
use Rattle.pb_core.specs.Money.{largest_money, money_of}
use Rattle.pb_core.specs.MoneyText.{money_text}
use Rattle.pb_rows.specs.Reading.{Fields}
use Rattle.pb_read.specs.Inner.Forms.{meta_for}
use Rattle.pb_read.specs.Inner.Fields.{trimmed}
use Rattle.pb_read.specs.Rows.{head_of, is_blank, rows_of}
use Rattle.pb_read.specs.StandsFor.{GivesAllButVoters, GivesProject, IsMeta}
use Rattle.pb_export.specs.FileRows.{amount_text, projects_rows}
use Rattle.pb_export.specs.Inner.Parts.{is_section_word, project_row, projects_from}
use Rattle.pb_export.specs.declared.further.Further.{Further}
use Rattle.pb_export.specs.Inner.Behind.{of_project}
use Rattle.pb_export.proofs.Headers.{both_fields, project_header}
use Rattle.pb_export.proofs.Metas.{amount_back}

-- a project that a file can give
pub record IsWritable (p : ProjectView) : Type 0 where
  pub has_id : p.id ≢ []
  pub tidy_id : trim p.id ≡ p.id
  pub tidy_name : trim p.name ≡ p.name
  pub affordable : p.cost ≤ largest_money
  pub no_head : is_section_word p.id ≡ false

-- a row gives a project, where the columns stand as they are written
abbrev Gives : Fields → ProjectView → Type 0
Gives = GivesProject (record { id = 0; cost = 1; name = Some 3 })

-- the rows of META and PROJECTS give an election but for its voters, where the columns stand so
abbrev pub GivesFront : ElectionView → List Fields → Type 0
GivesFront = GivesAllButVoters (record { id = 0; cost = 1; name = Some 3 })

no_section : {A : Type 0} (found : Option A) → is_some found ≡ false → found ≡ None
no_section None none = refl
no_section (Some name) none = cc none

-- a row that begins with such an id is plain
pub plain_row : (id : List ℕ) (rest : Fields) → trim id ≡ id → is_section_word id ≡ false → head_of (trimmed (id ∷ rest)) ≡ None
unfolding head_of
plain_row id rest tidy none = no_section (head_of (trimmed (id ∷ rest))) (ap (λ (t : List ℕ). is_section_word t) tidy ∙ none)

shows : (id : List ℕ) (rest : Fields) → trim id ≡ id → id ≢ [] → not (is_blank (trimmed (id ∷ rest))) ≡ true
shows [] rest tidy some = absurd (some refl)
shows (b ∷ id) rest tidy some = rw tidy refl

-- and it is not blank
pub row_kept : (id : List ℕ) (rest : Fields) (records : List Fields) → trim id ≡ id → id ≢ [] → rows_of ((id ∷ rest) ∷ records) ≡ trimmed (id ∷ rest) ∷ rows_of records
row_kept id rest records tidy some = cond-true _ (trimmed (id ∷ rest) ∷ rows_of records) (rows_of records) (shows id rest tidy some)

-- by the law of money
module _ (reads_back : (h : ℕ) → h ≤ largest_money → money_of (money_text h) ≡ Ok h) (votes : List ℕ) (selected : List Bool) (further : Further) where
  gives_project : (p : ProjectView) (count : ℕ) (elected : Bool) (more : Fields) → IsWritable p → Gives (trimmed (project_row p count elected more)) p
  gives_project p count elected more is = record {
    whole = both_fields 0 1 (trimmed (project_row p count elected more)) (omega arith) (omega arith);
    id = sym is.tidy_id;
    name = sym is.tidy_name;
    cost = amount_back reads_back p.cost is.affordable;
  }

  gives_from : (place : ℕ) (projects : List ProjectView) → AllByRecursion IsWritable projects →
      AllByRecursion (λ row. head_of row ≡ None) (rows_of (projects_from votes selected (of_project further) place projects)) × AllZip Gives (rows_of (projects_from votes selected (of_project further) place projects)) projects
  gives_from place [] are = (tt, tt)
  gives_from place (p ∷ projects) are =
      let count = slice_index votes place in
      let elected = slice_index_or selected place false in
      let more = of_project further place in
      let others : Fields = amount_text p.cost ∷ decimal count ∷ p.name ∷ cond elected (codes "1") (codes "0") ∷ more in
      let rest = gives_from (place + 1) projects are.1 in
      rw (row_kept p.id others (projects_from votes selected (of_project further) (place + 1) projects) are.0.tidy_id are.0.has_id)
      ((plain_row p.id others are.0.tidy_id are.0.no_head, rest.0), (gives_project p count elected more are.0, rest.1))

  -- after META
  pub gives_projects : (e : ElectionView) (front : List Fields) → IsMeta (meta_for e) front → AllByRecursion IsWritable e.projects →
      GivesFront e (front ++ rows_of (projects_rows votes selected further e.projects))
  unfolding head_of trim_start trim_end chars encode
  gives_projects e front before are =
      let from = gives_from 0 e.projects are in
      (_, rows_of (projects_from votes selected (of_project further) 0 e.projects), (front, _, refl, before, refl, (refl, from.0)), project_header further.project_names, from.1)
