-- What heads, keys, columns and refused amounts are, in the words of their law.
use Rattle.std.proofs.Common.{◌≡◌, ℕ, Bool, true, false, cond, List, [], ◌∷◌, ◌++◌, append-nil, Option, Some, None, codes, Result, Ok, Err, refl, sym, ◌∙◌, ap, subst}
use denote.Enum.Declared.{tag_of}
use Rattle.std.specs.List.{find}
use Rattle.std.specs.Prelude.{◌==◌, ◌+◌, All}
use Rattle.std.specs.Option.{option_map, option_zip}
use Rattle.std.specs.Str.{bytes_eq}
use Rattle.std.proofs.lemmas.Bool.{cond-false, cond-true, eq-eqb, eqb-true, false≢true}
use Rattle.std.proofs.lemmas.List.{append_assoc}
use Rattle.std.proofs.lemmas.List.Elements.{All-head, All-tail}
use Rattle.std.proofs.lemmas.Option.{same_Some}
use Rattle.std.proofs.lemmas.Slice.Eq.{bytes_eq-Decides}
use Rattle.pb_core.specs.Numbered.{numbered}
use Rattle.pb_core.specs.contracts.money_fault.MoneyFault.{the_type as money_faults}
use Rattle.pb_core.specs.declared.money_fault.MoneyFault.{MoneyFault}
use Rattle.pb_core.specs.declared.money_fault.MoneyFault.TheVariants as money
use Rattle.pb_rows.specs.Reading.{Fields}
use Rattle.pb_read.proofs.KeyFacts.{not_both}
use Rattle.pb_read.proofs.ListFacts.{some≢none}
use Rattle.pb_read.specs.Columns.{project_columns, vote_columns, column}
use Rattle.pb_read.specs.Faults.{fails_by}
use Rattle.pb_read.proofs.MachineLaws.{value_of-push}
use Rattle.pb_read.specs.Kinds.{number_of}
use Rattle.pb_read.specs.MetaKeys.{key_of, key_text}
use Rattle.pb_read.specs.MetaRows.{value_of}
use Rattle.pb_read.specs.Rows.{field, head_of, is_word}
use Rattle.pb_read.specs.contracts.section.Section.{the_type as sections}
use Rattle.pb_read.specs.declared.columns.ProjectColumns.{ProjectColumns}
use Rattle.pb_read.specs.declared.columns.VoteColumns.{VoteColumns}
use Rattle.pb_read.specs.declared.fault.ReadKind.{ReadKind}
use Rattle.pb_read.specs.declared.fault.ReadKind.TheVariants as kinds
use Rattle.pb_read.specs.declared.meta_key.MetaKey.{MetaKey}
use Rattle.pb_read.specs.declared.meta_key.MetaKey.TheVariants as key
use Rattle.pb_read.specs.declared.section.Section.{Section}
use Rattle.pb_read.specs.declared.section.Section.TheVariants as section
use Rattle.pb_read.specs.declared.section.TheConstants.{NAMES as SECTION_NAMES}

-- what is found passes
passes_if : {X : Type 0} (test : X → Bool) (x found : X) (rest : Option X) (b : Bool) → test x ≡ b → (rest ≡ Some found → test found ≡ true)
    → cond b (Some x) rest ≡ Some found → test found ≡ true
passes_if test x found rest true is later e = ap test (sym (same_Some x found e)) ∙ is
passes_if test x found rest false is later e = later e

find_passes : {X : Type 0} (test : X → Bool) (xs : List X) (found : X) → find test xs ≡ Some found → test found ≡ true
find_passes test [] found e = absurd (some≢none (sym e))
find_passes test (x ∷ xs) found e = passes_if test x found (find test xs) (test x) refl (find_passes test xs found) e

-- the first of three that passes
abbrev first_of : {X : Type 0} (a b c : Bool) (x y z : X) → Option X
first_of a b c x y z = cond a (Some x) (cond b (Some y) (cond c (Some z) None))

the_first : {X : Type 0} (a b c : Bool) (x y z : X) → a ≡ true → first_of a b c x y z ≡ Some x
the_first true b c x y z is = refl
the_first false b c x y z is = absurd (false≢true is)

the_second : {X : Type 0} (a b c : Bool) (x y z : X) → a ≡ false → b ≡ true → first_of a b c x y z ≡ Some y
the_second true b c x y z not is = absurd (false≢true (sym not))
the_second false true c x y z not is = refl
the_second false false c x y z not is = absurd (false≢true is)

the_third : {X : Type 0} (a b c : Bool) (x y z : X) → a ≡ false → b ≡ false → c ≡ true → first_of a b c x y z ≡ Some z
the_third true b c x y z not nor is = absurd (false≢true (sym not))
the_third false true c x y z not nor is = absurd (false≢true (sym nor))
the_third false false true x y z not nor is = refl
the_third false false false x y z not nor is = absurd (false≢true is)

-- a head is that of the section whose name it is
abbrev section_name : Section → List ℕ
section_name name = (numbered sections SECTION_NAMES name).1

module _ (row : Fields) where
  abbrev is_head : Section → Bool
  is_head name = is_word (section_name name) (field row 0)

  pub head_named : (name : Section) → head_of row ≡ Some name → is_head name ≡ true
  unfolding head_of
  head_named name e = find_passes is_head (section.Meta ∷ section.Projects ∷ section.Votes ∷ []) name e

  pub named_head : (name : Section) → is_head name ≡ true → head_of row ≡ Some name
  unfolding head_of
  named_head section.Meta is = the_first (is_head section.Meta) (is_head section.Projects) (is_head section.Votes) section.Meta section.Projects section.Votes is
  named_head section.Projects is =
      the_second (is_head section.Meta) (is_head section.Projects) (is_head section.Votes) section.Meta section.Projects section.Votes
      (not_both (section_name section.Projects) (section_name section.Meta) (field row 0) refl is) is
  named_head section.Votes is =
      the_third (is_head section.Meta) (is_head section.Projects) (is_head section.Votes) section.Meta section.Projects section.Votes
      (not_both (section_name section.Votes) (section_name section.Meta) (field row 0) refl is)
      (not_both (section_name section.Votes) (section_name section.Projects) (field row 0) refl is) is

-- a key is the one whose name the text is
module _ (text : List ℕ) where
  abbrev is_key : MetaKey → Bool
  is_key k = is_word (key_text k) text

  pub key_named : (k : MetaKey) → key_of text ≡ Some k → is_key k ≡ true
  key_named k e = find_passes is_key (key.Budget ∷ key.VoteType ∷ key.MaxLength ∷ []) k e

  pub named_key : (k : MetaKey) → is_key k ≡ true → key_of text ≡ Some k
  named_key key.Budget is = the_first (is_key key.Budget) (is_key key.VoteType) (is_key key.MaxLength) key.Budget key.VoteType key.MaxLength is
  named_key key.VoteType is =
      the_second (is_key key.Budget) (is_key key.VoteType) (is_key key.MaxLength) key.Budget key.VoteType key.MaxLength
      (not_both (key_text key.VoteType) (key_text key.Budget) text refl is) is
  named_key key.MaxLength is =
      the_third (is_key key.Budget) (is_key key.VoteType) (is_key key.MaxLength) key.Budget key.VoteType key.MaxLength
      (not_both (key_text key.MaxLength) (key_text key.Budget) text refl is)
      (not_both (key_text key.MaxLength) (key_text key.VoteType) text refl is) is

-- the value of a key is that of its last row
module _ (k : List ℕ) where
  abbrev IsOther : Fields → Type 0
  IsOther row = is_word k (field row 0) ≡ false

  skips : (rows later : List Fields) → All IsOther later → value_of k (rows ++ later) ≡ value_of k rows
  skips rows [] others = ap (value_of k) (append-nil rows)
  skips rows (row ∷ later) others =
      ap (value_of k) (sym (append_assoc rows (row ∷ []) later))
      ∙ skips (rows ++ row ∷ []) later (All-tail IsOther row later others)
      ∙ value_of-push k rows row
      ∙ cond-false _ _ _ (All-head IsOther row later others)

  pub value_is : (before : List Fields) (row : Fields) (later : List Fields) → is_word k (field row 0) ≡ true → All IsOther later
      → value_of k (before ++ row ∷ later) ≡ Some (field row 1)
  value_is before row later is others =
      ap (value_of k) (sym (append_assoc before (row ∷ []) later))
      ∙ skips (before ++ row ∷ []) later others
      ∙ value_of-push k before row
      ∙ cond-true _ _ _ is

  pub no_value : (rows : List Fields) → All IsOther rows → value_of k rows ≡ None
  no_value rows others = skips [] rows others

-- columns are found where each that is needed is
abbrev project_by : (id cost name : Option ℕ) → Option ProjectColumns
project_by id cost name = option_map (λ both. record { id = both.0; cost = both.1; name = name }) (option_zip id cost)

project_found : (id cost name : Option ℕ) (c : ProjectColumns) → project_by id cost name ≡ Some c → (id ≡ Some c.id) × (cost ≡ Some c.cost) × (name ≡ c.name)
project_found None cost name c e = absurd (some≢none (sym e))
project_found (Some x) None name c e = absurd (some≢none (sym e))
project_found (Some x) (Some y) name c e =
    let same = same_Some _ c e in (ap (λ (d : ProjectColumns). Some d.id) same, ap (λ (d : ProjectColumns). Some d.cost) same, ap (λ (d : ProjectColumns). d.name) same)

abbrev vote_by : (voter vote : Option ℕ) → Option VoteColumns
vote_by voter vote = option_map (λ both. record { voter = both.0; vote = both.1 }) (option_zip voter vote)

vote_found : (voter vote : Option ℕ) (c : VoteColumns) → vote_by voter vote ≡ Some c → (voter ≡ Some c.voter) × (vote ≡ Some c.vote)
vote_found None vote c e = absurd (some≢none (sym e))
vote_found (Some x) None c e = absurd (some≢none (sym e))
vote_found (Some x) (Some y) c e =
    let same = same_Some _ c e in (ap (λ (d : VoteColumns). Some d.voter) same, ap (λ (d : VoteColumns). Some d.vote) same)

module _ (header : Fields) where
  pub project_columns_found : (c : ProjectColumns) → project_columns header ≡ Some c
      → (column (codes "project_id") header ≡ Some c.id) × (column (codes "cost") header ≡ Some c.cost) × (column (codes "name") header ≡ c.name)
  project_columns_found c e = project_found (column (codes "project_id") header) (column (codes "cost") header) (column (codes "name") header) c e

  pub project_columns_are : (c : ProjectColumns)
      → (column (codes "project_id") header ≡ Some c.id) × (column (codes "cost") header ≡ Some c.cost) × (column (codes "name") header ≡ c.name)
      → project_columns header ≡ Some c
  project_columns_are c (id, cost, name) = λ i. project_by (id i) (cost i) (name i)

  pub vote_columns_found : (c : VoteColumns) → vote_columns header ≡ Some c
      → (column (codes "voter_id") header ≡ Some c.voter) × (column (codes "vote") header ≡ Some c.vote)
  vote_columns_found c e = vote_found (column (codes "voter_id") header) (column (codes "vote") header) c e

  pub vote_columns_are : (c : VoteColumns) → (column (codes "voter_id") header ≡ Some c.voter) × (column (codes "vote") header ≡ Some c.vote)
      → vote_columns header ≡ Some c
  vote_columns_are c (voter, vote) = λ i. vote_by (voter i) (vote i)

-- an amount is refused by the kind of its fault's number
abbrev kind_of : MoneyFault → ℕ
kind_of fault = tag_of money_faults fault + 11

by_number : (kind : ReadKind) (fault : MoneyFault) → fails_by kind (Err fault) ≡ (number_of kind == kind_of fault)
by_number kinds.ReadFailed money.BadMoney = refl
by_number kinds.ReadFailed money.MoneyTooFine = refl
by_number kinds.ReadFailed money.MoneyTooLarge = refl
by_number kinds.NotText money.BadMoney = refl
by_number kinds.NotText money.MoneyTooFine = refl
by_number kinds.NotText money.MoneyTooLarge = refl
by_number kinds.TooManyRecords money.BadMoney = refl
by_number kinds.TooManyRecords money.MoneyTooFine = refl
by_number kinds.TooManyRecords money.MoneyTooLarge = refl
by_number kinds.NoSection money.BadMoney = refl
by_number kinds.NoSection money.MoneyTooFine = refl
by_number kinds.NoSection money.MoneyTooLarge = refl
by_number kinds.SectionOrder money.BadMoney = refl
by_number kinds.SectionOrder money.MoneyTooFine = refl
by_number kinds.SectionOrder money.MoneyTooLarge = refl
by_number kinds.NoHeader money.BadMoney = refl
by_number kinds.NoHeader money.MoneyTooFine = refl
by_number kinds.NoHeader money.MoneyTooLarge = refl
by_number kinds.MissingColumn money.BadMoney = refl
by_number kinds.MissingColumn money.MoneyTooFine = refl
by_number kinds.MissingColumn money.MoneyTooLarge = refl
by_number kinds.MissingField money.BadMoney = refl
by_number kinds.MissingField money.MoneyTooFine = refl
by_number kinds.MissingField money.MoneyTooLarge = refl
by_number kinds.MissingKey money.BadMoney = refl
by_number kinds.MissingKey money.MoneyTooFine = refl
by_number kinds.MissingKey money.MoneyTooLarge = refl
by_number kinds.VoteType money.BadMoney = refl
by_number kinds.VoteType money.MoneyTooFine = refl
by_number kinds.VoteType money.MoneyTooLarge = refl
by_number kinds.BadMoney money.BadMoney = refl
by_number kinds.BadMoney money.MoneyTooFine = refl
by_number kinds.BadMoney money.MoneyTooLarge = refl
by_number kinds.MoneyTooFine money.BadMoney = refl
by_number kinds.MoneyTooFine money.MoneyTooFine = refl
by_number kinds.MoneyTooFine money.MoneyTooLarge = refl
by_number kinds.MoneyTooLarge money.BadMoney = refl
by_number kinds.MoneyTooLarge money.MoneyTooFine = refl
by_number kinds.MoneyTooLarge money.MoneyTooLarge = refl
by_number kinds.ZeroCost money.BadMoney = refl
by_number kinds.ZeroCost money.MoneyTooFine = refl
by_number kinds.ZeroCost money.MoneyTooLarge = refl
by_number kinds.EmptyId money.BadMoney = refl
by_number kinds.EmptyId money.MoneyTooFine = refl
by_number kinds.EmptyId money.MoneyTooLarge = refl
by_number kinds.RepeatedProject money.BadMoney = refl
by_number kinds.RepeatedProject money.MoneyTooFine = refl
by_number kinds.RepeatedProject money.MoneyTooLarge = refl
by_number kinds.RepeatedVoter money.BadMoney = refl
by_number kinds.RepeatedVoter money.MoneyTooFine = refl
by_number kinds.RepeatedVoter money.MoneyTooLarge = refl
by_number kinds.UnknownProject money.BadMoney = refl
by_number kinds.UnknownProject money.MoneyTooFine = refl
by_number kinds.UnknownProject money.MoneyTooLarge = refl
by_number kinds.TooManyProjects money.BadMoney = refl
by_number kinds.TooManyProjects money.MoneyTooFine = refl
by_number kinds.TooManyProjects money.MoneyTooLarge = refl
by_number kinds.TooManyVoters money.BadMoney = refl
by_number kinds.TooManyVoters money.MoneyTooFine = refl
by_number kinds.TooManyVoters money.MoneyTooLarge = refl
by_number kinds.NoMemory money.BadMoney = refl
by_number kinds.NoMemory money.MoneyTooFine = refl
by_number kinds.NoMemory money.MoneyTooLarge = refl
by_number kinds.BadLength money.BadMoney = refl
by_number kinds.BadLength money.MoneyTooFine = refl
by_number kinds.BadLength money.MoneyTooLarge = refl

not_by_an_amount : (kind : ReadKind) (amount : ℕ) → fails_by kind (Ok amount) ≡ false
not_by_an_amount kinds.ReadFailed amount = refl
not_by_an_amount kinds.NotText amount = refl
not_by_an_amount kinds.TooManyRecords amount = refl
not_by_an_amount kinds.NoSection amount = refl
not_by_an_amount kinds.SectionOrder amount = refl
not_by_an_amount kinds.NoHeader amount = refl
not_by_an_amount kinds.MissingColumn amount = refl
not_by_an_amount kinds.MissingField amount = refl
not_by_an_amount kinds.MissingKey amount = refl
not_by_an_amount kinds.VoteType amount = refl
not_by_an_amount kinds.BadMoney amount = refl
not_by_an_amount kinds.MoneyTooFine amount = refl
not_by_an_amount kinds.MoneyTooLarge amount = refl
not_by_an_amount kinds.ZeroCost amount = refl
not_by_an_amount kinds.EmptyId amount = refl
not_by_an_amount kinds.RepeatedProject amount = refl
not_by_an_amount kinds.RepeatedVoter amount = refl
not_by_an_amount kinds.UnknownProject amount = refl
not_by_an_amount kinds.TooManyProjects amount = refl
not_by_an_amount kinds.TooManyVoters amount = refl
not_by_an_amount kinds.NoMemory amount = refl
not_by_an_amount kinds.BadLength amount = refl

pub fault_of_number : (kind : ReadKind) (read : Result ℕ MoneyFault) → fails_by kind read ≡ true → (fault : MoneyFault) × (read ≡ Err fault) × (number_of kind ≡ kind_of fault)
fault_of_number kind (Ok amount) is = absurd (false≢true (sym (not_by_an_amount kind amount) ∙ is))
fault_of_number kind (Err fault) is = (fault, refl, eqb-true (number_of kind) (kind_of fault) (sym (by_number kind fault) ∙ is))

pub numbered_fault : (kind : ReadKind) (read : Result ℕ MoneyFault) → (fault : MoneyFault) × (read ≡ Err fault) × (number_of kind ≡ kind_of fault) → fails_by kind read ≡ true
numbered_fault kind read (fault, refused, same) = ap (fails_by kind) refused ∙ (by_number kind fault ∙ eq-eqb (number_of kind) (kind_of fault) same)
