-- How a voters' roll is read, row by row.
use Rattle.std.proofs.Common.{◌≡◌, ◌∙◌, ℕ, ◌+◌, ◌<◌, ◌≤◌, Bool, true, false, List, [], ◌∷◌, ◌++◌, length, map, codes, Option, Some, None, inl, inr, refl, sym, ap, subst, arith, length-append, if◌then◌else◌}
use Rattle.std.specs.Prelude.{IfErr, IfSome, IsErrAnd, Result, Ok, Err, is_some, drop, ◌||◌, ◌==◌, option_map, unwrap_or}
use Rattle.std.specs.Str.{bytes_eq, trim}
use Rattle.std.specs.FinMap.{empty, get, insert}
use Rattle.std.proofs.lemmas.Bool.{cases_eq, eq-eqb, ne_eqb}
use Rattle.std.proofs.lemmas.List.{append-nil, append_assoc, map-append}
use Rattle.std.proofs.lemmas.List.Elements.{All-nil, All-push}
use Rattle.std.proofs.lemmas.List.Folds.{list_any-append}
use Rattle.std.proofs.lemmas.Slice.Eq.{bytes_eq-Decides}
use Rattle.csv.specs.Records.{AllText, field_at}
use Rattle.pb_ids.specs.Inner.Places.{Places, get_inserted, get_none}
use Rattle.pb_read.specs.Rows.{field}
use Rattle.pb_read.specs.Voting.{is_among}
use Rattle.pb_rows.specs.Reading.{Fields, IsNext}
use Rattle.pb_script.specs.Inner.Roll.{HaveIds, IsFaultAfter, PutsId}
use Rattle.pb_script.specs.Inner.ScriptReading.{HaveGone}
use Rattle.pb_script.specs.Roll.{IsNextRollFault, ids_of}
use Rattle.pb_script.specs.Inner.Roll.{IsRoll, IsRollFault}
use Rattle.pb_read.specs.StandsFor.{most_records}
use Rattle.pb_script.specs.declared.roll.RollFault.{RollFault}
use Rattle.pb_script.specs.declared.roll.RollFault.TheVariants.{NoMemory}

bytes_eq-sym : (x y : List ℕ) → bytes_eq x y ≡ bytes_eq y x
bytes_eq-sym x y = by (bytes_eq x y) (bytes_eq y x) refl refl
  where
    by : (s t : Bool) → bytes_eq x y ≡ s → bytes_eq y x ≡ t → s ≡ t
    by true true p q = refl
    by true false p q = sym ((bytes_eq-Decides y x).1 (sym ((bytes_eq-Decides x y).0 p))) ∙ q
    by false true p q = sym p ∙ (bytes_eq-Decides x y).1 (sym ((bytes_eq-Decides y x).0 q))
    by false false p q = refl

-- the first field of a row, where there is one
pub first_is : {A : Type 0} (f : A → List ℕ) (got : Option A) (d : A) (row : Fields) → option_map f got ≡ field_at row 0 → f d ≡ [] → f (unwrap_or got d) ≡ field row 0
unfolding field_at
first_is f None d [] is none = none
first_is f None d (x ∷ row) is none = cc is
first_is f (Some a) d [] is none = cc is
first_is f (Some a) d (x ∷ row) is none = cc is

-- a table with an id more
has_more : (roll : Places) (id : List ℕ) (ids : List (List ℕ)) → ((voter : List ℕ) → is_some (get roll voter) ≡ is_among ids voter) →
    (voter : List ℕ) → is_some (get (insert roll id 0) voter) ≡ is_among (ids ++ id ∷ []) voter
has_more roll id ids has voter =
    ap is_some (get_inserted roll id 0 voter) ∙ either (bytes_eq id voter) (get roll voter)
    ∙ (λ i. has voter i || (bytes_eq-sym id voter i || false)) ∙ sym (list_any-append (bytes_eq voter) ids (id ∷ []))
  where
    either : (b : Bool) (there : Option ℕ) → is_some (if b then Some 0 else there) ≡ (is_some there || (b || false))
    either true None = refl
    either true (Some place) = refl
    either false None = refl
    either false (Some place) = refl

-- a first row that is a header
ids_of-header : (row : Fields) → bytes_eq (trim (field row 0)) (codes "voter_id") ≡ true → ids_of (row ∷ []) ≡ []
ids_of-header row is = ap (λ (b : Bool). if b then drop 1 (trim (field row 0) ∷ []) else trim (field row 0) ∷ []) is

-- one row more, which is no header
ids_of-more : (gone : List Fields) (row : Fields) → (length gone ≡ 0 → bytes_eq (trim (field row 0)) (codes "voter_id") ≡ false) → ids_of (gone ++ row ∷ []) ≡ ids_of gone ++ trim (field row 0) ∷ []
ids_of-more [] row none = ap (λ (b : Bool). if b then drop 1 (trim (field row 0) ∷ []) else trim (field row 0) ∷ []) (none refl)
ids_of-more (g ∷ gs) row none =
    let tested = bytes_eq (trim (field g 0)) (codes "voter_id") in
    ap (λ (ids : List (List ℕ)). if tested then drop 1 (trim (field g 0) ∷ ids) else trim (field g 0) ∷ ids) (map-append (λ (row : Fields). trim (field row 0)) gs (row ∷ []))
    ∙ by tested (map (λ (row : Fields). trim (field row 0)) gs)
  where
    by : (b : Bool) (ids : List (List ℕ)) → (if b then drop 1 (trim (field g 0) ∷ ids ++ trim (field row 0) ∷ []) else trim (field g 0) ∷ ids ++ trim (field row 0) ∷ [])
        ≡ (if b then drop 1 (trim (field g 0) ∷ ids) else trim (field g 0) ∷ ids) ++ trim (field row 0) ∷ []
    by true ids = refl
    by false ids = refl

none_gone : (all : Option (List Fields)) → HaveGone all [] all
none_gone None = tt
none_gone (Some rows) = refl

one_gone : (all left after : Option (List Fields)) (gone : List Fields) (fields : Fields) → HaveGone all gone left → IsNext left after true fields → HaveGone all (gone ++ fields ∷ []) after
one_gone None left after gone fields have next = tt
one_gone (Some rows) None after gone fields have next = absurd have
one_gone (Some rows) (Some []) after gone fields have next = cc next
one_gone (Some rows) (Some (row ∷ rest)) after gone fields have next =
    rw next.2 (have ∙ ap (λ r. gone ++ r ∷ rest) (sym next.1) ∙ sym (append_assoc gone (fields ∷ []) rest))

-- before the first row
pub HaveIds-start : (all : Option (List Fields)) (roll : Places) → roll ≡ empty → HaveIds all all 0 0 roll
HaveIds-start all roll is = record {
  gone = [];
  have_gone = none_gone all;
  text = All-nil AllText;
  count = refl;
  counted = refl;
  has = λ voter. ap (λ (r : Places). is_some (get r voter)) is ∙ ap is_some (get_none voter);
}

nothing : (gone : List Fields) → length gone ≡ 0 → gone ≡ []
nothing [] none = refl
nothing (g ∷ gs) none = absurd (omega (arith, none))

-- one row more
pub HaveIds-more : (all left after : Option (List Fields)) (rows ids : ℕ) (roll new : Places) (fields : Fields) (is_first has_id : Bool) →
    HaveIds all left rows ids roll → IsNext left after true fields → AllText fields → ((is_first ≡ true → rows ≡ 0) × (rows ≡ 0 → is_first ≡ true)) →
    PutsId fields is_first has_id roll new → HaveIds all after (rows + 1) (if has_id then ids + 1 else ids) new
HaveIds-more all left after rows ids roll new fields is_first true have next text first puts =
    let size = length-append have.gone (fields ∷ []) in
    let rows_are = have.count in
    let ids_are = have.counted in
    let put = puts.id refl in
    let more = ids_of-more have.gone fields (λ none. put.0 (first.1 (omega (arith, none, rows_are)))) in
    let longer = length-append (ids_of have.gone) (trim (field fields 0) ∷ []) in
    record {
      gone = have.gone ++ fields ∷ [];
      have_gone = one_gone all left after have.gone fields have.have_gone next;
      text = All-push AllText have.gone fields have.text text;
      count = omega (arith, size, rows_are);
      counted = ap length more ∙ omega (arith, longer, ids_are);
      has = λ voter. ap (λ (r : Places). is_some (get r voter)) put.1 ∙ has_more roll (trim (field fields 0)) (ids_of have.gone) have.has voter ∙ ap (λ (l : List (List ℕ)). is_among l voter) (sym more);
    }
HaveIds-more all left after rows ids roll new fields is_first false have next text first puts =
    let size = length-append have.gone (fields ∷ []) in
    let rows_are = have.count in
    let ids_are = have.counted in
    let header = puts.header refl in
    let none : have.gone ≡ [] = let at_start = first.0 header.0 in nothing have.gone (omega (arith, rows_are, at_start)) in
    let before : ids_of have.gone ≡ [] = ap ids_of none in
    let after_is : ids_of (have.gone ++ fields ∷ []) ≡ [] = ap (λ (gone : List Fields). ids_of (gone ++ fields ∷ [])) none ∙ ids_of-header fields header.1 in
    let same : ids_of (have.gone ++ fields ∷ []) ≡ ids_of have.gone = after_is ∙ sym before in
    record {
      gone = have.gone ++ fields ∷ [];
      have_gone = one_gone all left after have.gone fields have.have_gone next;
      text = All-push AllText have.gone fields have.text text;
      count = omega (arith, size, rows_are);
      counted = ap length same ∙ ids_are;
      has = λ voter. ap (λ (r : Places). is_some (get r voter)) header.2 ∙ have.has voter ∙ ap (λ (l : List (List ℕ)). is_among l voter) (sym same);
    }

first_is_zero : (n : ℕ) → ((n == 0) ≡ true → n ≡ 0) × (n ≡ 0 → (n == 0) ≡ true)
first_is_zero n = (by, eq-eqb n 0)
  where
    by : (n == 0) ≡ true → n ≡ 0
    by is = elim (cases_eq n 0) [
      | inl same ↦ same
      | inr other ↦ let never : true ≡ false = sym is ∙ ne_eqb n 0 other in cc
    ]

-- one row more, of a roll with few ids
pub rows_more : (all left after : Option (List Fields)) (rows ids more : ℕ) (roll new : Places) (fields : Fields) (has_id : Bool) →
    (ids ≤ most_records) × (rows ≤ ids + 1) × HaveIds all left rows ids roll → IsNext left after true fields → AllText fields → ids < most_records →
    PutsId fields (rows == 0) has_id roll new → more ≡ (if has_id then ids + 1 else ids) → (more ≤ most_records) × (rows + 1 ≤ more + 1) × HaveIds all after (rows + 1) more new
rows_more all left after rows ids more roll new fields true have next text few puts is =
    let longer = HaveIds-more all left after rows ids roll new fields (rows == 0) true have.2 next text (first_is_zero rows) puts in
    (omega (arith, is, few), omega (arith, is, have.1), subst (λ (n : ℕ). HaveIds all after (rows + 1) n new) (sym is) longer)
rows_more all left after rows ids more roll new fields false have next text few puts is =
    let longer = HaveIds-more all left after rows ids roll new fields (rows == 0) false have.2 next text (first_is_zero rows) puts in
    let none = (first_is_zero rows).0 (puts.header refl).0 in
    (omega (arith, is, few), omega (arith, none), subst (λ (n : ℕ). HaveIds all after (rows + 1) n new) (sym is) longer)

-- no row is left
pub HaveIds-end : (all left after : Option (List Fields)) (rows ids : ℕ) (roll : Places) (fields : Fields) → HaveIds all left rows ids roll → ids ≤ most_records → IsNext left after false fields →
    IfSome all (λ rows. IsRoll rows roll)
HaveIds-end None left after rows ids roll fields have few next = tt
HaveIds-end (Some all) left after rows ids roll fields have few next =
    subst (λ (records : List Fields). IsRoll records roll) (sym (all_gone left have.have_gone next)) ((have.text, let ids_are = have.counted in omega (arith, ids_are, few)), have.has)
  where
    all_gone : (left : Option (List Fields)) → HaveGone (Some all) have.gone left → IsNext left after false fields → all ≡ have.gone
    all_gone None is next = absurd is
    all_gone (Some []) is next = is ∙ append-nil have.gone
    all_gone (Some (row ∷ rest)) is next = let never : false ≡ true = next.0 in cc

-- the next row has a fault
pub HaveIds-fault : (all left : Option (List Fields)) (rows ids : ℕ) (roll : Places) (fault : RollFault) → HaveIds all left rows ids roll → ids ≤ most_records →
    IfSome left (λ left. IsFaultAfter rows ids left fault) → IfSome all (λ rows. IsRollFault rows fault)
HaveIds-fault None left rows ids roll fault have few next = tt
HaveIds-fault (Some all) None rows ids roll fault have few next = absurd have.have_gone
HaveIds-fault (Some all) (Some rest) rows ids roll fault have few next =
    (have.gone, rest, have.have_gone, (have.text, let ids_are = have.counted in omega (arith, ids_are, few)), next have.gone have.count have.counted few)

no_memory : (before left : List Fields) → IsNextRollFault before left NoMemory
no_memory before [] = refl
no_memory before (fields ∷ rest) = refl

pub roll_memory : (all : Option (List Fields)) → IfSome all (λ rows. IsRollFault rows NoMemory)
roll_memory None = tt
roll_memory (Some rows) = ([], rows, refl, (All-nil AllText, omega arith), no_memory [] rows)

pub error_of_memory : {A : Type 0} (all : Option (List Fields)) (r : Result A RollFault) → IsErrAnd r (λ fault. fault ≡ NoMemory) → IfErr r (λ fault. IfSome all (λ rows. IsRollFault rows fault))
error_of_memory all (Ok done) is = tt
error_of_memory all (Err fault) is = let P : RollFault → Type 0 = λ f. IfSome all (λ rows. IsRollFault rows f) in subst P (sym is) (roll_memory all)
