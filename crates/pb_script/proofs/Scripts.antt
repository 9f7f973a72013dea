-- How a script is read, row by row.
use Rattle.std.proofs.Common.{◌≡◌, ℕ, ◌+◌, ◌<◌, List, [], ◌∷◌, ◌++◌, length, get_or, set, replicate, Bool, true, false, subst, ◌≤◌, Option, Some, None, IfSome, refl, sym, ap, ◌∙◌, inl, inr, arith, length-append}
use Rattle.std.specs.List.{AllZip, filter}
use Rattle.std.specs.Prelude.{All, ◌==◌, map, cond, IfErr, IsErrAnd, Result, Ok, Err}
use Rattle.std.proofs.lemmas.Bool.{cases_eq, eq-eqb, ne_eqb}
use Rattle.std.proofs.lemmas.List.{append-nil, append_assoc, get_or_default, length-map, map-append, length-set, length-replicate, get_or-replicate, get_or-set_same, get_or-set_other}
use Rattle.std.proofs.lemmas.List.Elements.{All-cons, All-nil, filter-append}
use Rattle.std.proofs.lemmas.List.Sums.{count_by-le-length, length-filter}
use Rattle.pb_core.specs.Request.{RequestView}
use Rattle.pb_rows.specs.Reading.{Fields, IsNext}
use Rattle.pb_rows.specs.Inner.Reading.{HasReadAtMost}
use Rattle.pb_script.specs.Inner.Admission.{Admits, IsAdmitted}
use Rattle.pb_read.specs.StandsFor.{most_records}
use Rattle.pb_desk.specs.Rows.{ScriptRowView}
use Rattle.pb_script.specs.declared.admission.Admission.{Admission}
use Rattle.pb_script.specs.Inner.Script.{AreAsked, clerks_within, asked_by}
use Rattle.pb_script.specs.ScriptReading.{IsNextScriptFault}
use Rattle.pb_script.specs.Inner.ScriptReading.{IsFaultOfScript}
use Rattle.pb_script.specs.Inner.ScriptReading.{HaveAsked, HaveGone, NoneLeft, SplitsScript, TakesScriptRow}
use Rattle.pb_script.specs.declared.script_fault.ScriptFault.{ScriptFault}
use Rattle.pb_script.specs.declared.script_fault.ScriptFault.TheVariants.{NoMemory}

-- one more of each
AllZip-push : {X Y : Type 0} (R : X → Y → Type 0) (xs : List X) (ys : List Y) (x : X) (y : Y) → AllZip R xs ys → R x y → AllZip R (xs ++ x ∷ []) (ys ++ y ∷ [])
AllZip-push R [] [] x y f r = (r, tt)
AllZip-push R [] (b ∷ ys) x y f r = absurd f
AllZip-push R (a ∷ xs) [] x y f r = absurd f
AllZip-push R (a ∷ xs) (b ∷ ys) x y f r = (f.0, AllZip-push R xs ys x y f.1 r)

-- what a clerk asks in a script with a row more
asked_by-push : (clerk : ℕ) (script : List ScriptRowView) (x : ScriptRowView) → asked_by clerk (script ++ x ∷ []) ≡ asked_by clerk script ++ cond (x.clerk == clerk) (x.request ∷ []) []
asked_by-push clerk script x =
    ap (map (λ (y : ScriptRowView). y.request)) (filter-append (λ (y : ScriptRowView). y.clerk == clerk) script (x ∷ []))
    ∙ map-append (λ (y : ScriptRowView). y.request) (filter (λ (y : ScriptRowView). y.clerk == clerk) script) (filter (λ (y : ScriptRowView). y.clerk == clerk) (x ∷ []))
    ∙ ap (λ more. asked_by clerk script ++ more) (last (x.clerk == clerk))
  where
    last : (test : Bool) → map (λ (y : ScriptRowView). y.request) (cond test (x ∷ []) []) ≡ cond test (x.request ∷ []) []
    last true = refl
    last false = refl

-- a row of one clerk goes after what that clerk asked, and leaves the others' lists
AreAsked-more : (clerks : ℕ) (script : List ScriptRowView) (x : ScriptRowView) (lists new : List (List RequestView)) → AreAsked clerks script lists → x.clerk < clerks_within clerks →
    new ≡ set lists x.clerk (get_or lists x.clerk [] ++ x.request ∷ []) → AreAsked clerks (script ++ x ∷ []) new
AreAsked-more clerks script x lists new are within is = record {
  one_each = ap length is ∙ length-set lists x.clerk _ ∙ are.one_each;
  asked = λ clerk below.
      let before = are.asked clerk below in
      let inside : x.clerk < length lists = let size = are.one_each in omega arith in
      elim (cases_eq clerk x.clerk) [
        | inl same ↦
            let hit : (x.clerk == clerk) ≡ true = eq-eqb x.clerk clerk (sym same) in
            let put : get_or new clerk [] ≡ get_or lists clerk [] ++ x.request ∷ [] = rw (is, same) (get_or-set_same lists x.clerk _ [] inside) in
            put ∙ ap (λ xs. xs ++ x.request ∷ []) before ∙ sym (asked_by-push clerk script x ∙ ap (λ t. asked_by clerk script ++ cond t (x.request ∷ []) []) hit)
        | inr other ↦
            let miss : (x.clerk == clerk) ≡ false = ne_eqb x.clerk clerk (λ q. other (sym q)) in
            let kept : get_or new clerk [] ≡ get_or lists clerk [] = rw is (get_or-set_other lists x.clerk clerk _ [] other) in
            kept ∙ before ∙ sym (asked_by-push clerk script x ∙ ap (λ t. asked_by clerk script ++ cond t (x.request ∷ []) []) miss ∙ append-nil (asked_by clerk script))
      ];
}

-- before the first row
pub HaveAsked-start : (a : Admission) (clerks : ℕ) (all : Option (List Fields)) (lists : List (List RequestView)) → lists ≡ replicate (clerks_within clerks) [] → HaveAsked a clerks all all 0 lists
HaveAsked-start a clerks all lists is = record {
  gone = [];
  script = [];
  have_gone = none_gone all;
  rows = tt;
  count_is = refl;
  lists_are = record {
    one_each = ap length is ∙ length-replicate (clerks_within clerks) [];
    asked = λ clerk below. rw is (get_or-replicate (clerks_within clerks) clerk [] [] below);
  };
}
  where
    none_gone : (all : Option (List Fields)) → HaveGone all [] all
    none_gone None = tt
    none_gone (Some rows) = refl

-- one row more
pub HaveAsked-more : (a : Admission) (clerks : ℕ) (all left after : Option (List Fields)) (count : ℕ) (x : ScriptRowView) (lists new : List (List RequestView)) →
    HaveAsked a clerks all left count lists → TakesScriptRow a clerks left after x → new ≡ set lists x.clerk (get_or lists x.clerk [] ++ x.request ∷ []) →
    HaveAsked a clerks all after (count + 1) new
HaveAsked-more a clerks all left after count x lists new have takes is =
    let size = length-append have.gone (takes.fields ∷ []) in
    let counted = have.count_is in
    record {
      gone = have.gone ++ takes.fields ∷ [];
      script = have.script ++ x ∷ [];
      have_gone = one_more all left after have.gone takes.fields have.have_gone takes.next;
      rows = AllZip-push (Admits a clerks) have.gone have.script takes.fields x have.rows takes.row;
      count_is = omega arith;
      lists_are = AreAsked-more clerks have.script x lists new have.lists_are (let by = takes.row.0.1.by_clerk in omega (arith, by.0, by.1)) is;
    }
  where
    one_more : (all left after : Option (List Fields)) (gone : List Fields) (fields : Fields) → HaveGone all gone left → IsNext left after true fields → HaveGone all (gone ++ fields ∷ []) after
    one_more None left after gone fields have next = tt
    one_more (Some rows) None after gone fields have next = absurd have
    one_more (Some rows) (Some []) after gone fields have next = cc next
    one_more (Some rows) (Some (row ∷ rest)) after gone fields have next =
        rw next.2 (have ∙ ap (λ r. gone ++ r ∷ rest) (sym next.1) ∙ sym (append_assoc gone (fields ∷ []) rest))

-- no row is left
pub HaveAsked-end : (a : Admission) (clerks : ℕ) (all left : Option (List Fields)) (count : ℕ) (lists : List (List RequestView)) → HaveAsked a clerks all left count lists → NoneLeft left → count ≤ most_records →
    IfSome all (λ rows. SplitsScript a clerks rows lists)
HaveAsked-end a clerks None left count lists have none few = tt
HaveAsked-end a clerks (Some rows) left count lists have none few =
    (have.script, record { few = let counted = have.count_is in omega (arith, ap length all_gone); rows = let P : List Fields → Type 0 = λ all. AllZip (Admits a clerks) all have.script in subst P (sym all_gone) have.rows }, have.lists_are)
  where
    gone_is : (left : Option (List Fields)) → HaveGone (Some rows) have.gone left → NoneLeft left → rows ≡ have.gone
    gone_is None is none = absurd is
    gone_is (Some rest) is none = is ∙ ap (λ more. have.gone ++ more) none ∙ append-nil have.gone

    all_gone : rows ≡ have.gone
    all_gone = gone_is left have.have_gone none

-- the rows of a script have its form
of_form : (a : Admission) (clerks : ℕ) (records : List Fields) (script : List ScriptRowView) → AllZip (Admits a clerks) records script → All (IsAdmitted a clerks) records
of_form a clerks [] [] rows = All-nil (IsAdmitted a clerks)
of_form a clerks [] (x ∷ xs) rows = absurd rows
of_form a clerks (r ∷ rs) [] rows = absurd rows
of_form a clerks (r ∷ rs) (x ∷ xs) rows = All-cons (IsAdmitted a clerks) r rs (x, rows.0) (of_form a clerks rs xs rows.1)

-- the next row has a fault
pub HaveAsked-fault : (a : Admission) (clerks : ℕ) (all left : Option (List Fields)) (count : ℕ) (lists : List (List RequestView)) (fault : ScriptFault) → HaveAsked a clerks all left count lists →
    IfSome left (λ left. IsNextScriptFault a clerks count left fault) → IfSome all (λ rows. IsFaultOfScript a clerks rows fault)
HaveAsked-fault a clerks None left count lists fault have next = tt
HaveAsked-fault a clerks (Some rows) None count lists fault have next = absurd have.have_gone
HaveAsked-fault a clerks (Some rows) (Some rest) count lists fault have next = (
  have.gone,
  rest,
  have.have_gone,
  of_form a clerks have.gone have.script have.rows,
  (let P : ℕ → Type 0 = λ n. IsNextScriptFault a clerks n rest fault in subst P (sym have.count_is) next),
)

-- refused memory is no fault of the rows
pub memory_fault : (a : Admission) (clerks : ℕ) (all : Option (List Fields)) → IfSome all (λ rows. IsFaultOfScript a clerks rows NoMemory)
memory_fault a clerks None = tt
memory_fault a clerks (Some rows) = ([], rows, refl, All-nil (IsAdmitted a clerks), no_memory rows)
  where
    no_memory : (left : List Fields) → IsNextScriptFault a clerks 0 left NoMemory
    no_memory [] = tt
    no_memory (fields ∷ rest) = tt

pub error_of_memory : {A : Type 0} (a : Admission) (clerks : ℕ) (all : Option (List Fields)) (r : Result A ScriptFault) → IsErrAnd r (λ fault. fault ≡ NoMemory) →
    IfErr r (λ fault. IfSome all (λ rows. IsFaultOfScript a clerks rows fault))
error_of_memory a clerks all (Ok done) is = tt
error_of_memory a clerks all (Err fault) is = let P : ScriptFault → Type 0 = λ f. IfSome all (λ rows. IsFaultOfScript a clerks rows f) in subst P (sym is) (memory_fault a clerks all)

-- a script has as many records as rows
records_are_rows : (a : Admission) (clerks : ℕ) (records : List Fields) (script : List ScriptRowView) → AllZip (Admits a clerks) records script → length script ≡ length records
records_are_rows a clerks [] [] rows = refl
records_are_rows a clerks [] (x ∷ xs) rows = absurd rows
records_are_rows a clerks (r ∷ rs) [] rows = absurd rows
records_are_rows a clerks (r ∷ rs) (x ∷ xs) rows = let more = records_are_rows a clerks rs xs rows.1 in omega arith

-- no clerk asks more than a script has rows
pub HaveAsked-read : (a : Admission) (clerks : ℕ) (all left after : Option (List Fields)) (count : ℕ) (lists : List (List RequestView)) → HaveAsked a clerks all left count lists → count ≤ most_records →
    HasReadAtMost 1 left after → HasReadAtMost 2000001 all after
HaveAsked-read a clerks None left after count lists have few one = tt
HaveAsked-read a clerks (Some all) None after count lists have few one = absurd have.have_gone
HaveAsked-read a clerks (Some all) (Some rest) None count lists have few one = tt
HaveAsked-read a clerks (Some all) (Some rest) (Some more) count lists have few one =
    omega (arith, ap length have.have_gone, length-append have.gone rest, have.count_is, few, one)

pub HaveAsked-few : (a : Admission) (clerks : ℕ) (all left : Option (List Fields)) (count : ℕ) (lists : List (List RequestView)) → HaveAsked a clerks all left count lists → count ≤ most_records →
    All (λ list. length list ≤ most_records) lists
HaveAsked-few a clerks all left count lists have few = λ k d below.
    let are = have.lists_are in
    let size = are.one_each in
    let list = get_or_default lists k d [] below ∙ are.asked k (omega arith) in
    let kept = filter (λ (x : ScriptRowView). x.clerk == k) have.script in
    let mapped = length-map kept (λ (x : ScriptRowView). x.request) in
    let rows = records_are_rows a clerks have.gone have.script have.rows in
    let counted = have.count_is in
    omega (arith, ap length list, length-filter {X = ScriptRowView}, count_by-le-length {X = ScriptRowView})
