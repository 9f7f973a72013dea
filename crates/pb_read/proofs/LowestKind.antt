-- The first kind that applies, in the order of all kinds, has the lowest number.
use Rattle.std.proofs.Common.{◌≡◌, ◌<◌, ◌≤◌, ◌+◌, ◌-◌, ◌⊎◌, ◌==◌, ℕ, zero, suc, Bool, true, false, cond, not, List, [], ◌∷◌, Option, Some, None, refl, ap, sym, ◌∙◌, subst, arith, inl, inr, get_or}
use Rattle.std.specs.Prelude.{drop, take}
use Rattle.std.specs.List.{AllByRecursion, find, list_all}
use Rattle.std.specs.Str.{is_utf8}
use Rattle.std.proofs.lemmas.Bool.{cases_order, true≢false}
use Rattle.std.proofs.lemmas.Option.{same_Some}
use Rattle.pb_rows.specs.Reading.{Fields}
use Rattle.pb_read.proofs.ListFacts.{AllByRecursion-right, cond_none, some≢none}
use Rattle.pb_read.specs.Inner.Forms.{next_row}
use Rattle.pb_read.specs.Faults.{applies, applies_after}
use Rattle.pb_read.specs.Kinds.{number_of}
use Rattle.pb_read.specs.Inner.Machine.{Position, all_kinds, lowest_kind, row_fault}
use Rattle.pb_read.specs.Inner.Fields.{trimmed}
use Rattle.pb_read.specs.Stages.{Next, the_end, blank, head, plain}
use Rattle.pb_read.specs.StandsFor.{most_records}
use Rattle.pb_read.specs.declared.fault.ReadKind.{ReadKind}
use Rattle.pb_read.specs.declared.fault.ReadKind.TheVariants as kinds
use Rattle.pb_read.specs.declared.progress.Stage.TheVariants.{Start, Header, InMeta, InProjects, InVotes}
use Rattle.pb_read.specs.declared.section.Section.TheVariants as section

-- the numbers of these kinds rise by one
abbrev NumberedFrom : ℕ → List ReadKind → Type 0
NumberedFrom n [] = Unit {0}
NumberedFrom n (kind ∷ rest) = (number_of kind ≡ n) × NumberedFrom (n + 1) rest

all_numbered : NumberedFrom 1 all_kinds
all_numbered = (refl, (refl, (refl, (refl, (refl, (refl, (refl, (refl, (refl, (refl, (refl, (refl, (refl, (refl, (refl, (refl, (refl, (refl, (refl, (refl, (refl, (refl, tt))))))))))))))))))))))

-- each kind stands where its number says
stands_at : (kind : ReadKind) → get_or all_kinds (number_of kind - 1) kinds.NoMemory ≡ kind
stands_at kinds.ReadFailed = refl
stands_at kinds.NotText = refl
stands_at kinds.TooManyRecords = refl
stands_at kinds.NoSection = refl
stands_at kinds.SectionOrder = refl
stands_at kinds.NoHeader = refl
stands_at kinds.MissingColumn = refl
stands_at kinds.MissingField = refl
stands_at kinds.MissingKey = refl
stands_at kinds.VoteType = refl
stands_at kinds.BadMoney = refl
stands_at kinds.MoneyTooFine = refl
stands_at kinds.MoneyTooLarge = refl
stands_at kinds.ZeroCost = refl
stands_at kinds.EmptyId = refl
stands_at kinds.RepeatedProject = refl
stands_at kinds.RepeatedVoter = refl
stands_at kinds.UnknownProject = refl
stands_at kinds.TooManyProjects = refl
stands_at kinds.TooManyVoters = refl
stands_at kinds.NoMemory = refl
stands_at kinds.BadLength = refl

pub same_number : (k l : ReadKind) → number_of k ≡ number_of l → k ≡ l
same_number k l e = sym (stands_at k) ∙ ap (λ n. get_or all_kinds (n - 1) kinds.NoMemory) e ∙ stands_at l

numbered_from_one : (kind : ReadKind) → 1 ≤ number_of kind
numbered_from_one kind = go (number_of kind) refl
  where
    go : (n : ℕ) → number_of kind ≡ n → 1 ≤ n
    go zero e =
        let first : kinds.ReadFailed ≡ kind = ap (λ n. get_or all_kinds (n - 1) kinds.NoMemory) (sym e) ∙ stands_at kind in
        let one : 1 ≡ number_of kind = ap number_of first in
        absurd (omega (arith, one, e))
    go (suc n) e = omega arith

-- of kinds numbered from n on, the first that passes a test passes it, and none of a lower number does
abbrev IsLowest : (ReadKind → Bool) → ℕ → ReadKind → Type 0
IsLowest test n kind = (test kind ≡ true) × ((other : ReadKind) → n ≤ number_of other → number_of other < number_of kind → test other ≡ false)

first_is_lowest : (test : ReadKind → Bool) (n : ℕ) (ks : List ReadKind) (kind : ReadKind) → NumberedFrom n ks → find test ks ≡ Some kind → IsLowest test n kind
first_is_lowest test n [] kind from found = absurd (some≢none (sym found))
first_is_lowest test n (x ∷ ks) kind from found = go (test x) refl found (first_is_lowest test (n + 1) ks kind from.1)
  where
    go : (t : Bool) → test x ≡ t → cond t (Some x) (find test ks) ≡ Some kind → (find test ks ≡ Some kind → IsLowest test (n + 1) kind) → IsLowest test n kind
    go true t e later =
        let same : x ≡ kind = same_Some x kind e in
        let number : number_of x ≡ number_of kind = ap number_of same in
        (subst (λ k. test k ≡ true) same t, λ other low below. absurd (omega (arith, from.0, number, low, below)))
    go false t e later =
        let rest = later e in
        (rest.0, λ other low below. by other low below rest (cases_order n (number_of other)))
      where
        by : (other : ReadKind) → n ≤ number_of other → number_of other < number_of kind → IsLowest test (n + 1) kind →
            (n ≡ number_of other) ⊎ ((n < number_of other) ⊎ (number_of other < n)) → test other ≡ false
        by other low below rest (inl same) = ap test (same_number other x (sym same ∙ sym from.0)) ∙ t
        by other low below rest (inr (inl above)) = rest.1 other (omega (arith, above)) below
        by other low below rest (inr (inr under)) = absurd (omega (arith, low, under))

-- that the reader failed applies nowhere
pub never_applies : (p : Position) (n : Next) → applies kinds.ReadFailed p n ≡ false
never_applies (Start, e) n = refl
never_applies (Header name, e) n = refl
never_applies (InMeta meta, e) the_end = refl
never_applies (InMeta meta, e) blank = refl
never_applies (InMeta meta, e) (head section.Meta) = refl
never_applies (InMeta meta, e) (head section.Projects) = refl
never_applies (InMeta meta, e) (head section.Votes) = refl
never_applies (InMeta meta, e) (plain row) = refl
never_applies (InProjects columns, e) the_end = refl
never_applies (InProjects columns, e) blank = refl
never_applies (InProjects columns, e) (head name) = refl
never_applies (InProjects columns, e) (plain row) = refl
never_applies (InVotes columns, e) n = refl

abbrev later_kinds : List ReadKind
later_kinds = drop 3 all_kinds

-- of the kinds behind those of a record, the first that applies
later_found : (p : Position) (n : Next) → find (λ kind. applies kind p n) later_kinds ≡ row_fault p n
unfolding row_fault
later_found (Start, e) n = refl
later_found (Header name, e) n = refl
later_found (InMeta meta, e) the_end = refl
later_found (InMeta meta, e) blank = refl
later_found (InMeta meta, e) (head section.Meta) = refl
later_found (InMeta meta, e) (head section.Projects) = refl
later_found (InMeta meta, e) (head section.Votes) = refl
later_found (InMeta meta, e) (plain row) = refl
later_found (InProjects columns, e) the_end = refl
later_found (InProjects columns, e) blank = refl
later_found (InProjects columns, e) (head name) = refl
later_found (InProjects columns, e) (plain row) = refl
later_found (InVotes columns, e) n = refl

lowest_is_first : (done : ℕ) (p : Position) (left : List Fields) → find (applies_after done p left) all_kinds ≡ lowest_kind done p left
unfolding row_fault
lowest_is_first done (Start, e) [] = refl
lowest_is_first done (Header name, e) [] = refl
lowest_is_first done (InMeta meta, e) [] = refl
lowest_is_first done (InProjects columns, e) [] = refl
lowest_is_first done (InVotes columns, e) [] = refl
lowest_is_first done p (next ∷ rest) =
    let n : Next = next_row (trimmed next) in
    let kind_after : Option ReadKind → Option ReadKind = λ found. cond (not (list_all is_utf8 next)) (Some kinds.NotText) (cond (done == most_records) (Some kinds.TooManyRecords) found) in
    ap (λ t. cond t (Some kinds.ReadFailed) (kind_after (find (λ kind. applies kind p n) later_kinds))) (never_applies p n) ∙ ap kind_after (later_found p n)

-- the lowest kind that applies after this many records
pub lowest_applies : (done : ℕ) (p : Position) (left : List Fields) (kind : ReadKind) → lowest_kind done p left ≡ Some kind →
    (applies_after done p left kind ≡ true) × ((other : ReadKind) → number_of other < number_of kind → applies_after done p left other ≡ false)
lowest_applies done p left kind e =
    let found = first_is_lowest (applies_after done p left) 1 all_kinds kind all_numbered (lowest_is_first done p left ∙ e) in
    (found.0, λ other below. found.1 other (numbered_from_one other) below)

-- where some kind applies, one is found
find_none : (test : ReadKind → Bool) (ks : List ReadKind) → find test ks ≡ None → AllByRecursion (λ kind. test kind ≡ false) ks
find_none test [] none = tt
find_none test (k ∷ ks) none =
    let first = cond_none (test k) k (find test ks) none in
    (first.0, find_none test ks first.1)

at_place : (P : ReadKind → Type 0) (ks : List ReadKind) (n : ℕ) (last : ReadKind) → AllByRecursion P ks → P last → P (get_or ks n last)
at_place P [] n last all at = at
at_place P (k ∷ ks) zero last all at = all.0
at_place P (k ∷ ks) (suc n) last all at = at_place P ks n last all.1 at

each_kind : (P : ReadKind → Type 0) (kind : ReadKind) → AllByRecursion P all_kinds → P kind
each_kind P kind all =
    let last : AllByRecursion P (kinds.NoMemory ∷ kinds.BadLength ∷ []) = AllByRecursion-right P (take 20 all_kinds) (kinds.NoMemory ∷ kinds.BadLength ∷ []) all in
    subst P (stands_at kind) (at_place P all_kinds (number_of kind - 1) kinds.NoMemory all last.0)

-- a kind that applies, where none of a lower number does, is the first
pub lowest_is : (done : ℕ) (p : Position) (left : List Fields) (kind : ReadKind) → applies_after done p left kind ≡ true →
    ((other : ReadKind) → number_of other < number_of kind → applies_after done p left other ≡ false) → lowest_kind done p left ≡ Some kind
lowest_is done p left kind here lower = go (lowest_kind done p left) refl
  where
    go : (found : Option ReadKind) → lowest_kind done p left ≡ found → lowest_kind done p left ≡ Some kind
    go None e = absurd (true≢false (sym here ∙ each_kind (λ k. applies_after done p left k ≡ false) kind (find_none (applies_after done p left) all_kinds (lowest_is_first done p left ∙ e))))
    go (Some k) e = e ∙ ap Some (by (cases_order (number_of k) (number_of kind)))
      where
        by : (number_of k ≡ number_of kind) ⊎ ((number_of k < number_of kind) ⊎ (number_of kind < number_of k)) → k ≡ kind
        by (inl same) = same_number k kind same
        by (inr (inl below)) = absurd (true≢false (sym (lowest_applies done p left k e).0 ∙ lower k below))
        by (inr (inr above)) = absurd (true≢false (sym here ∙ (lowest_applies done p left k e).1 kind above))
