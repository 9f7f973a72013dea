-- The texts of a column, and the numbers that they have.
use Rattle.std.proofs.Common.{◌≡◌, ◌<◌, ◌≤◌, ◌+◌, ◌-◌, ◌++◌, ◌∙◌, ℕ, zero, suc, Bool, true, false, List, [], ◌∷◌, Option, Some, None, Result, Ok, Err, OnOk, OnErr, ap, sym, refl, length, map, min, subst, arith, get_or, string_bytes}
use Rattle.std.specs.Prelude.{position, slice_get, if◌then◌else◌}
use Rattle.std.specs.FinMap as places
use Rattle.std.specs.List.{All, position_or_len}
use Rattle.std.specs.Str.{IsUtf8, bytes_eq, chars, trim, trim_end, trim_start}
use Rattle.std.specs.Result.{is_err}
use Rattle.std.proofs.lemmas.Bool.{cond-false, cond-true, false≢true, le-ltb, lt-ltb}
use Rattle.std.proofs.lemmas.List.{map_push}
use Rattle.std.proofs.lemmas.List.Sums.{position_or_len_is}
use Rattle.std.proofs.lemmas.Option.{none-some, same_Some, slice_get_within}
use Rattle.std.proofs.lemmas.Slice.Eq.{bytes_eq-Decides}
use Rattle.csv.specs.Records.{AllText, field_at}
use Rattle.pb_ids.specs.Inner.Places.{Places, get_inserted, get_none}
use Rattle.pb_read.specs.Rows.{field}
use Rattle.pb_rows.specs.Reading.{Fields}

-- each number that is known is that of its text, as long as numbers are left
abbrev pub Found : Places → List (List ℕ) → Type 0
Found table texts = length texts ≤ 4294967296 → (text : List ℕ) (number : ℕ) → places.get table text ≡ Some number → slice_get texts number ≡ Some text

pub nothing_found : (table : Places) → table ≡ places.empty → Found table []
nothing_found table empty few text number is = absurd (none-some number (sym (ap (λ t. places.get t text) empty ∙ get_none text) ∙ is))

pub get_more : (xs : List (List ℕ)) (y : List ℕ) (k : ℕ) → k < length xs → slice_get (xs ++ y ∷ []) k ≡ slice_get xs k
get_more [] y k within = absurd (omega (arith, within))
get_more (x ∷ xs) y zero within = refl
get_more (x ∷ xs) y (suc k) within = get_more xs y k (omega (arith, within))

pub get_last : (xs : List (List ℕ)) (y : List ℕ) → slice_get (xs ++ y ∷ []) (length xs) ≡ Some y
get_last [] y = refl
get_last (x ∷ xs) y = get_last xs y

pub size_more : (xs : List (List ℕ)) (y : List ℕ) → length (xs ++ y ∷ []) ≡ length xs + 1
size_more [] y = refl
size_more (x ∷ xs) y = let more = size_more xs y in omega (arith, more)

pub found_more : (table : Places) (texts : List (List ℕ)) (text : List ℕ) → Found table texts → Found table (texts ++ text ∷ [])
found_more table texts text found few t number is =
    let size = size_more texts text in
    let there = found (omega (arith, few, size)) t number is in
    get_more texts text number (slice_get_within texts number t there) ∙ there

-- the next text has the next number
pub found_next : (table after : Places) (texts : List (List ℕ)) (text : List ℕ) (number : ℕ) → Found table (texts ++ text ∷ []) → after ≡ places.insert table text number → (length texts < 4294967296 → number ≡ length texts)
    → Found after (texts ++ text ∷ [])
found_next table after texts text number found put next few t n is =
    let size = size_more texts text in
    let number_is : number ≡ length texts = next (omega (arith, few, size)) in
    go (bytes_eq text t) refl (sym (ap (λ m. places.get m t) put ∙ get_inserted table text number t) ∙ is) number_is
  where
    go : (same : Bool) → bytes_eq text t ≡ same → (if same then Some number else places.get table t) ≡ Some n → number ≡ length texts → slice_get (texts ++ text ∷ []) n ≡ Some t
    go true eq has number_is = ap (slice_get (texts ++ text ∷ [])) (sym (same_Some number n has) ∙ number_is) ∙ get_last texts text ∙ ap Some ((bytes_eq-Decides text t).0 eq)
    go false eq has number_is = found few t n has

-- whether or not memory was refused to the table
pub found_tried : {A E : Type 0} (r : Result A E) (table after : Places) (texts : List (List ℕ)) (text : List ℕ) (number : ℕ) → Found table texts → OnOk r (after ≡ places.insert table text number) → OnErr r (after ≡ table)
    → (length texts < 4294967296 → number ≡ length texts) → Found after (texts ++ text ∷ [])
found_tried (Ok x) table after texts text number found put kept next = found_next table after texts text number (found_more table texts text found) put next
found_tried (Err e) table after texts text number found put kept next = subst (λ m. Found m (texts ++ text ∷ [])) (sym kept) (found_more table texts text found)

-- the number of the next text, as long as numbers are left
pub number_is : (count number : ℕ) → number ≡ min count 4294967295 → count < 4294967296 → number ≡ count
number_is count number is few = omega (arith, is, few)

-- numbers keep their texts
pub same_texts : (old new : List (List ℕ)) (numbers : List ℕ) → All (λ n. n < length old) numbers → ((k : ℕ) → k < length old → slice_get new k ≡ slice_get old k) → map (slice_get new) numbers ≡ map (slice_get old) numbers
same_texts old new [] all kept = refl
same_texts old new (n ∷ ns) all kept =
    ap (λ t. t ∷ map (slice_get new) ns) (kept n (all 0 0 (omega arith)))
    ∙ ap (λ ts. slice_get old n ∷ ts) (same_texts old new ns (λ k d below. all (suc k) d (omega (arith, below))) kept)

-- one number more
pub all_more : (old new : ℕ) (numbers : List ℕ) (n : ℕ) → old ≤ new → All (λ m. m < old) numbers → n < new → All (λ m. m < new) (numbers ++ n ∷ [])
all_more old new [] n more all here zero d below = here
all_more old new [] n more all here (suc k) d below = absurd (omega (arith, below))
all_more old new (m ∷ ms) n more all here zero d below = let first = all 0 d (omega arith) in omega (arith, first, more)
all_more old new (m ∷ ms) n more all here (suc k) d below = all_more old new ms n more (λ j e under. all (suc j) e (omega (arith, under))) here k d (omega (arith, below))

pub all_wider : (old new : ℕ) (numbers : List ℕ) → old ≤ new → All (λ m. m < old) numbers → All (λ m. m < new) numbers
all_wider old new numbers more all k d below = let first = all k d below in omega (arith, first, more)

-- the texts of the numbers, once one came behind them
pub texts_more : (old new : List (List ℕ)) (numbers after : List ℕ) (n : ℕ) (text : List ℕ) → after ≡ numbers ++ n ∷ [] → All (λ m. m < length old) numbers → ((k : ℕ) → k < length old → slice_get new k ≡ slice_get old k)
    → slice_get new n ≡ Some text → map (slice_get new) after ≡ map (slice_get old) numbers ++ Some text ∷ []
texts_more old new numbers after n text is all kept here =
    ap (map (slice_get new)) is ∙ map_push (slice_get new) numbers n
    ∙ ap (λ ts. ts ++ slice_get new n ∷ []) (same_texts old new numbers all kept) ∙ ap (λ t. map (slice_get old) numbers ++ t ∷ []) here

-- a text came behind these
pub pushed : {X : Type 0} (f : X → List ℕ) (items new : List X) (x : X) (text : List ℕ) → new ≡ items ++ x ∷ [] → f x ≡ text → map f new ≡ map f items ++ text ∷ []
pushed f items new x text is bytes = ap (map f) is ∙ map_push f items x ∙ ap (λ t. map f items ++ t ∷ []) bytes

pub kept_texts : (old texts new : List (List ℕ)) (text : List ℕ) → texts ≡ old → new ≡ texts ++ text ∷ [] → (k : ℕ) → k < length old → slice_get new k ≡ slice_get old k
kept_texts old texts new text is grown k within = ap (λ xs. slice_get xs k) (grown ∙ ap (λ xs. xs ++ text ∷ []) is) ∙ get_more old text k within

pub here_next : (texts new : List (List ℕ)) (text : List ℕ) (number : ℕ) → new ≡ texts ++ text ∷ [] → (length texts < 4294967296 → number ≡ length texts) → length new ≤ 4294967296 → slice_get new number ≡ Some text
here_next texts new text number grown next few =
    let all : length (texts ++ text ∷ []) ≤ 4294967296 = subst (λ (xs : List (List ℕ)). length xs ≤ 4294967296) grown few in
    let size = size_more texts text in
    ap (λ xs. slice_get xs number) grown ∙ ap (slice_get (texts ++ text ∷ [])) (next (omega (arith, all, size))) ∙ get_last texts text

-- the field that csv has at a place, if it has one
pub field_is : (row : Fields) (place : ℕ) (x : List ℕ) → Some x ≡ field_at row place → x ≡ field row place
unfolding field_at
field_is [] place x is = absurd (none-some x (sym is))
field_is (y ∷ row) zero x is = same_Some x y is
field_is (y ∷ row) (suc place) x is = field_is row place x is

pub no_field : (row : Fields) (place : ℕ) → None ≡ field_at row place → [] ≡ field row place
unfolding field_at
no_field [] place is = refl
no_field (y ∷ row) zero is = absurd (none-some y is)
no_field (y ∷ row) (suc place) is = no_field row place is

pub trimmed_nothing : trim [] ≡ []
unfolding trim_start trim_end chars
trimmed_nothing = refl

pub is_text : (row : Fields) (place : ℕ) (x : List ℕ) → AllText row → Some x ≡ field_at row place → IsUtf8 x
unfolding field_at AllText
is_text [] place x are is = absurd (none-some x (sym is))
is_text (y ∷ row) zero x are is = subst IsUtf8 (sym (same_Some x y is)) are.0
is_text (y ∷ row) (suc place) x are is = is_text row place x are.1 is

-- the first field that passes
pub position-first : (p : List ℕ → Bool) (xs : Fields) (i : ℕ) → i < length xs → ((k : ℕ) → k < i → p (get_or xs k []) ≡ false) → p (get_or xs i []) ≡ true → position p xs ≡ Some i
position-first p xs i below before here =
    let first : position_or_len p xs ≡ i = position_or_len_is p xs i [] (omega (arith, below)) before (λ _. here) in
    let within : position_or_len p xs < length xs = omega (arith, first, below) in
    cond-true _ (Some (position_or_len p xs)) None (lt-ltb (position_or_len p xs) (length xs) within) ∙ ap Some first

pub position-none : (p : List ℕ → Bool) (xs : Fields) → ((k : ℕ) → k < length xs → p (get_or xs k []) ≡ false) → position p xs ≡ None
position-none p xs none =
    let last : position_or_len p xs ≡ length xs = position_or_len_is p xs (length xs) [] (omega arith) none (λ below. absurd (omega (arith, below))) in
    let past : length xs ≤ position_or_len p xs = omega (arith, last) in
    cond-false _ (Some (position_or_len p xs)) None (le-ltb (position_or_len p xs) (length xs) past)

-- what holds where a call succeeds, where it does
pub where_ok : {A E : Type 0} (r : Result A E) (P : Type 0) → is_err r ≡ false → OnOk r P → P
where_ok (Ok x) P fine holds = holds
where_ok (Err e) P fine holds = absurd (false≢true (sym fine))
