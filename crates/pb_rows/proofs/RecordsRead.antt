-- How the records that were read so far follow each read: for the invariant of a loop over `Records::read`.
use Rattle.std.proofs.Common.{◌≡◌, ◌∙◌, ◌++◌, ℕ, List, [], ◌∷◌, Option, Some, None, IfSome, Bool, true, false, refl, sym, ap, append_assoc, ◌<◌, length, length-append, arith}
use Rattle.std.specs.Prelude.{option_map}
use Rattle.std.proofs.lemmas.List.{append-nil}
use Rattle.csv.specs.Records.{AllText}
use Rattle.pb_rows.specs.Reading.{Fields, IsNext, records_of}
use Rattle.pb_rows.specs.Inner.Reading.{NextIsNoText}
use Rattle.pb_rows.specs.Inner.Reading.{HasRead, HasReadAtMost}

-- at first none was read
pub HasRead-start : (known : Option (List ℕ)) → HasRead known [] (option_map records_of known)
HasRead-start None = tt
HasRead-start (Some bytes) = refl

-- a record that was read joins those before it
pub HasRead-more : (known : Option (List ℕ)) (done : List Fields) (left after : Option (List Fields)) (found : Bool) (fields : Fields)
    → found ≡ true → HasRead known done left → IsNext left after found fields → HasRead known (done ++ fields ∷ []) after
HasRead-more None done left after found fields is so_far next = tt
HasRead-more (Some bytes) done None after found fields is so_far next = absurd so_far
HasRead-more (Some bytes) done (Some []) after found fields is so_far next = cc (is, next)
HasRead-more (Some bytes) done (Some (first ∷ rest)) after found fields is so_far next =
    rw (next.2, next.1) (so_far ∙ sym (append_assoc done (first ∷ []) rest))

-- where none is left, those that were read are all
pub HasRead-end : (known : Option (List ℕ)) (done : List Fields) (left after : Option (List Fields)) (found : Bool) (fields : Fields)
    → found ≡ false → HasRead known done left → IsNext left after found fields → IfSome known (λ bytes. records_of bytes ≡ done)
HasRead-end None done left after found fields is so_far next = tt
HasRead-end (Some bytes) done None after found fields is so_far next = absurd so_far
HasRead-end (Some bytes) done (Some []) after found fields is so_far next = so_far ∙ append-nil done
HasRead-end (Some bytes) done (Some (first ∷ rest)) after found fields is so_far next = cc (is, next.0)

-- where the next is no text, it stands after those that were read
pub HasRead-no_text : (known : Option (List ℕ)) (done : List Fields) (left : Option (List Fields))
    → HasRead known done left → NextIsNoText left
    → IfSome known (λ bytes. (first : Fields) × (rest : List Fields) × (records_of bytes ≡ done ++ first ∷ rest) × ¬ AllText first)
HasRead-no_text None done left so_far next = tt
HasRead-no_text (Some bytes) done None so_far next = absurd so_far
HasRead-no_text (Some bytes) done (Some []) so_far next = absurd next
HasRead-no_text (Some bytes) done (Some (first ∷ rest)) so_far next = (first, rest, so_far, next)

-- where nothing is known of what is left, nothing is said of how many were read
pub HasReadAtMost-unknown : (most : ℕ) (before after : Option (List Fields)) → after ≡ None → HasReadAtMost most before after
HasReadAtMost-unknown most None after is = tt
HasReadAtMost-unknown most (Some all) None is = tt
HasReadAtMost-unknown most (Some all) (Some rest) is = cc is

-- a read of the next record reads at most one more than those that are gone
pub HasReadAtMost-more : (most : ℕ) (all gone left : List Fields) (after : Option (List Fields)) (found : Bool) (fields : Fields)
    → all ≡ gone ++ left → length gone < most → IsNext (Some left) after found fields → HasReadAtMost most (Some all) after
HasReadAtMost-more most all gone left None found fields cut few next = tt
HasReadAtMost-more most all gone [] (Some after) found fields cut few next =
    let none : List Fields = [] in
    omega (arith, few, ap length cut, length-append gone none)
HasReadAtMost-more most all gone (first ∷ rest) (Some after) found fields cut few next =
    let same : after ≡ rest = cc next.2 in
    let size = ap length same in
    omega (arith, few, ap length cut, length-append gone (first ∷ rest), size)
