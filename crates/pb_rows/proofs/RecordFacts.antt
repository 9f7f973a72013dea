-- How the records that are left follow a read of the next one.
use Rattle.std.proofs.Common.{◌≡◌, ◌∙◌, ◌+◌, ◌<◌, ℕ, zero, suc, List, [], ◌∷◌, length, Option, Some, None, Bool, true, false, not, refl, sym, ap, arith, add-one, ◌⊎◌, inl, inr}
use Rattle.std.specs.Prelude.{option_map}
use Rattle.csv.specs.Machine.{Read, ends_at_end, field_after, fields_after, is_end, next_record, step}
use Rattle.csv.specs.Reading.{ExplainsRead, NextIs, ReadRecord, ReadsNext, has_failed, pending_of, source_of, records_from, records_next}
use Rattle.csv.specs.declared.parser.Config.{Config}
use Rattle.csv.specs.declared.parser.State.{State}
use Rattle.csv.specs.declared.parser.State.TheVariants as st
use Rattle.csv.specs.declared.reader.Reader.{Reader}
use Rattle.pb_rows.specs.Inner.Reading.{IsSetUp, fault_of_kind}
use Rattle.pb_rows.specs.Reading.{Fields, IsNext, left_of, pb_config}
use Rattle.pb_rows.specs.Inner.Reading.{NextIsNoText}
use Rattle.pb_rows.specs.declared.fault.RecordsFault.TheVariants.{NotText}
use Rattle.csv.specs.declared.error.ErrorKind.{ErrorKind}
use Rattle.csv.specs.declared.error.ErrorKind.TheVariants as kind
use Rattle.csv.specs.Records.{AllText}

-- a record takes at least one byte, or is the last
next_is_shorter : (cfg : Config) (s : State) (fields : List (List ℕ)) (field xs : List ℕ) (p : Read) → next_record cfg s fields field xs ≡ Some p
    → ((p.1 ≡ st.StartRecord) × (p.2 ≡ [])) ⊎ (length p.2 < length xs)
unfolding next_record
next_is_shorter cfg s fields field [] p e = last (ends_at_end s) refl e
  where
    last : (b : Bool) → ends_at_end s ≡ b → next_record cfg s fields field [] ≡ Some p
        → ((p.1 ≡ st.StartRecord) × (p.2 ≡ [])) ⊎ (length p.2 < 0)
    last true is e =
        let same = rw is at e in
        inl (cc, cc)
    last false is e = cc (rw is at e)
next_is_shorter cfg s fields field (c ∷ rest) p e = more (is_end (step cfg s c).1) refl e (next_is_shorter cfg (step cfg s c).0 (fields_after (step cfg s c).1 fields field) (field_after (step cfg s c).1 c field) rest p)
  where
    more : (b : Bool) → is_end (step cfg s c).1 ≡ b → next_record cfg s fields field (c ∷ rest) ≡ Some p
        → (next_record cfg (step cfg s c).0 (fields_after (step cfg s c).1 fields field) (field_after (step cfg s c).1 c field) rest ≡ Some p
        → ((p.1 ≡ st.StartRecord) × (p.2 ≡ [])) ⊎ (length p.2 < length rest))
        → ((p.1 ≡ st.StartRecord) × (p.2 ≡ [])) ⊎ (length p.2 < suc (length rest))
    more true is e again =
        let same = rw is at e in
        let left : rest ≡ p.2 = cc in
        inr (rw (← left) (omega arith))
    more false is e again = elim (again (rw is at e)) [ inl ended ↦ inl ended | inr shorter ↦ inr (omega arith) ]

-- an empty text has no record
pub none_in_empty : (cfg : Config) (n : ℕ) → records_from cfg n st.StartRecord [] ≡ []
unfolding records_from next_record
none_in_empty cfg zero = refl
none_in_empty cfg (suc n) = refl

-- a count above the text's length is enough, and how far above does not matter
pub records_enough : (cfg : Config) (n m : ℕ) (s : State) (xs : List ℕ) → length xs < n → length xs < m
    → records_from cfg n s xs ≡ records_from cfg m s xs
unfolding records_from
records_enough cfg zero m s xs a b = absurd (omega arith)
records_enough cfg (suc n) zero s xs a b = absurd (omega arith)
records_enough cfg (suc n) (suc m) s xs a b = next (next_record cfg s [] [] xs) refl (records_enough cfg n m)
  where
    next : (o : Option Read) → next_record cfg s [] [] xs ≡ o
        → ((s2 : State) (ys : List ℕ) → length ys < n → length ys < m → records_from cfg n s2 ys ≡ records_from cfg m s2 ys)
        → records_next (records_from cfg n) (next_record cfg s [] [] xs) ≡ records_next (records_from cfg m) (next_record cfg s [] [] xs)
    next None e more = rw e refl
    next (Some p) e more = rw e (ap (λ (t : List Fields). p.0 ∷ t) (elim (next_is_shorter cfg s [] [] xs p e) [
      | inl ended ↦ rw (ended.0, ended.1) (none_in_empty cfg n ∙ sym (none_in_empty cfg m))
      | inr shorter ↦ more p.1 p.2 (omega arith) (omega arith)
    ]))

-- the records of a text that has a next one: it, and those of the text after it
pub records_more : (cfg : Config) (s : State) (xs : List ℕ) (p : Read) → next_record cfg s [] [] xs ≡ Some p
    → records_from cfg (length xs + 1) s xs ≡ p.0 ∷ records_from cfg (length p.2 + 1) p.1 p.2
unfolding records_from
records_more cfg s xs p e =
    rw (add-one (length xs), e) (ap (λ (t : List Fields). p.0 ∷ t) (elim (next_is_shorter cfg s [] [] xs p e) [
      | inl ended ↦ rw (ended.0, ended.1) (none_in_empty cfg (length xs) ∙ sym (none_in_empty cfg 1))
      | inr shorter ↦ records_enough cfg (length xs) (length p.2 + 1) p.1 p.2 shorter (omega arith)
    ]))

-- what csv says of one read, in the records that are left
reads_next : (s s2 : State) (source after : Option (List ℕ)) (found : Bool) (fields : Fields) → ReadsNext pb_config s source after found fields s2
    → IsNext (option_map (λ bytes. records_from pb_config (length bytes + 1) s bytes) source)
    (option_map (λ bytes. records_from pb_config (length bytes + 1) s2 bytes) after) found fields
unfolding records_from
reads_next s s2 None after found fields h = tt
reads_next s s2 (Some xs) None found fields h = absurd h
reads_next s s2 (Some xs) (Some ys) found fields h = next (next_record pb_config s [] [] xs) refl h
  where
    next : (o : Option Read) → next_record pb_config s [] [] xs ≡ o → NextIs (next_record pb_config s [] [] xs) found fields s2 ys
        → IsNext (Some (records_from pb_config (length xs + 1) s xs)) (Some (records_from pb_config (length ys + 1) s2 ys)) found fields
    next None e is = rw (add-one (length xs), e) (rw e at is)
    next (Some p) e is =
        let same = rw e at is in
        rw (records_more pb_config s xs p e) (same.0, same.1, rw (same.2, same.3) refl)

-- the same, of a reader of csv and what it leaves
pub read_leaves : {R : Type 0} (remaining : R → Option (List ℕ)) (old new : Reader R) (found : Bool) (fields : Fields)
    → IsSetUp old → has_failed new ≡ false → ReadRecord remaining old new found fields → IsNext (left_of remaining old None false) (left_of remaining new None false) found fields
read_leaves remaining old new found fields is runs h =
    let known : source_of remaining new ≡ pending_of (remaining new.rdr) new = rw h.1 refl in
    rw known (reads_next old.state new.state (source_of remaining old) (pending_of (remaining new.rdr) new) found fields (rw is.config at h.0))

-- where the next record is no text, that record is the next of what is left
no_text_next : (left after : Option (List Fields)) (fields : Fields) → IsNext left after true fields → ¬ AllText fields → NextIsNoText left
no_text_next None after fields h n = tt
no_text_next (Some []) after fields h n = cc h
no_text_next (Some (first ∷ rest)) after fields h n = rw (h.1) at n

-- the same, of an error of csv that stands for a field that is no text
pub no_text_read : {R : Type 0} (remaining : R → Option (List ℕ)) (old new : Reader R) (why : ErrorKind)
    → IsSetUp old → fault_of_kind why ≡ NotText → ExplainsRead remaining old new true why → NextIsNoText (left_of remaining old None false)
no_text_read remaining old new (kind.Io e) is named h = cc named
no_text_read remaining old new (kind.Utf8 pos err) is named h =
    no_text_next (left_of remaining old None false) _ h.1 (reads_next old.state new.state (source_of remaining old) (pending_of (remaining new.rdr) new) true h.1 (rw is.config at h.2)) h.3
no_text_read remaining old new kind.OutOfMemory is named h = cc named
no_text_read remaining old new (kind.UnequalLengths pos expected len) is named h = cc named
no_text_read remaining old new (kind.Serialize text) is named h = cc named
no_text_read remaining old new (kind.Deserialize pos err) is named h = cc named

-- the next record, where an end is remembered
pub next_until : {R : Type 0} (remaining : R → Option (List ℕ)) (new : Reader R) (left : Option (List Fields)) (found : Bool) (fields : Fields)
    → IsNext left (left_of remaining new None false) found fields → IsNext left (left_of remaining new None (not found)) found fields
next_until remaining new left true fields next = next
next_until remaining new None false fields next = tt
next_until remaining new (Some []) false fields next = refl
next_until remaining new (Some (first ∷ rest)) false fields next = cc next.0
