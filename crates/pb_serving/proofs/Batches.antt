-- How a batch grows by a row.
use Rattle.std.proofs.Common.{◌≡◌, ◌∙◌, ℕ, zero, suc, ◌+◌, ◌<◌, List, [], ◌∷◌, ◌++◌, Bool, true, false, Option, Some, None, Ok, Err, refl, sym, ap, subst, arith, append_assoc}
use Rattle.std.specs.List.{All, AllZip}
use Rattle.std.specs.Prelude.{if◌then◌else◌}
use Rattle.std.proofs.lemmas.List.{append-nil}
use Rattle.std.proofs.lemmas.List.Elements.{All-append, All-cons, All-nil}
use Rattle.pb_core.specs.Request.{EntryView, asked}
use Rattle.pb_core.specs.declared.answer.Answer.{Answer}
use Rattle.pb_durable.specs.Inner.Entries.{entries_of}
use Rattle.pb_script.specs.Admission.{broken_rule}
use Rattle.pb_script.specs.declared.admission.RowRefusal.{RowRefusal}
use Rattle.pb_script.specs.declared.admission.RowRefusal.TheVariants as refusal
use Rattle.pb_serving.specs.Inner.Admitted.{AddsAdmitted}
use Rattle.pb_desk.specs.Replay.{most_clerks}
use Rattle.pb_rows.specs.Reading.{Fields, IsNext}
use Rattle.pb_script.specs.Inner.ScriptReading.{HaveGone}
use Rattle.pb_script.specs.declared.admission.Admission.{Admission}
use Rattle.pb_durable.specs.declared.clerk_request.ClerkRequest.{ClerkRequest}
use Rattle.pb_script.specs.RowsView.{HasFailed, HasGiven, RowsView}
use Rattle.pb_serving.specs.Inner.Batch.{refused, IsBatch, IsNextAsk, IsRowAsking}
use Rattle.pb_serving.specs.declared.batch.BatchEnd.{BatchEnd}
use Rattle.pb_serving.specs.declared.batch.BatchEnd.TheVariants as ends
use Rattle.pb_serving.proofs.Answering.{gives, not_stopped}

-- these records were read, and ask this
pub record HasRows (ad : Admission) (left after : Option (List Fields)) (asks : List ClerkRequest) : Type 0 where
  pub rows : List Fields
  pub each : AllZip (IsRowAsking ad) rows asks
  pub gone : HaveGone left rows after

pub no_rows : (ad : Admission) (left : Option (List Fields)) → HasRows ad left left []
no_rows ad None = record { rows = []; each = tt; gone = tt }
no_rows ad (Some all) = record { rows = []; each = tt; gone = refl }

pub gone-more : (left mid after : Option (List Fields)) (rows : List Fields) (fields : Fields) → HaveGone left rows mid → IsNext mid after true fields → HaveGone left (rows ++ fields ∷ []) after
gone-more None mid after rows fields gone next = tt
gone-more (Some all) None after rows fields gone next = absurd gone
gone-more (Some all) (Some []) after rows fields gone next = cc next
gone-more (Some all) (Some (row ∷ rest)) after rows fields gone next =
    rw next.2 (gone ∙ ap (λ r. rows ++ r ∷ rest) (sym next.1) ∙ sym (append_assoc rows (fields ∷ []) rest))

zip-push : (ad : Admission) (rows : List Fields) (asks : List ClerkRequest) (row : Fields) (a : ClerkRequest) → AllZip (IsRowAsking ad) rows asks → IsRowAsking ad row a → AllZip (IsRowAsking ad) (rows ++ row ∷ []) (asks ++ a ∷ [])
zip-push ad [] [] row a f r = (r, tt)
zip-push ad [] (b ∷ asks) row a f r = absurd f
zip-push ad (x ∷ rows) [] row a f r = absurd f
zip-push ad (x ∷ rows) (b ∷ asks) row a f r = (f.0, zip-push ad rows asks row a f.1 r)

pub row_more : (ad : Admission) (left mid after : Option (List Fields)) (asks : List ClerkRequest) (a : ClerkRequest) (fields : Fields) → HasRows ad left mid asks → IsNext mid after true fields → IsRowAsking ad fields a
    → HasRows ad left after (asks ++ a ∷ [])
row_more ad left mid after asks a fields h next asked = record {
  rows = h.rows ++ fields ∷ [];
  each = zip-push ad h.rows asks fields a h.each asked;
  gone = gone-more left mid after h.rows fields h.gone next;
}

-- a row that asks was read behind a batch
pub ask_more : (ad : Admission) (left : Option (List Fields)) (before after : RowsView) (asks : List ClerkRequest) (ask : ClerkRequest) → HasRows ad left before.left asks → IsNextAsk ad before after (Ok ask) → HasRows ad left after.left (asks ++ ask ∷ [])
ask_more ad left before after asks ask h next = row_more ad left before.left after.left asks ask next.0 h next.1 next.2

-- a batch ends behind these rows
pub ends_batch : (ad : Admission) (left : Option (List Fields)) (before after : RowsView) (asks : List ClerkRequest) (end : BatchEnd) → HasRows ad left before.left asks → IsNextAsk ad before after (Err end) → IsBatch ad left after.left asks end
ends_batch ad left before after asks ends.More h next = absurd next
ends_batch ad left before after asks (ends.Refused why) h next = record {
  rows = h.rows;
  each = h.each;
  goes_on = (next.0, next.2, gone-more left before.left after.left h.rows next.0 h.gone next.1);
}
ends_batch ad left before after asks ends.Over h next = record { rows = h.rows; each = h.each; goes_on = (before.left, h.gone, next.0) }
ends_batch ad left before after asks ends.ReadFailed h next = record { rows = h.rows; each = h.each; goes_on = (before.left, h.gone) }
ends_batch ad left before after asks ends.NoMemory h next = record { rows = h.rows; each = h.each; goes_on = (before.left, h.gone) }

-- so many rows were given where a batch ends
pub ends_given : (ad : Admission) (start before after : RowsView) (count : ℕ) (end : BatchEnd) → HasGiven start before count → IsNextAsk ad before after (Err end) → HasGiven start after (count + refused end)
ends_given ad start before after count ends.More given next = absurd next
ends_given ad start before after count (ends.Refused why) given next = gives start before after count 1 given next.3
ends_given ad start before after count ends.Over given next = gives start before after count 0 given (λ fits. omega (arith, next.1))
ends_given ad start before after count ends.ReadFailed given next = gives start before after count 0 given (λ fits. omega (arith, next.0))
ends_given ad start before after count ends.NoMemory given next = gives start before after count 0 given (λ fits. omega (arith, next.0))

-- a batch ends by this
pub ends_by : (ad : Admission) (before after : RowsView) (end this : BatchEnd) → end ≡ this → IsNextAsk ad before after (Err end) → IsNextAsk ad before after (Err this)
ends_by ad before after end this is next = subst (λ (e : BatchEnd). IsNextAsk ad before after (Err e)) is next

-- where the reader has failed, a batch ends by that
pub ends_failed : (ad : Admission) (before after : RowsView) (end : BatchEnd) → IsNextAsk ad before after (Err end) → HasFailed after → end ≡ ends.ReadFailed
ends_failed ad before after ends.More next failed = absurd next
ends_failed ad before after (ends.Refused why) next failed = absurd (not_stopped after next.4 failed)
ends_failed ad before after ends.Over next failed = absurd (not_stopped after next.2 failed)
ends_failed ad before after ends.ReadFailed next failed = refl
ends_failed ad before after ends.NoMemory next failed = absurd (next.1 failed)

-- the clerks of a batch are of this run
pub asks_clerks : (ad : Admission) (rows : List Fields) (asks : List ClerkRequest) → AllZip (IsRowAsking ad) rows asks → All (λ (a : ClerkRequest). a.clerk < most_clerks) asks
asks_clerks ad [] [] each k d below = absurd (omega (arith, below))
asks_clerks ad [] (a ∷ asks) each k d below = absurd each
asks_clerks ad (row ∷ rows) [] each k d below = absurd (omega (arith, below))
asks_clerks ad (row ∷ rows) (a ∷ asks) each zero d below = let is = each.0.0.1.by_clerk in omega (arith, is.0)
asks_clerks ad (row ∷ rows) (a ∷ asks) each (suc k) d below = asks_clerks ad rows asks each.1 k d (omega (arith, below))

-- what is admitted breaks no rule
breaks_none : (known : Bool) (rule : Option RowRefusal) → (if known then rule else Some refusal.UnknownId) ≡ None → rule ≡ None
breaks_none true rule e = e
breaks_none false rule e = cc

pub entries_admitted : (ad : Admission) (rows : List Fields) (asks : List ClerkRequest) (answers : List Answer) → AllZip (IsRowAsking ad) rows asks
    → All (λ (x : EntryView). broken_rule ad x.request ≡ None) (entries_of asks answers)
entries_admitted ad [] [] answers each = All-nil (λ (x : EntryView). broken_rule ad x.request ≡ None)
entries_admitted ad [] (a ∷ asks) answers each = absurd each
entries_admitted ad (row ∷ rows) [] answers each = absurd each
entries_admitted ad (row ∷ rows) (a ∷ asks) [] each = All-nil (λ (x : EntryView). broken_rule ad x.request ≡ None)
entries_admitted ad (row ∷ rows) (a ∷ asks) (x ∷ answers) each =
    All-cons (λ (x : EntryView). broken_rule ad x.request ≡ None) _ _ (breaks_none _ (broken_rule ad (asked a.request)) each.0.1)
    (entries_admitted ad rows asks answers each.1)

-- the journal with them has more entries of that kind
pub adds_more : (ad : Admission) (old mid new entries : List EntryView) → AddsAdmitted ad old mid → new ≡ mid ++ entries → All (λ (x : EntryView). broken_rule ad x.request ≡ None) entries → AddsAdmitted ad old new
adds_more ad old mid new entries adds grown admitted = (
  adds.0 ++ entries,
  grown ∙ ap (λ (j : List EntryView). j ++ entries) adds.1 ∙ append_assoc old adds.0 entries,
  All-append (λ (x : EntryView). broken_rule ad x.request ≡ None) adds.0 entries adds.2 admitted,
)

pub adds_none : (ad : Admission) (journal : List EntryView) → AddsAdmitted ad journal journal
adds_none ad journal = ([], sym (append-nil journal), All-nil (λ (x : EntryView). broken_rule ad x.request ≡ None))
