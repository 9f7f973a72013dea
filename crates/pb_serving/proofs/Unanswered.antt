-- The rows that were read, and not answered.
use Rattle.std.proofs.Common.{◌≡◌, ◌∙◌, ◌+◌, ◌<◌, ◌≤◌, inl, inr, ℕ, List, [], ◌∷◌, ◌++◌, length, map, Option, Ok, Err, refl, sym, ap, subst, arith, append_assoc, length-append}
use Rattle.std.specs.List.{AllZip}
use Rattle.std.specs.Result.{result_ok}
use Rattle.std.proofs.lemmas.List.{append-nil}
use Rattle.std.proofs.lemmas.List.Elements.{filter_map-append}
use Rattle.pb_core.specs.Request.{EntryView}
use Rattle.pb_core.specs.declared.answer.Answer.{Answer}
use Rattle.pb_desk.specs.Rows.{rows_from}
use Rattle.pb_durable.specs.Inner.Entries.{entries_of}
use Rattle.pb_durable.specs.declared.clerk_request.ClerkRequest.{ClerkRequest}
use Rattle.pb_rows.specs.Reading.{Fields}
use Rattle.pb_rows.specs.Writing.{text_of_rows}
use Rattle.pb_script.specs.RowsView.{HasGiven, RowsView}
use Rattle.pb_script.specs.declared.admission.Admission.{Admission}
use Rattle.pb_script.specs.Inner.ScriptReading.{HaveGone}
use Rattle.pb_serving.specs.Answered.{Halts, IsBehind}
use Rattle.pb_serving.specs.Inner.Batch.{Becomes}
use Rattle.pb_serving.specs.Inner.Batch.{refused, EndsBy, IsRowAsking}
use Rattle.pb_serving.specs.declared.batch.BatchEnd.{BatchEnd}
use Rattle.pb_serving.specs.declared.batch.BatchEnd.TheVariants.{More, Refused, Over, ReadFailed, NoMemory}
use Rattle.pb_faults.specs.declared.fault.AppFault.{AppFault}
use Rattle.pb_faults.specs.declared.fault.AppFault.TheVariants.{Serving}
use Rattle.pb_faults.specs.declared.serving_fault.ServingFault.TheVariants.{Output}
use Rattle.pb_serving.proofs.Answering.{added, added-some, batch_begun, halts, text_behind, text_so_far, Begun, zip-append, zip-length, Outcome, Progress}
use Rattle.pb_serving.proofs.Causes.{output_or}

-- the rows that were read behind those that ask
record Behind (ad : Admission) (left : Option (List Fields)) (rows : List Fields) (end : BatchEnd) : Type 0 where
  pub behind : List Fields
  pub whys : List Outcome
  pub each : AllZip (Becomes ad) behind whys
  pub none : added whys ≡ []
  pub count : length behind ≡ refused end
  pub after : Option (List Fields)
  pub gone : HaveGone left (rows ++ behind) after

plain : (ad : Admission) (left after : Option (List Fields)) (rows : List Fields) (end : BatchEnd) → refused end ≡ 0 → HaveGone left rows after → Behind ad left rows end
plain ad left after rows end zero gone = record {
  behind = [];
  whys = [];
  each = tt;
  none = refl;
  count = sym zero;
  after = after;
  gone = subst (λ (r : List Fields). HaveGone left r after) (sym (append-nil rows)) gone;
}

behind_of : (ad : Admission) (end : BatchEnd) (left after : Option (List Fields)) (rows : List Fields) → EndsBy ad end left rows after → Behind ad left rows end
behind_of ad More left after rows e = plain ad left after rows More refl e
behind_of ad (Refused why) left after rows e = record { behind = e.0 ∷ []; whys = Err why ∷ []; each = (e.1, tt); none = refl; count = refl; after = after; gone = e.2 }
behind_of ad Over left after rows e = plain ad left e.0 rows Over refl e.1
behind_of ad ReadFailed left after rows e = plain ad left e.0 rows ReadFailed refl e.1
behind_of ad NoMemory left after rows e = plain ad left e.0 rows NoMemory refl e.1

pub refused-most : (end : BatchEnd) → refused end ≤ 1
refused-most More = omega arith
refused-most (Refused why) = omega arith
refused-most Over = omega arith
refused-most ReadFailed = omega arith
refused-most NoMemory = omega arith

-- the first of the rows that ask are served
record Part (ad : Admission) (rows : List Fields) (asks : List ClerkRequest) (answers : List Answer) : Type 0 where
  pub served : List Fields
  pub unserved : List Fields
  pub is : rows ≡ served ++ unserved
  pub each : AllZip (Becomes ad) served (map Ok (entries_of asks answers))
  pub all : length answers ≡ length asks → unserved ≡ []

part : (ad : Admission) (rows : List Fields) (asks : List ClerkRequest) (answers : List Answer) → AllZip (IsRowAsking ad) rows asks → Part ad rows asks answers
part ad [] [] answers each = record { served = []; unserved = []; is = refl; each = tt; all = λ same. refl }
part ad [] (a ∷ asks) answers each = absurd each
part ad (row ∷ rows) [] answers each = absurd each
part ad (row ∷ rows) (a ∷ asks) [] each = record { served = []; unserved = row ∷ rows; is = refl; each = tt; all = λ same. absurd (omega (arith, same)) }
part ad (row ∷ rows) (a ∷ asks) (x ∷ answers) each = let p = part ad rows asks answers each.1 in record {
  served = row ∷ p.served;
  unserved = p.unserved;
  is = ap (λ (l : List Fields). row ∷ l) p.is;
  each = (each.0, p.each);
  all = λ same. p.all (omega (arith, same));
}

-- a batch was not answered
module _ (ad : Admission) (fault : AppFault) (start end : RowsView) (left after : Option (List Fields)) (old now last : List EntryView) (w0 w1 : Option (List ℕ)) (row bad : ℕ) (counts : List ℕ)
    (rows : List Fields) (asks : List ClerkRequest) (answers : List Answer) (why : BatchEnd) (p : Progress ad start.left left old now w0 w1 row bad counts) (each : AllZip (IsRowAsking ad) rows asks)
    (ends : EndsBy ad why left rows after) (few : length asks ≤ 4096) (some : 0 < length asks) (grown : last ≡ now ++ entries_of asks answers) (full : fault ≡ Serving Output → length answers ≡ length asks)
    (given : HasGiven start end (row + (length asks + refused why)))
    (behind : (answered served unserved : ℕ) → served + unserved ≤ 4097 → (fault ≡ Serving Output → unserved ≡ 0) → IsBehind fault answered served unserved)
    (w2 : Option (List ℕ)) (begun : fault ≡ Serving Output → Begun w1 w2 (text_of_rows (rows_from (length now + 1) (entries_of asks answers)))) where
  pub unanswered : (unsaid : List ℕ) × Halts ad fault start end old now last (text_so_far ad start.left left old now w0 w1 row bad counts p) unsaid
      × (fault ≡ Serving Output → Begun w0 w2 (text_so_far ad start.left left old now w0 w1 row bad counts p ++ unsaid))
  unanswered =
      let first = part ad rows asks answers each in
      let b = behind_of ad why left after rows ends in
      let entries = entries_of asks answers in
      let one = refused-most why in
      let size : length rows ≡ length asks = zip-length (IsRowAsking ad) rows asks each in
      let sizes : length rows ≡ length first.served + length first.unserved = ap length first.is ∙ length-append first.served first.unserved in
      let count = b.count in
      elim (output_or fault) [
        | inl output ↦
            let none = first.all (full output) in
            let all : rows ≡ first.served = first.is ∙ ap (λ (l : List Fields). first.served ++ l) none ∙ append-nil first.served in
            let served = first.served ++ b.behind in
            let long = length-append first.served b.behind in
            let here : length rows ≡ length first.served = ap length all in (
              text_behind ad start.left left old now w0 w1 row bad counts p (map Ok entries ++ b.whys),
              halts ad fault start end left b.after old now last w0 w1 row bad counts served [] (map Ok entries ++ b.whys) p
                  (subst (λ (l : List Fields). HaveGone left l b.after) (ap (λ (l : List Fields). l ++ b.behind) all ∙ sym (append-nil served)) b.gone)
                  (zip-append (Becomes ad) first.served b.behind (map Ok entries) b.whys first.each b.each)
                  (grown ∙ ap (λ (l : List EntryView). now ++ l) (sym (filter_map-append result_ok (map Ok entries) b.whys ∙ ap (λ (l : List EntryView). added (map Ok entries) ++ l) b.none ∙ append-nil (added (map Ok entries)) ∙ added-some entries)))
                  (subst (λ (n : ℕ). HasGiven start end n) (omega (arith, size, here, long, count)) given)
                  (λ answered is. behind answered (length served) 0 (omega (arith, size, here, long, count, one, few)) (λ same. refl))
                  (λ sound failed empty. absurd (omega (arith, size, here, long, some, ap length empty, length-append served []))),
              λ same. batch_begun ad start.left left old now w0 w1 w2 row bad counts p entries b.whys (begun output),
            )
        | inr other ↦
            let unserved = first.unserved ++ b.behind in
            let long = length-append first.unserved b.behind in (
              text_behind ad start.left left old now w0 w1 row bad counts p (map Ok entries),
              halts ad fault start end left b.after old now last w0 w1 row bad counts first.served unserved (map Ok entries) p
                  (subst (λ (l : List Fields). HaveGone left l b.after) (ap (λ (l : List Fields). l ++ b.behind) first.is ∙ append_assoc first.served first.unserved b.behind) b.gone)
                  first.each
                  (grown ∙ ap (λ (l : List EntryView). now ++ l) (sym (added-some entries)))
                  (subst (λ (n : ℕ). HasGiven start end n) (omega (arith, size, sizes, long, count)) given)
                  (λ answered is. behind answered (length first.served) (length unserved) (omega (arith, size, sizes, long, count, one, few)) (λ same. absurd (other same)))
                  (λ sound failed empty. absurd (omega (arith, size, sizes, long, some, ap length empty, length-append first.served unserved))),
              λ same. absurd (other same),
            )
      ]
