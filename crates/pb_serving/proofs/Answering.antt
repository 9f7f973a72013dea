-- The answers to rows of the input, batch by batch.
use Rattle.std.proofs.Common.{◌≡◌, ◌∙◌, ℕ, zero, suc, ◌+◌, ◌<◌, ◌^◌, List, [], ◌∷◌, ◌++◌, length, map, take, Option, Some, None, IfSome, IsSome, Result, Ok, Err, refl, sym, ap, subst, arith, append_assoc, length-append}
use Rattle.std.specs.List.{AllZip, filter_map}
use Rattle.std.specs.Result.{result_err, result_ok}
use Rattle.std.specs.Io.KnownBytes.{Appends}
use Rattle.std.proofs.KnownBytes.{Appends-nil, Appends-trans}
use Rattle.std.proofs.lemmas.List.{append-nil, append_cancel_left}
use Rattle.std.proofs.lemmas.List.Elements.{filter_map-append}
use Rattle.pb_core.specs.Request.{EntryView}
use Rattle.pb_core.specs.declared.answer.Answer.{Answer}
use Rattle.pb_desk.specs.Replay.{most_clerks}
use Rattle.pb_desk.specs.Rows.{journal_text, row_of, rows_from}
use Rattle.pb_desk.specs.declared.version.Version.TheVariants.{One}
use Rattle.pb_durable.specs.Inner.Entries.{entries_of}
use Rattle.pb_durable.specs.declared.clerk_request.ClerkRequest.{ClerkRequest}
use Rattle.pb_rows.proofs.RowsText.{text_of_rows-append}
use Rattle.pb_rows.specs.Reading.{Fields}
use Rattle.pb_rows.specs.declared.fault.RecordsFault.{RecordsFault}
use Rattle.pb_rows.specs.Writing.{text_of_row, text_of_rows}
use Rattle.pb_script.specs.Admission.{Judges}
use Rattle.pb_script.specs.ScriptReading.{fault_of_row}
use Rattle.pb_script.specs.RowsView.{HasFailed, HasGiven, RowsView}
use Rattle.pb_script.specs.declared.admission.Admission.{Admission}
use Rattle.pb_script.specs.declared.admission.RowRefusal.{RowRefusal}
use Rattle.pb_script.specs.Inner.ScriptReading.{HaveGone, NoneLeft}
use Rattle.pb_faults.specs.Fault.{line, told}
use Rattle.pb_faults.specs.declared.fault.AppFault.{AppFault}
use Rattle.pb_faults.specs.declared.fault.AppFault.TheVariants.{Script}
use Rattle.pb_script.specs.declared.script_fault.ScriptFault.TheVariants.{ReadFailed}
use Rattle.pb_serving.specs.Answered.{answers_from, Answers, Halts, IsBehind}
use Rattle.pb_serving.specs.Inner.Batch.{Becomes}
use Rattle.pb_serving.specs.Inner.Batch.{IsRowAsking}
use Rattle.pb_serving.specs.Inner.Refused.{refusals_of, with_refusal}
use Rattle.pb_serving.proofs.Refusals.{refusals-entries, refusals-one_more}

abbrev pub Outcome : Type 0
Outcome = Result EntryView RowRefusal

abbrev pub added : List Outcome → List EntryView
added became = filter_map result_ok became

rows_from-append : (n : ℕ) (a b : List EntryView) → rows_from n (a ++ b) ≡ rows_from n a ++ rows_from (n + length a) b
unfolding rows_from
rows_from-append n [] b = ap (λ (k : ℕ). rows_from k b) (omega arith)
rows_from-append n (x ∷ a) b =
    ap (λ (l : List Fields). row_of n x ∷ l) (rows_from-append (suc n) a b ∙ ap (λ (k : ℕ). rows_from (suc n) a ++ rows_from k b) (omega arith))

pub nothing_said : (w : Option (List ℕ)) (n : ℕ) → Appends w w (text_of_rows (rows_from n []))
unfolding rows_from text_of_rows
nothing_said w n = Appends-nil w

-- the rows that a journal's text got are those of its last entries
pub said_rows : (before after more : List EntryView) (rows : List ℕ) → after ≡ before ++ more → journal_text One before ++ rows ≡ journal_text One after
    → rows ≡ text_of_rows (rows_from (length before + 1) more)
said_rows before after more rows grown is =
    append_cancel_left (text_of_rows (rows_from 1 before)) rows (text_of_rows (rows_from (length before + 1) more))
    (is ∙ ap (λ (l : List EntryView). journal_text One l) grown
    ∙ ap text_of_rows (rows_from-append 1 before more ∙ ap (λ (k : ℕ). rows_from 1 before ++ rows_from k more) (omega arith))
    ∙ text_of_rows-append (rows_from 1 before) (rows_from (length before + 1) more))

pub added-some : (entries : List EntryView) → added (map Ok entries) ≡ entries
added-some [] = refl
added-some (x ∷ entries) = ap (λ (l : List EntryView). x ∷ l) (added-some entries)

answers-some : (entry row : ℕ) (entries : List EntryView) → answers_from entry row (map Ok entries) ≡ text_of_rows (rows_from entry entries)
unfolding rows_from text_of_rows
answers-some entry row [] = refl
answers-some entry row (x ∷ entries) = ap (λ (l : List ℕ). text_of_row (row_of entry x) ++ l) (answers-some (suc entry) (suc row) entries)

answers-append : (entry row : ℕ) (a b : List Outcome) → answers_from entry row (a ++ b) ≡ answers_from entry row a ++ answers_from (entry + length (added a)) (row + length a) b
answers-append entry row [] b = let same : entry + 0 ≡ entry = omega arith in let here : row + 0 ≡ row = omega arith in rw (same, here) refl
answers-append entry row (Err why ∷ a) b =
    let said = line (told (Script (fault_of_row why row))).1 in
    let at : suc row + length a ≡ row + length (Err why ∷ a) = omega arith in
    ap (λ (l : List ℕ). said ++ l) (answers-append entry (suc row) a b)
    ∙ sym (append_assoc said (answers_from entry (suc row) a) (answers_from (entry + length (added a)) (suc row + length a) b))
    ∙ ap (λ (k : ℕ). (said ++ answers_from entry (suc row) a) ++ answers_from (entry + length (added a)) k b) at
answers-append entry row (Ok x ∷ a) b =
    let said = text_of_row (row_of entry x) in
    let at : suc row + length a ≡ row + length (Ok x ∷ a) = omega arith in
    let next : suc entry + length (added a) ≡ entry + length (x ∷ added a) = omega arith in
    ap (λ (l : List ℕ). said ++ l) (answers-append (suc entry) (suc row) a b)
    ∙ sym (append_assoc said (answers_from (suc entry) (suc row) a) (answers_from (suc entry + length (added a)) (suc row + length a) b))
    ∙ ap (λ (k : ℕ). (said ++ answers_from (suc entry) (suc row) a) ++ answers_from (suc entry + length (added a)) k b) at
    ∙ ap (λ (k : ℕ). (said ++ answers_from (suc entry) (suc row) a) ++ answers_from k (row + length (Ok x ∷ a)) b) next

pub zip-append : {X Y : Type 0} (R : X → Y → Type 0) (xs more : List X) (ys others : List Y) → AllZip R xs ys → AllZip R more others → AllZip R (xs ++ more) (ys ++ others)
zip-append R [] more [] others f g = g
zip-append R [] more (y ∷ ys) others f g = absurd f
zip-append R (x ∷ xs) more [] others f g = absurd f
zip-append R (x ∷ xs) more (y ∷ ys) others f g = (f.0, zip-append R xs more ys others f.1 g)

pub zip-length : {X Y : Type 0} (R : X → Y → Type 0) (xs : List X) (ys : List Y) → AllZip R xs ys → length xs ≡ length ys
zip-length R [] [] f = refl
zip-length R [] (y ∷ ys) f = absurd f
zip-length R (x ∷ xs) [] f = absurd f
zip-length R (x ∷ xs) (y ∷ ys) f = ap suc (zip-length R xs ys f.1)

-- rows that ask this become its entries
pub asks_become : (ad : Admission) (rows : List Fields) (asks : List ClerkRequest) (answers : List Answer) → AllZip (IsRowAsking ad) rows asks → length answers ≡ length asks → AllZip (Becomes ad) rows (map Ok (entries_of asks answers))
asks_become ad [] [] answers each same = tt
asks_become ad [] (a ∷ asks) answers each same = absurd each
asks_become ad (row ∷ rows) [] answers each same = absurd each
asks_become ad (row ∷ rows) (a ∷ asks) [] each same = absurd (omega (arith, same))
asks_become ad (row ∷ rows) (a ∷ asks) (x ∷ answers) each same = (each.0, asks_become ad rows asks answers each.1 (omega (arith, same)))

pub length-entries : (requests : List ClerkRequest) (answers : List Answer) → length answers ≡ length requests → length (entries_of requests answers) ≡ length requests
length-entries [] answers same = refl
length-entries (r ∷ requests) [] same = absurd (omega (arith, same))
length-entries (r ∷ requests) (x ∷ answers) same = ap suc (length-entries requests answers (omega (arith, same)))

gone-append : (all left after : Option (List Fields)) (gone rows : List Fields) → HaveGone all gone left → HaveGone left rows after → HaveGone all (gone ++ rows) after
gone-append None left after gone rows first second = tt
gone-append (Some all) None after gone rows first second = absurd first
gone-append (Some all) (Some left) None gone rows first second = absurd second
gone-append (Some all) (Some left) (Some after) gone rows first second =
    first ∙ ap (λ (l : List Fields). gone ++ l) second ∙ sym (append_assoc gone rows after)

-- what was left between some records and the one behind them
pub gone_mid : (left after : Option (List Fields)) (rows : List Fields) (row : Fields) → HaveGone left (rows ++ row ∷ []) after
    → (mid : Option (List Fields)) × HaveGone left rows mid × HaveGone mid (row ∷ []) after
gone_mid None after rows row gone = (None, tt, tt)
gone_mid (Some all) None rows row gone = absurd gone
gone_mid (Some all) (Some rest) rows row gone = (Some (row ∷ rest), gone ∙ append_assoc rows (row ∷ []) rest, refl)

-- how far a run has come: these rows were read and answered
pub record Progress (ad : Admission) (all left : Option (List Fields)) (old now : List EntryView) (before after : Option (List ℕ)) (row bad : ℕ) (whys : List ℕ) : Type 0 where
  pub gone : List Fields
  pub became : List Outcome
  pub have_gone : HaveGone all gone left
  pub each : AllZip (Becomes ad) gone became
  pub journal : now ≡ old ++ added became
  pub said : Appends before after (answers_from (length old + 1) 1 became)
  pub row_is : length became ≡ row
  pub bad_is : bad + length now ≡ row + length old
  pub whys_are : whys ≡ refusals_of became

none_gone : (all : Option (List Fields)) → HaveGone all [] all
none_gone None = tt
none_gone (Some rows) = refl

pub started : (ad : Admission) (all : Option (List Fields)) (old : List EntryView) (before : Option (List ℕ)) → Progress ad all all old old before before 0 0 (refusals_of [])
started ad all old before = record {
  gone = [];
  became = [];
  have_gone = none_gone all;
  each = tt;
  journal = sym (append-nil old);
  said = Appends-nil before;
  row_is = refl;
  bad_is = refl;
  whys_are = refl;
}

-- a batch more
module _ (ad : Admission) (all left mid : Option (List Fields)) (old journal now : List EntryView) (before after later : Option (List ℕ)) (row bad : ℕ) (whys : List ℕ) where
  pub batch_more : (rows : List Fields) (asks : List ClerkRequest) (answers : List Answer) → Progress ad all left old journal before after row bad whys → HaveGone left rows mid → AllZip (IsRowAsking ad) rows asks
      → length answers ≡ length asks → now ≡ journal ++ entries_of asks answers → Appends after later (text_of_rows (rows_from (length journal + 1) (entries_of asks answers)))
      → Progress ad all mid old now before later (row + length asks) bad whys
  batch_more rows asks answers p goes each same grown said =
      let entries = entries_of asks answers in
      let size = ap length p.journal ∙ length-append old (added p.became) in
      let entry : length old + 1 + length (added p.became) ≡ length journal + 1 = omega (arith, size) in
      let count = length-entries asks answers same in
      let text : answers_from (length old + 1) 1 p.became ++ text_of_rows (rows_from (length journal + 1) entries) ≡ answers_from (length old + 1) 1 (p.became ++ map Ok entries) =
      ap (λ (l : List ℕ). answers_from (length old + 1) 1 p.became ++ l) (sym (answers-some (length journal + 1) (1 + length p.became) entries) ∙ ap (λ (k : ℕ). answers_from k (1 + length p.became) (map Ok entries)) (sym entry))
      ∙ sym (answers-append (length old + 1) 1 p.became (map Ok entries)) in
      let grows = ap length grown ∙ length-append journal entries in
      let known = p.row_is in
      let sums = p.bad_is in
      record {
        gone = p.gone ++ rows;
        became = p.became ++ map Ok entries;
        have_gone = gone-append all left mid p.gone rows p.have_gone goes;
        each = zip-append (Becomes ad) p.gone rows p.became (map Ok entries) p.each (asks_become ad rows asks answers each same);
        journal = grown ∙ ap (λ (l : List EntryView). l ++ entries) p.journal ∙ append_assoc old (added p.became) entries
            ∙ ap (λ (l : List EntryView). old ++ (added p.became ++ l)) (sym (added-some entries)) ∙ ap (λ (l : List EntryView). old ++ l) (sym (filter_map-append result_ok p.became (map Ok entries)));
        said = subst (Appends before later) text (Appends-trans before after later _ _ p.said said);
        row_is = length-append p.became (map Ok entries) ∙ omega (arith, known, count, sizes entries);
        bad_is = omega (arith, sums, grows, count);
        whys_are = p.whys_are ∙ sym (refusals-entries p.became entries);
      }
    where
      sizes : (l : List EntryView) → (let done : List Outcome = map Ok l in length done ≡ length l)
      sizes [] = refl
      sizes (x ∷ l) = ap suc (sizes l)

  -- a row that is refused
  pub bad_more : (fields : Fields) (why : RowRefusal) → Progress ad all left old journal before after row bad whys → HaveGone left (fields ∷ []) mid → Judges ad most_clerks fields (Err why)
      → Appends after later (line (told (Script (fault_of_row why (row + 1)))).1) → row + 1 < 2 ^ 64
      → Progress ad all mid old journal before later (row + 1) (bad + 1) (with_refusal whys why)
  bad_more fields why p goes none said fits =
      let known = p.row_is in
      let sums = p.bad_is in
      let here : 1 + length p.became ≡ row + 1 = omega (arith, known) in
      let alone : answers_from (length old + 1 + length (added p.became)) (row + 1) (Err why ∷ []) ≡ line (told (Script (fault_of_row why (row + 1)))).1 = append-nil _ in
      let text : answers_from (length old + 1) 1 p.became ++ line (told (Script (fault_of_row why (row + 1)))).1 ≡ answers_from (length old + 1) 1 (p.became ++ Err why ∷ []) =
      ap (λ (l : List ℕ). answers_from (length old + 1) 1 p.became ++ l) (sym alone ∙ ap (λ (k : ℕ). answers_from (length old + 1 + length (added p.became)) k (Err why ∷ [])) (sym here))
      ∙ sym (answers-append (length old + 1) 1 p.became (Err why ∷ [])) in
      record {
        gone = p.gone ++ fields ∷ [];
        became = p.became ++ Err why ∷ [];
        have_gone = gone-append all left mid p.gone (fields ∷ []) p.have_gone goes;
        each = zip-append (Becomes ad) p.gone (fields ∷ []) p.became (Err why ∷ []) p.each (none, tt);
        journal = p.journal ∙ ap (λ (l : List EntryView). old ++ l) (sym (append-nil (added p.became)) ∙ sym (filter_map-append result_ok p.became (Err why ∷ [])));
        said = subst (Appends before later) text (Appends-trans before after later _ _ p.said said);
        row_is = length-append p.became (Err why ∷ []) ∙ omega (arith, known);
        bad_is = omega (arith, sums);
        whys_are = ap (λ (l : List ℕ). with_refusal l why) p.whys_are ∙ refusals-one_more p.became why (omega (arith, known, fits));
      }

-- the same, by other names
pub moved : (ad : Admission) (all left : Option (List Fields)) (old now : List EntryView) (before after later : Option (List ℕ)) (row bad row_now bad_now : ℕ) (whys whys_now : List ℕ) → later ≡ after → row_now ≡ row → bad_now ≡ bad → whys_now ≡ whys
    → Progress ad all left old now before after row bad whys → Progress ad all left old now before later row_now bad_now whys_now
moved ad all left old now before after later row bad row_now bad_now whys whys_now writer rows bads reasons p =
    subst (λ (w : Option (List ℕ)). Progress ad all left old now before w row_now bad_now whys_now) (sym writer)
    (subst (λ (r : ℕ). Progress ad all left old now before after r bad_now whys_now) (sym rows)
    (subst (λ (b : ℕ). Progress ad all left old now before after row b whys_now) (sym bads)
    (subst (λ (l : List ℕ). Progress ad all left old now before after row bad l) (sym reasons) p)))

all_gone : (all left : Option (List Fields)) (gone : List Fields) → HaveGone all gone left → NoneLeft left → IfSome all (λ rows. rows ≡ gone)
all_gone None left gone have none = tt
all_gone (Some rows) None gone have none = absurd have
all_gone (Some rows) (Some []) gone have none = have ∙ append-nil gone
all_gone (Some rows) (Some (fields ∷ rest)) gone have none = cc none

-- rows were given, and then others
pub gives : (start mid end : RowsView) (m n : ℕ) → HasGiven start mid m → HasGiven mid end n → HasGiven start end (m + n)
gives start mid end m n first second fits =
    let here = first (omega (arith, fits)) in
    let there = second (omega (arith, fits, here)) in
    omega (arith, here, there)

-- all rows have their answers
abbrev pub HasAnswered : Admission → RowsView → RowsView → List EntryView → List EntryView → (List ℕ → Type 0) → ℕ → List ℕ → Type 0
HasAnswered ad before after old now IsSaid bad whys = (records : List Fields) × (became : List Outcome) × (text : List ℕ) × IfSome before.left (λ left. left ≡ records)
    × HasGiven before after (length records) × Answers ad records became old now text × IsSaid text × (bad + length now ≡ length records + length old) × (whys ≡ refusals_of became)

pub done : (ad : Admission) (start end : RowsView) (left : Option (List Fields)) (old now : List EntryView) (before after : Option (List ℕ)) (row bad : ℕ) (whys : List ℕ) → Progress ad start.left left old now before after row bad whys → NoneLeft left
    → HasGiven start end row → HasAnswered ad start end old now (Appends before after) bad whys
done ad start end left old now before after row bad whys p none given =
    let sums = p.bad_is in
    let size : length p.gone ≡ row = zip-length (Becomes ad) p.gone p.became p.each ∙ p.row_is in (
      p.gone,
      p.became,
      answers_from (length old + 1) 1 p.became,
      all_gone start.left left p.gone p.have_gone none,
      subst (λ (n : ℕ). HasGiven start end n) (sym size) given,
      (p.each, p.journal, refl),
      p.said,
      omega (arith, sums, size),
      p.whys_are,
    )

rest_of : Option (List Fields) → List Fields
rest_of None = []
rest_of (Some rows) = rows

rows_are : (all end : Option (List Fields)) (gone served unserved : List Fields) → HaveGone all (gone ++ (served ++ unserved)) end → IfSome all (λ rows. rows ≡ gone ++ served ++ unserved ++ rest_of end)
unfolding rest_of
rows_are None end gone served unserved have = tt
rows_are (Some rows) None gone served unserved have = absurd have
rows_are (Some rows) (Some rest) gone served unserved have = have ∙ ap (λ (l : List Fields). l ++ rest) (sym (append_assoc gone served unserved))

-- the text of the answers so far
abbrev pub text_so_far : (ad : Admission) (all left : Option (List Fields)) (old now : List EntryView) (before after : Option (List ℕ)) (row bad : ℕ) (whys : List ℕ) → Progress ad all left old now before after row bad whys → List ℕ
text_so_far ad all left old now before after row bad whys p = answers_from (length old + 1) 1 p.became

-- and that of those behind them
abbrev pub text_behind : (ad : Admission) (all left : Option (List Fields)) (old now : List EntryView) (before after : Option (List ℕ)) (row bad : ℕ) (whys : List ℕ) → Progress ad all left old now before after row bad whys → List Outcome → List ℕ
text_behind ad all left old now before after row bad whys p became = answers_from (length old + 1 + length (added p.became)) (1 + length p.became) became

-- what was written is the front of this text
abbrev pub Begun : Option (List ℕ) → Option (List ℕ) → List ℕ → Type 0
Begun before after text = (n : ℕ) × Appends before after (take n text)

front_behind : (a b : List ℕ) (n : ℕ) → (m : ℕ) × (a ++ take n b ≡ take m (a ++ b))
front_behind [] b n = (n, refl)
front_behind (x ∷ a) b n = let rest = front_behind a b n in (suc rest.0, ap (λ (t : List ℕ). x ∷ t) rest.1)

front_more : (a b : List ℕ) (n : ℕ) → (m : ℕ) × (take n a ≡ take m (a ++ b))
front_more [] b zero = (0, refl)
front_more [] b (suc n) = (0, refl)
front_more (x ∷ a) b zero = (0, refl)
front_more (x ∷ a) b (suc n) = let rest = front_more a b n in (suc rest.0, ap (λ (t : List ℕ). x ∷ t) rest.1)

pub begun_behind : (before mid after : Option (List ℕ)) (a b : List ℕ) → Appends before mid a → Begun mid after b → Begun before after (a ++ b)
begun_behind before mid after a b first begun =
    let front = front_behind a b begun.0 in
    (front.0, subst (Appends before after) front.1 (Appends-trans before mid after a (take begun.0 b) first begun.1))

pub begun_more : (before after : Option (List ℕ)) (a b : List ℕ) → Begun before after a → Begun before after (a ++ b)
begun_more before after a b begun = let front = front_more a b begun.0 in (front.0, subst (Appends before after) front.1 begun.1)

-- of the entries of a batch, and of what is behind them
pub batch_begun : (ad : Admission) (all left : Option (List Fields)) (old now : List EntryView) (before mid after : Option (List ℕ)) (row bad : ℕ) (whys : List ℕ) (p : Progress ad all left old now before mid row bad whys) (entries : List EntryView) (became : List Outcome)
    → Begun mid after (text_of_rows (rows_from (length now + 1) entries))
    → Begun before after (text_so_far ad all left old now before mid row bad whys p ++ text_behind ad all left old now before mid row bad whys p (map Ok entries ++ became))
batch_begun ad all left old now before mid after row bad whys p entries became begun =
    let size = ap length p.journal ∙ length-append old (added p.became) in
    let entry : length old + 1 + length (added p.became) ≡ length now + 1 = omega (arith, size) in
    let first = length old + 1 + length (added p.became) in
    let at = 1 + length p.became in
    let rows = text_of_rows (rows_from (length now + 1) entries) in
    let rest = answers_from (first + length (added (map Ok entries))) (at + length (let done : List Outcome = map Ok entries in done)) became in
    let text : rows ++ rest ≡ answers_from first at (map Ok entries ++ became) =
    ap (λ (t : List ℕ). t ++ rest) (sym (answers-some (length now + 1) at entries) ∙ ap (λ (k : ℕ). answers_from k at (map Ok entries)) (sym entry))
    ∙ sym (answers-append first at (map Ok entries) became) in
    begun_behind before mid after _ _ p.said (subst (Begun mid after) text (begun_more mid after rows rest begun))

-- of the line of a refused row
pub refused_begun : (ad : Admission) (all left : Option (List Fields)) (old now : List EntryView) (before mid after : Option (List ℕ)) (row bad : ℕ) (whys : List ℕ) (p : Progress ad all left old now before mid row bad whys) (why : RowRefusal) (number : ℕ)
    → number ≡ row + 1 → Begun mid after (line (told (Script (fault_of_row why number))).1)
    → Begun before after (text_so_far ad all left old now before mid row bad whys p ++ text_behind ad all left old now before mid row bad whys p (Err why ∷ []))
refused_begun ad all left old now before mid after row bad whys p why number is begun =
    let known = p.row_is in
    let here : number ≡ 1 + length p.became = omega (arith, known, is) in
    let text : line (told (Script (fault_of_row why number))).1 ≡ text_behind ad all left old now before mid row bad whys p (Err why ∷ []) =
    ap (λ (k : ℕ). line (told (Script (fault_of_row why k))).1) here ∙ sym (append-nil _) in
    begun_behind before mid after _ _ p.said (subst (Begun mid after) text begun)

-- what was not stopped has not failed
pub not_stopped : (rows : RowsView) → rows.fault ≡ None → ¬ HasFailed rows
not_stopped rows is failed = cc (subst (λ (fault : Option RecordsFault). IsSome fault) is failed.0)

-- that the input failed is told
abbrev pub IsTold : AppFault → Type 0
IsTold fault = (i : ℕ) × (fault ≡ Script (ReadFailed i))

-- some rows were read, and not answered: some of them are served
pub halts : (ad : Admission) (fault : AppFault) (start end : RowsView) (left after : Option (List Fields)) (old now last : List EntryView) (w0 w1 : Option (List ℕ)) (row bad : ℕ) (whys : List ℕ) (served unserved : List Fields) (became : List Outcome)
    → (p : Progress ad start.left left old now w0 w1 row bad whys) → HaveGone left (served ++ unserved) after → AllZip (Becomes ad) served became → last ≡ now ++ added became
    → HasGiven start end (row + (length served + length unserved)) → ((answered : ℕ) → answered ≡ row → IsBehind fault answered (length served) (length unserved))
    → (¬ HasFailed start → HasFailed end → served ++ unserved ≡ [] → IsTold fault)
    → Halts ad fault start end old now last (text_so_far ad start.left left old now w0 w1 row bad whys p) (text_behind ad start.left left old now w0 w1 row bad whys p became)
halts ad fault start end left after old now last w0 w1 row bad whys served unserved became p gone each grown given behind told_so =
    let size : length p.gone ≡ row = zip-length (Becomes ad) p.gone p.became p.each ∙ p.row_is in
    let sizes : row + (length served + length unserved) ≡ length (p.gone ++ served ++ unserved) = omega (arith, size, length-append (p.gone ++ served) unserved, length-append p.gone served) in (
      p.gone,
      served,
      unserved,
      rest_of after,
      p.became,
      became,
      rows_are start.left after p.gone served unserved (gone-append start.left left after p.gone (served ++ unserved) p.have_gone gone),
      subst (λ (n : ℕ). HasGiven start end n) sizes given,
      (p.each, p.journal, refl),
      (
        zip-append (Becomes ad) p.gone served p.became became p.each each,
        grown ∙ ap (λ (l : List EntryView). l ++ added became) p.journal ∙ append_assoc old (added p.became) (added became) ∙ ap (λ (l : List EntryView). old ++ l) (sym (filter_map-append result_ok p.became became)),
        sym (answers-append (length old + 1) 1 p.became became),
      ),
      behind (length p.gone) size,
      told_so,
    )

pub nothing_gone : (left : Option (List Fields)) → HaveGone left ([] ++ []) left
nothing_gone None = tt
nothing_gone (Some rows) = refl

-- no more rows were read
pub halts_here : (ad : Admission) (fault : AppFault) (start end : RowsView) (left : Option (List Fields)) (old now : List EntryView) (w0 w1 : Option (List ℕ)) (row bad : ℕ) (whys : List ℕ)
    → (p : Progress ad start.left left old now w0 w1 row bad whys) → HasGiven start end row → ((answered : ℕ) → answered ≡ row → IsBehind fault answered 0 0)
    → (¬ HasFailed start → HasFailed end → IsTold fault)
    → Halts ad fault start end old now now (text_so_far ad start.left left old now w0 w1 row bad whys p) []
halts_here ad fault start end left old now w0 w1 row bad whys p given behind told_so =
    let same : row ≡ row + (0 + 0) = omega arith in
    halts ad fault start end left left old now now w0 w1 row bad whys [] [] [] p (nothing_gone left) tt (sym (append-nil now)) (subst (λ (n : ℕ). HasGiven start end n) same given) behind (λ sound failed none. told_so sound failed)

-- nothing was read
pub halts_unbegun : (ad : Admission) (fault : AppFault) (start : RowsView) (old : List EntryView) → IsBehind fault 0 0 0 → Halts ad fault start start old old old [] []
unfolding started
halts_unbegun ad fault start old behind =
    halts_here ad fault start start start.left old old None None 0 0 (refusals_of []) (started ad start.left old None) (λ fits. omega arith) (λ answered is. subst (λ (n : ℕ). IsBehind fault n 0 0) (sym is) behind)
    (λ sound failed. absurd (sound failed))

with_nil : (left : Option (List Fields)) (records : List Fields) → IfSome left (λ rows. rows ≡ records) → IfSome left (λ rows. rows ≡ records ++ [] ++ [] ++ [])
with_nil None records are = tt
with_nil (Some rows) records are = are ∙ sym (append-nil (records ++ [] ++ []) ∙ append-nil (records ++ []) ∙ append-nil records)

-- all rows were read and answered
pub halts_behind_all : (ad : Admission) (fault : AppFault) (start end : RowsView) (old now : List EntryView) (text : List ℕ) (records : List Fields) (became : List Outcome) → IfSome start.left (λ left. left ≡ records)
    → HasGiven start end (length records) → Answers ad records became old now text → ((answered : ℕ) → IsBehind fault answered 0 0) → ¬ HasFailed end → Halts ad fault start end old now now text []
halts_behind_all ad fault start end old now text records became are given answers behind sound =
    let all : records ≡ records ++ [] = sym (append-nil records) in
    let answers_all : Answers ad (records ++ []) (became ++ []) old now (text ++ []) = subst (λ (t : List ℕ). Answers ad (records ++ []) (became ++ []) old now t) (sym (append-nil text))
    (subst (λ (b : List Outcome). Answers ad (records ++ []) b old now text) (sym (append-nil became)) (subst (λ (r : List Fields). Answers ad r became old now text) all answers)) in (
      records,
      [],
      [],
      [],
      became,
      [],
      with_nil start.left records are,
      subst (λ (r : List Fields). HasGiven start end (length r)) (all ∙ sym (append-nil (records ++ []))) given,
      answers,
      answers_all,
      behind (length records),
      λ before failed empty. absurd (sound failed),
    )
