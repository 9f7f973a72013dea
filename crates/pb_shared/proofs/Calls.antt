-- What the steps of a call come to for its clerk.
use Rattle.std.proofs.Common.{◌≡◌, ◌≢◌, ℕ, zero, suc, ◌+◌, ◌<◌, ◌≤◌, List, [], ◌∷◌, ◌++◌, length, drop, All, Result, Ok, Err, IfOk, IfErr, Some, sym, unwrap_or, slice_get, slice_index_or, refl, ap, ◌∙◌, subst, arith, append_assoc, length-append}
use Rattle.std.proofs.Math.Seq.{drop-append_seam}
use Rattle.std.specs.Prelude.{IsErrAnd}
use Rattle.std.proofs.lemmas.Option.{none-some}
use Rattle.std.proofs.lemmas.List.Elements.{All-append, All-cons, All-nil}
use Rattle.atomic_table.specs.Seated.{TableId}
use Rattle.pb_shared.specs.Inner.Desk.{desk_with}
use Rattle.pb_core.specs.Request.{EntryView, RequestView}
use Rattle.pb_core.specs.declared.answer.Answer.{Answer}
use Rattle.pb_desk.specs.Desk.{DeskView}
use Rattle.pb_desk.specs.Replay.{IsLegal}
use Rattle.pb_shared.specs.Clerk.{CanHave, ClerkView, GrowsByOthers, IsAnothers, Reads, Sees, Serves, SharedView, Tries}
use Rattle.pb_shared.specs.Refusal.{Refuses}
use Rattle.pb_shared.specs.Inner.Rule.{Sitter}
use Rattle.pb_shared.specs.Inner.Plays.{CanSee, won, freed, published, has_read, reads}
use Rattle.pb_shared.specs.Seats.{clerk_view}
use Rattle.pb_shared.specs.Inner.Seats.{HasLost, HasServed, HasWon, IsDeskOf}
use Rattle.pb_shared.specs.declared.seat_view.SeatView.{SeatView}
use Rattle.pb_shared.specs.declared.seat_view.Sheet.{Sheet}
use Rattle.pb_shared.specs.declared.shared_fault.SharedFault.{SharedFault}
use Rattle.pb_shared.specs.declared.shared_fault.SharedFault.TheVariants.{Busy, JournalFull, NoMemory}

-- one exchange
one_try : (d : SharedView) (x x' : Sheet) (word : ℕ) → x'.found ≡ x.found ++ word ∷ [] → Tries 1 d x word x'
one_try d x x' word is = ([], All-nil (IsAnothers d (x ∷ [])), omega arith, is)

-- the desk as it was taken out
pub as_taken : (m m1 : Sitter) (desk : DeskView) (won_lock : HasWon m desk m1) → IsDeskOf m1 desk m1.0.sheet.seen
as_taken m m1 desk won_lock = won_lock.2 ∙ ap (λ (n : Sitter). desk_with n.0.about.desk.value n.0.sheet.seen) (sym won_lock.3)

-- the desk after one entry more
pub has_served : (m m1 : Sitter) (desk desk' : DeskView) (seen : List EntryView) (x : EntryView) → m1.0 ≡ won m.0 seen → desk ≡ desk_with m.0.about.desk.value seen
    → desk'.opening ≡ desk.opening → desk'.room ≡ desk.room → desk'.journal ≡ desk.journal ++ x ∷ [] → x.clerk ≡ m.0.sheet.number → HasServed m1 desk'
has_served m m1 desk desk' seen x was is_desk opening room journal by =
    let d : DeskView = m.0.about.desk.value in
    let fit : desk' ≡ desk_with d (seen ++ x ∷ []) = λ i. record {
      opening = (opening ∙ ap (λ (e : DeskView). e.opening) is_desk) i;
      room = (room ∙ ap (λ (e : DeskView). e.room) is_desk) i;
      journal = (journal ∙ ap (λ (e : DeskView). e.journal ++ x ∷ []) is_desk) i;
    } in (
      x,
      by ∙ ap (λ (v : SeatView). v.sheet.number) (sym was),
      fit ∙ ap (λ (v : SeatView). desk_with v.about.desk.value (v.sheet.seen ++ x ∷ [])) (sym was),
    )

-- a call that was answered
pub serves : (id : TableId) (m m1 m2 : Sitter) (c : ClerkView) (d : SharedView) (desk desk' : DeskView) (seen : List EntryView) (x : EntryView)
    → clerk_view id m ≡ c → c.desk ≡ d → CanSee m.0 seen → m1.0 ≡ won m.0 seen → desk ≡ desk_with m.0.about.desk.value seen
    → desk'.opening ≡ desk.opening → desk'.room ≡ desk.room → desk'.journal ≡ desk.journal ++ x ∷ [] → IsLegal desk'.opening desk'.journal → length desk'.journal ≤ desk'.room
    → m2 ≡ (freed (published m1.0 desk'.journal), []) → x.clerk ≡ m.0.sheet.number → Serves 1 d c.sheet x.request x.answer m2.0.sheet
serves id m m1 m2 c d desk desk' seen x view own can was is_desk opening room journal legal fits after by =
    let v : SeatView = m.0 in
    let last : EntryView = record { clerk = v.sheet.number; request = x.request; answer = x.answer } in
    let x_is : x ≡ last = λ i. record { clerk = by i; request = x.request; answer = x.answer } in
    let grown : desk'.journal ≡ seen ++ last ∷ [] = journal ∙ (λ i. ap (λ (d : DeskView). d.journal) is_desk i ++ x_is i ∷ []) in
    let mine : v.sheet.mine ++ drop (length seen) desk'.journal ≡ v.sheet.mine ++ last ∷ [] = ap (λ l. v.sheet.mine ++ l) (ap (drop (length seen)) grown ∙ drop-append_seam seen (last ∷ [])) in
    let after' : m2 ≡ (freed (published (won v seen) desk'.journal), []) = after ∙ (λ i. (freed (published (was i) desk'.journal), [])) in
    let sheet_is : m2.0.sheet ≡ (freed (published (won v seen) desk'.journal)).sheet = ap (λ (z : Sitter). z.0.sheet) after' in
    let journal_is : m2.0.sheet.seen ≡ desk'.journal = ap (λ (x : Sheet). x.seen) sheet_is in
    let found_is : m2.0.sheet.found ≡ v.sheet.found ++ 0 ∷ [] = ap (λ (x : Sheet). x.found) sheet_is in
    subst (λ (e : SharedView). Serves 1 e c.sheet x.request x.answer m2.0.sheet) own (subst (λ (k : ClerkView). Serves 1 k.desk k.sheet x.request x.answer m2.0.sheet) view (
      seen,
      can.begins,
      (
        subst (λ (d : DeskView). IsLegal d.opening m2.0.sheet.seen) is_desk (subst (λ j. IsLegal desk.opening j) (sym journal_is) (subst (λ o. IsLegal o desk'.journal) opening legal)),
        subst (λ (d : DeskView). length m2.0.sheet.seen ≤ d.room) is_desk (subst (λ j. length j ≤ desk.room) (sym journal_is) (subst (λ n. length desk'.journal ≤ n) room fits)),
      ),
      one_try (clerk_view id m).desk v.sheet m2.0.sheet 0 found_is,
      sheet_is ∙ (λ i. record v.sheet { seen = grown i; mine = mine i; found = sym found_is i }),
    ))

-- a call that won the lock, and added nothing
pub sees : (id : TableId) (m m1 m2 : Sitter) (c : ClerkView) (d : SharedView) (desk : DeskView) (won_lock : HasWon m desk m1) → clerk_view id m ≡ c → c.desk ≡ d → m2 ≡ (freed m1.0, []) → Sees 1 d c.sheet m2.0.sheet
sees id m m1 m2 c d desk won_lock view own after =
    let v : SeatView = m.0 in
    let seen : List EntryView = won_lock.0 in
    let can = won_lock.1 in
    let after' : m2 ≡ (freed (won v seen), []) = after ∙ (λ i. (freed (won_lock.3 i).0, [])) in
    let sheet_is : m2.0.sheet ≡ (freed (won v seen)).sheet = ap (λ (z : Sitter). z.0.sheet) after' in
    let seen_is : m2.0.sheet.seen ≡ seen = ap (λ (x : Sheet). x.seen) sheet_is in
    let found_is : m2.0.sheet.found ≡ v.sheet.found ++ 0 ∷ [] = ap (λ (x : Sheet). x.found) sheet_is in
    subst (λ (e : SharedView). Sees 1 e c.sheet m2.0.sheet) own (subst (λ (k : ClerkView). Sees 1 k.desk k.sheet m2.0.sheet) view (
      one_try (clerk_view id m).desk v.sheet m2.0.sheet 0 found_is,
      (subst (CanHave v.about.desk.value) (sym seen_is) can.can_be, subst (GrowsByOthers v.sheet.number v.sheet.seen) (sym seen_is) can.begins),
      sheet_is ∙ (λ i. record v.sheet { seen = sym seen_is i; found = sym found_is i }),
    ))

-- the desk that it saw
pub sees_desk : (id : TableId) (m m1 m2 : Sitter) (c : ClerkView) (d : SharedView) (desk : DeskView) (won_lock : HasWon m desk m1) → clerk_view id m ≡ c → c.desk ≡ d → m2 ≡ (freed m1.0, [])
    → desk ≡ desk_with d.start m2.0.sheet.seen
sees_desk id m m1 m2 c d desk won_lock view own after =
    let after' : m2 ≡ (freed (won m.0 won_lock.0), []) = after ∙ (λ i. (freed (won_lock.3 i).0, [])) in
    let seen_is : m2.0.sheet.seen ≡ won_lock.0 = λ i. (after' i).0.sheet.seen in
    won_lock.2 ∙ (λ i. desk_with (view i).desk.start (sym seen_is i)) ∙ ap (λ (e : SharedView). desk_with e.start m2.0.sheet.seen) own

-- a call that lost its exchange
pub turned_away : (id : TableId) (m m' : Sitter) (c : ClerkView) (d : SharedView) (holder : ℕ) (lost_lock : HasLost m holder m') → clerk_view id m ≡ c → c.desk ≡ d → Refuses 1 d c.sheet (Busy holder) m'.0.sheet
turned_away id m m' c d holder lost_lock view own =
    let sheet_is : m'.0.sheet ≡ record m.0.sheet { found = m.0.sheet.found ++ (holder + 1) ∷ [] } = λ i. (lost_lock.2 i).0.sheet in
    let found_is : m'.0.sheet.found ≡ m.0.sheet.found ++ (holder + 1) ∷ [] = ap (λ (x : Sheet). x.found) sheet_is in
    let apart : Sheet → Type 0 = λ x. holder + 1 ≢ x.number + 1 in
    subst (λ (e : SharedView). Refuses 1 e c.sheet (Busy holder) m'.0.sheet) own (subst (λ (k : ClerkView). Refuses 1 k.desk k.sheet (Busy holder) m'.0.sheet) view (
      one_try (clerk_view id m).desk m.0.sheet m'.0.sheet (holder + 1) found_is,
      (omega arith, (let known = lost_lock.0 in omega arith), All-cons apart m.0.sheet [] (λ same. lost_lock.1 (omega arith)) (All-nil apart)),
      ap length found_is ∙ length-append m.0.sheet.found ((holder + 1) ∷ []),
      sheet_is ∙ (λ i. record m.0.sheet { found = sym found_is i }),
    ))

-- a load of the front word
pub reads_front : (id : TableId) (m m' : Sitter) (c : ClerkView) (d : SharedView) (word : ℕ) → clerk_view id m ≡ c → c.desk ≡ d → reads m word m' → Reads d c.sheet word m'.0.sheet
reads_front id m m' c d word view own r =
    let v : SeatView = m.0 in
    let sheet_is : m'.0.sheet ≡ (has_read v r.0 word).sheet = λ i. (r.4 i).0.sheet in
    let seen_is : m'.0.sheet.seen ≡ r.0 = ap (λ (x : Sheet). x.seen) sheet_is in
    subst (λ (e : SharedView). Reads e c.sheet word m'.0.sheet) own (subst (λ (k : ClerkView). Reads k.desk k.sheet word m'.0.sheet) view (
      (subst (CanHave v.about.desk.value) (sym seen_is) r.1.can_be, subst (GrowsByOthers v.sheet.number v.sheet.seen) (sym seen_is) r.1.begins),
      r.3 ∙ ap length (sym seen_is),
      sheet_is ∙ (λ i. record v.sheet { seen = sym seen_is i; read = v.sheet.read ++ word ∷ [] }),
    ))

-- what the clerk knows after exchanges that it lost
abbrev pub after_losses : Sheet → List ℕ → Sheet
after_losses x words = record x { found = x.found ++ words }

-- exchanges that were lost leave the clerk's number
still_anothers : (d : SharedView) (x : Sheet) (lost : List ℕ) (word : ℕ) → IsAnothers d (after_losses x lost ∷ []) word → IsAnothers d (x ∷ []) word
still_anothers d x lost word is =
    let apart : Sheet → Type 0 = λ y. word ≢ y.number + 1 in
    (is.0, is.1, All-cons apart x [] (is.2 0 x (omega arith)) (All-nil apart))

-- one exchange more, after those that were lost
module _ (d : SharedView) (x x' : Sheet) (lost : List ℕ) (tries : ℕ) (others : All (IsAnothers d (x ∷ [])) lost) where
  tries_later : (word : ℕ) → length lost < tries → Tries 1 d (after_losses x lost) word x' → Tries tries d x word x'
  tries_later word few t = (
    lost ++ t.0,
    All-append (IsAnothers d (x ∷ [])) lost t.0 others (λ k e inside. still_anothers d x lost _ (t.1 k e inside)),
    (let none = t.2 in omega (arith, length-append lost t.0)),
    t.3 ∙ (append_assoc x.found lost (t.0 ++ word ∷ []) ∙ ap (λ l. x.found ++ l) (sym (append_assoc lost t.0 (word ∷ [])))),
  )

  sees_later : length lost < tries → Sees 1 d (after_losses x lost) x' → Sees tries d x x'
  sees_later few s = (tries_later 0 few s.0, s.1, s.2)

  pub serves_later : (request : RequestView) (answer : Answer) → length lost < tries → Serves 1 d (after_losses x lost) request answer x' → Serves tries d x request answer x'
  serves_later request answer few s = (s.0, s.1, s.2, tries_later 0 few s.3, s.4)

  -- refused while tries were left, but not because of the lock
  pub full_later : length lost < tries → Refuses 1 d (after_losses x lost) JournalFull x' → Refuses tries d x JournalFull x'
  full_later few r = (sees_later few r.0, r.1)

  pub no_memory_later : length lost < tries → Refuses 1 d (after_losses x lost) NoMemory x' → Refuses tries d x NoMemory x'
  no_memory_later few r = (sees_later few r.0, r.1)

  -- refused at the last of the tries
  pub refuses_last : (fault : SharedFault) → length lost + 1 ≡ tries → Refuses 1 d (after_losses x lost) fault x' → Refuses tries d x fault x'
  refuses_last (Busy holder) last r = (tries_later (holder + 1) (omega arith) r.0, still_anothers d x lost (holder + 1) r.1, (let count = r.2 in omega (arith, length-append x.found lost)), r.3)
  refuses_last JournalFull last r = full_later (omega arith) r
  refuses_last NoMemory last r = no_memory_later (omega arith) r

none_lost : (words : List ℕ) → length words < 1 → words ≡ []
none_lost [] few = refl
none_lost (word ∷ words) few = absurd (omega arith)

-- one more lost exchange
pub loses_again : (d : SharedView) (x x' : Sheet) (lost : List ℕ) (holder : ℕ) → All (IsAnothers d (x ∷ [])) lost → Refuses 1 d (after_losses x lost) (Busy holder) x'
    → All (IsAnothers d (x ∷ [])) (lost ++ (holder + 1) ∷ []) × (x' ≡ after_losses x (lost ++ (holder + 1) ∷ []))
loses_again d x x' lost holder others r = (
  All-append (IsAnothers d (x ∷ [])) lost ((holder + 1) ∷ []) others (All-cons (IsAnothers d (x ∷ [])) (holder + 1) [] (still_anothers d x lost (holder + 1) r.1) (All-nil (IsAnothers d (x ∷ [])))),
  (
      let found_is : x'.found ≡ x.found ++ (lost ++ (holder + 1) ∷ []) = r.0.3 ∙ (ap (λ l. (x.found ++ lost) ++ (l ++ (holder + 1) ∷ [])) (none_lost r.0.0 r.0.2) ∙ append_assoc x.found lost ((holder + 1) ∷ [])) in
      r.3 ∙ (λ i. record x { found = found_is i })
      ),
)

pub if_ok : {T E : Type 0} (P Q : T → Type 0) → ((x : T) → P x → Q x) → (r : Result T E) → IfOk r P → IfOk r Q
if_ok P Q h (Ok x) p = h x p
if_ok P Q h (Err e) p = tt

pub if_err_and : {T E : Type 0} (P Q : E → Type 0) → ((e : E) → P e → Q e) → (r : Result T E) → IsErrAnd r P → IfErr r Q
if_err_and P Q h (Ok x) p = tt
if_err_and P Q h (Err e) p = h e p

pub if_err : {T E : Type 0} (P Q : E → Type 0) → ((e : E) → P e → Q e) → (r : Result T E) → IfErr r P → IfErr r Q
if_err P Q h (Ok x) p = tt
if_err P Q h (Err e) p = h e p

module _ {X : Type 0} where
  pub slice_get-last : (xs : List X) (x : X) (n : ℕ) → n ≡ length xs → slice_get (xs ++ x ∷ []) n ≡ Some x
  slice_get-last [] x zero e = refl
  slice_get-last [] x (suc n) e = absurd (omega arith)
  slice_get-last (y ∷ xs) x zero e = absurd (omega arith)
  slice_get-last (y ∷ xs) x (suc n) e = slice_get-last xs x n (omega arith)

  pub slice_get-before : (xs ys : List X) (n : ℕ) → n < length xs → slice_get (xs ++ ys) n ≡ slice_get xs n
  slice_get-before [] ys n lt = absurd (omega arith)
  slice_get-before (y ∷ xs) ys zero lt = refl
  slice_get-before (y ∷ xs) ys (suc n) lt = slice_get-before xs ys n (omega arith)

  pub slice_get-is : (xs : List X) (k : ℕ) (d x : X) → slice_get xs k ≡ Some x → slice_index_or xs k d ≡ x
  slice_get-is [] k d x e = absurd (none-some x e)
  slice_get-is (y ∷ xs) zero d x e = ap (λ o. unwrap_or o y) e
  slice_get-is (y ∷ xs) (suc k) d x e = slice_get-is xs k d x e
