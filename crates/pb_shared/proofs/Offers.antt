-- The steps, as the calls make them.
use Rattle.std.proofs.Common.{◌≡◌, ℕ, ◌+◌, ◌<◌, ◌≤◌, ◌==◌, true, List, [], ◌∷◌, ◌++◌, length, Some, None, slice_get, All, sym, refl, ap, ◌∙◌, subst, arith}
use mathlib.Core.Logic.{dite}
use native.Mathlib.Decide.{ℕ_discrete}
use prog.Atomic.{either}
use Rattle.atomic_table.specs.Seated.{TableId}
use mathlib.Core.Option.{none}
use Rattle.atomic_table.specs.Table.{Allows, Splits, rest, opening, step}
use Rattle.pb_shared.specs.Inner.Desk.{desk_with}
use Rattle.pb_core.specs.Request.{EntryView}
use Rattle.pb_desk.specs.Desk.{DeskView}
use Rattle.pb_desk.specs.Replay.{IsLegal, most_clerks}
use Rattle.pb_shared.specs.Clerk.{SharedView, ClerkView, new_sheet}
use Rattle.pb_shared.specs.Rule.{DeskRule}
use Rattle.pb_shared.specs.Inner.Rule.{seated, stock, Sitter}
use Rattle.pb_shared.specs.Steps.{StepRule, knowing}
use Rattle.pb_shared.specs.Inner.Plays.{tries_lock, frees, publishes, reads, dealt_left, dealt_right}
use Rattle.pb_shared.specs.Seats.{clerk_view}
use Rattle.pb_shared.specs.Inner.SharedView.{shared_view}
use Rattle.pb_shared.specs.Inner.Seats.{newcomer, IsIdle}
use Rattle.pb_shared.specs.declared.seat_view.About.{About}
use Rattle.pb_shared.specs.declared.seat_view.Role.TheVariants.{Clerk, Stock}
use Rattle.pb_shared.specs.declared.seat_view.SeatView.{SeatView}
use Rattle.pb_shared.proofs.LockSteps.{S, loads, locks, frees_home, frees_out, stores}
use Rattle.pb_shared.proofs.Told.{also, told_front, told_free, told_lock, told_publish}
use Rattle.pb_shared.proofs.SeatSteps.{deals, starts}
use Rattle.pb_shared.proofs.Calls.{slice_get-is, slice_get-last, slice_get-before}

-- a clerk or a note of this desk has a seat at its table
pub clerk_sits : (id its : TableId) (a : About) (m : Sitter) (c : ClerkView) (d : SharedView) → clerk_view its m ≡ c → c.desk ≡ d → shared_view id a ≡ d → its ≡ id
clerk_sits id its a m c d seen own table = ap (λ x. x.desk.id) seen ∙ (ap (λ x. x.id) own ∙ sym (ap (λ x. x.id) table))

pub locks_at : (a : About) (slots id number word : ℕ) (m : Sitter) → IsIdle number m → word ≡ number + 1
    → Allows (DeskRule a) slots id m 0 (λ n. either (n == 0) word n) (λ n m'. StepRule (step slots 0 0 word none) m.0.sheet n m'.0.sheet × tries_lock m n m')
locks_at a slots id number word m idle its =
    let same : (m.0, []) ≡ m = λ i. (m.0, sym idle.empty i) in
    let own : m.0.sheet.number + 1 ≡ word = ap (λ k. k + 1) idle.number_is ∙ sym its in
    also (DeskRule a) slots id m 0 (λ n. either (n == 0) word n) (tries_lock m) (λ n m'. StepRule (step slots 0 0 word none) m.0.sheet n m'.0.sheet) (λ n m' t. told_lock slots word n m m' (sym own) t)
    (subst (λ (k : ℕ). Allows (DeskRule a) slots id m 0 (λ n. either (n == 0) k n) (tries_lock m)) own
    (subst (λ (z : Sitter). Allows (DeskRule a) slots id z 0 (λ n. either (n == 0) (m.0.sheet.number + 1) n) (tries_lock z)) same (locks a slots id m.0 idle.role idle.free)))

pub loads_at : (a : About) (slots id : ℕ) (m : Sitter) → m.0.role ≡ Clerk → Allows (DeskRule a) slots id m 1 (λ n. n) (λ n m'. StepRule (step slots 1 0 0 none) m.0.sheet n m'.0.sheet × reads m n m')
loads_at a slots id m role =
    also (DeskRule a) slots id m 1 (λ n. n) (reads m) (λ n m'. StepRule (step slots 1 0 0 none) m.0.sheet n m'.0.sheet) (λ n m' r. told_front slots n m m' r) (loads a slots id m role)

-- a store of 0 in the lock word
abbrev FreesWord : About → ℕ → ℕ → Sitter → Type 0
FreesWord a slots id m = Allows (DeskRule a) slots id m 0 (λ _. 0) (λ _ m'. StepRule (step slots 0 0 0 none) m.0.sheet 0 m'.0.sheet × frees m 0 m')

frees_so : (a : About) (slots id : ℕ) (m : Sitter) → Allows (DeskRule a) slots id m 0 (λ _. 0) (λ _. frees m 0) → FreesWord a slots id m
frees_so a slots id m go =
    also (DeskRule a) slots id m 0 (λ _. 0) (λ _. frees m 0) (λ _ m'. StepRule (step slots 0 0 0 none) m.0.sheet 0 m'.0.sheet) (λ _ m' f. told_free slots m m' f) go

-- the desk is in hand
pub in_hand : (m m' : Sitter) (desk : DeskView) → m.1 ≡ (0, None) ∷ [] → m' ≡ (m.0, (0, Some desk) ∷ rest m.1) → m' ≡ (m.0, (0, Some desk) ∷ [])
in_hand m m' desk taken put = put ∙ (λ i. (m.0, (0, Some desk) ∷ rest (taken i)))

pub frees_at : (a : About) (slots id : ℕ) (v : SeatView) (desk : DeskView) (m : Sitter) → v.role ≡ Clerk → v.holds ≡ true → desk ≡ desk_with v.about.desk.value v.sheet.seen → m ≡ (v, (0, Some desk) ∷ [])
    → FreesWord a slots id m
frees_at a slots id v desk m role on is_desk out =
    let same : (v, (0, Some (desk_with v.about.desk.value v.sheet.seen)) ∷ []) ≡ m = (λ i. (v, (0, Some (sym is_desk i)) ∷ [])) ∙ sym out in
    frees_so a slots id m (subst (λ (z : Sitter). Allows (DeskRule a) slots id z 0 (λ _. 0) (λ _. frees z 0)) same (frees_out a slots id v role on))

pub frees_again : (a : About) (slots id : ℕ) (v : SeatView) (m : Sitter) → v.role ≡ Clerk → v.home ≡ true → m ≡ (v, []) → FreesWord a slots id m
frees_again a slots id v m role at_home is = frees_so a slots id m (subst (λ (z : Sitter). Allows (DeskRule a) slots id z 0 (λ _. 0) (λ _. frees z 0)) (sym is) (frees_home a slots id v role at_home))

pub stores_at : (a : About) (slots id : ℕ) (v : SeatView) (desk : DeskView) (x : EntryView) (entries : ℕ) (m : Sitter) → v.role ≡ Clerk → v.holds ≡ true
    → x.clerk ≡ v.sheet.number → desk ≡ desk_with v.about.desk.value (v.sheet.seen ++ x ∷ []) → IsLegal desk.opening desk.journal → length desk.journal ≤ desk.room → entries ≡ length desk.journal → m ≡ (v, (0, Some desk) ∷ [])
    → Allows (DeskRule a) slots id m 1 (λ _. entries) (λ _ m'. StepRule (step slots 1 entries 0 none) m.0.sheet entries m'.0.sheet × publishes m entries m')
stores_at a slots id v desk x entries m role on by is_desk legal room count out =
    let d : DeskView = desk_with v.about.desk.value (v.sheet.seen ++ x ∷ []) in
    let same : (v, (0, Some d) ∷ []) ≡ m = (λ i. (v, (0, Some (sym is_desk i)) ∷ [])) ∙ sym out in
    let me : Sitter = (v, (0, Some d) ∷ []) in
    let entries_is : entries ≡ length (v.sheet.seen ++ x ∷ []) = count ∙ ap (λ (z : DeskView). length z.journal) is_desk in
    subst (λ (z : Sitter). Allows (DeskRule a) slots id z 1 (λ _. entries) (λ _ m'. StepRule (step slots 1 entries 0 none) z.0.sheet entries m'.0.sheet × publishes z entries m')) same
    (also (DeskRule a) slots id me 1 (λ _. entries) (λ _. publishes me entries) (λ _ m'. StepRule (step slots 1 entries 0 none) v.sheet entries m'.0.sheet)
    (λ _ m' p. told_publish slots entries v x (desk_with v.about.desk.value (v.sheet.seen ++ x ∷ [])) m' refl entries_is p)
    (stores a slots id v x entries role on by (subst (λ (z : DeskView). IsLegal z.opening z.journal) is_desk legal) (subst (λ (z : DeskView). length z.journal ≤ z.room) is_desk room) entries_is))

-- the seat that has the clerks from k on in stock
pub deals_at : (a b : About) (id k : ℕ) (v : SeatView) → b ≡ a → v ≡ seated Stock b (new_sheet b.desk.value.journal k) → k < a.clerks → Splits (DeskRule a) id v (knowing v (dealt_left v)) (knowing v (dealt_right v))
deals_at a b id k v same is few =
    subst (λ (z : SeatView). Splits (DeskRule a) id z (knowing z (dealt_left z)) (knowing z (dealt_right z))) (sym is) (deals a id (seated Stock b (new_sheet b.desk.value.journal k)) refl few)

pub carries : (l : List (ℕ × S)) (x : S) → l ≡ (0, x) ∷ [] → l ≡ (0, x) ∷ rest l
carries l x e = e ∙ ap (λ k. (0, x) ∷ rest k) (sym e)

pub starts_at : (a : About) (desk : DeskView) (entries : ℕ) (slots : List S) → a.desk.value ≡ desk → slots ≡ Some desk ∷ [] → entries ≡ length desk.journal → IsLegal desk.opening desk.journal → length desk.journal ≤ desk.room
    → DeskRule a (opening (0 ∷ entries ∷ []) slots (stock a))
starts_at a desk entries slots is laid count legal fits =
    subst (λ (p : ℕ × List S). DeskRule a (opening (0 ∷ p.0 ∷ []) p.1 (stock a))) (λ i. ((ap (λ (d : DeskView). length d.journal) is ∙ sym count) i, (ap (λ d. Some d ∷ []) is ∙ sym laid) i))
    (starts a (subst (λ (d : DeskView). IsLegal d.opening d.journal) (sym is) legal) (subst (λ (d : DeskView). length d.journal ≤ d.room) (sym is) fits))

-- the seat of a clerk who leaves the stock
pub dealt : (a : About) (k : ℕ) (v : SeatView) (m : Sitter) → v ≡ seated Stock a (new_sheet a.desk.value.journal k) → m ≡ (knowing v (dealt_right v), []) → k < a.clerks → a.clerks ≤ most_clerks → IsIdle k m
dealt a k v m is out known few =
    let same : m ≡ (seated Clerk a (new_sheet a.desk.value.journal k), []) = out ∙ ap (λ (z : SeatView). (knowing z (dealt_right z), [])) is in
    subst (IsIdle k) (sym same) record { role = refl; number_is = refl; known = known; few = few; free = refl; empty = refl }

-- one newcomer more
pub comes_next : (d : SharedView) (clerks : List ClerkView) (c : ClerkView) (number : ℕ) → length clerks ≡ number → ((k : ℕ) → k < number → slice_get clerks k ≡ Some (newcomer d k)) → c ≡ newcomer d number
    → (k : ℕ) → k < number + 1 → slice_get (clerks ++ c ∷ []) k ≡ Some (newcomer d k)
comes_next d clerks c number count before next k below =
    dite (ℕ_discrete k number)
    (λ same. slice_get-last clerks c k (same ∙ sym count) ∙ (ap Some next ∙ ap (λ n. Some (newcomer d n)) (sym same)))
    (λ other. slice_get-before clerks (c ∷ []) k (omega arith) ∙ before k (omega arith))

-- newcomers are of their desk
pub of_newcomers : (d : SharedView) (clerks : List ClerkView) (number : ℕ) → length clerks ≡ number → ((k : ℕ) → k < number → slice_get clerks k ≡ Some (newcomer d k)) → All (λ c. c.desk ≡ d) clerks
of_newcomers d clerks number count all k e inside = ap (λ c. c.desk) (slice_get-is clerks k e (newcomer d k) (all k (omega arith)))
