-- What each step tells its clerk is what the rule of the steps allows.
use Rattle.std.proofs.Common.{◌≡◌, ℕ, ◌+◌, ◌==◌, Bool, true, false, [], ◌∷◌, ◌++◌, length, length-append, Option, Some, ◌&&◌, sym, refl, ap, ◌∙◌, subst, arith, eq-eqb, ne_eqb, if◌then◌else◌, List}
use mathlib.Core.Option.{none}
use mathlib.Core.Logic.{dite}
use mathlib.Core.List.{append-nil}
use native.Mathlib.Decide.{ℕ_discrete}
use Rattle.atomic_table.specs.Table.{State, Step, step, Allows}
use Rattle.pb_core.specs.Request.{EntryView}
use Rattle.pb_desk.specs.Desk.{DeskView}
use Rattle.pb_shared.specs.Clerk.{Begins, new_sheet}
use Rattle.pb_shared.specs.Inner.Rule.{stock, Sitter}
use Rattle.pb_shared.specs.Steps.{StepRule, is_step_on}
use Rattle.pb_shared.specs.Inner.Plays.{has_read, lost, published, tries_lock, publishes, frees, reads, visits, won}
use Rattle.pb_shared.specs.declared.seat_view.About.{About}
use Rattle.pb_shared.specs.declared.seat_view.SeatView.{SeatView}
use Rattle.pb_shared.specs.declared.seat_view.Sheet.{Sheet}

-- a step that tells this tells also what follows from it
pub also : (holds : State (Option DeskView) SeatView → Type 0) (slots id : ℕ) (me : Sitter) (i : ℕ) (f : ℕ → ℕ) (says more : ℕ → Sitter → Type 0)
    → ((n : ℕ) (m' : Sitter) → says n m' → more n m') → Allows holds slots id me i f says → Allows holds slots id me i f (λ n m'. more n m' × says n m')
also holds slots id me i f says more follows go s r count at small =
    let x = go s r count at small in (x.0, x.1, x.2, x.3, (follows _ _ x.4, x.4))

-- the word, where it is told
abbrev word_if : Bool → ℕ → List ℕ
word_if told word = if told then word ∷ [] else []

-- the rule of a step whose operation is known
told : (s : Step (Option DeskView)) (x x' : Sheet) (word : ℕ) (tries loads : Bool) → is_step_on 0 0 (x.number + 1) s ≡ tries → is_step_on 1 0 0 s ≡ loads
    → Begins x.seen x'.seen → x'.found ≡ x.found ++ word_if tries word → x'.read ≡ x.read ++ word_if loads word → StepRule s x word x'
told s x x' word tries loads t l seen found read = record {
  seen = seen;
  found = found ∙ ap (λ b. x.found ++ word_if b word) (sym t);
  read = read ∙ ap (λ b. x.read ++ word_if b word) (sym l);
}

-- an exchange from 0 to the clerk's number and 1
pub told_lock : (slots word n : ℕ) (m m' : Sitter) → word ≡ m.0.sheet.number + 1 → tries_lock m n m' → StepRule (step slots 0 0 word none) m.0.sheet n m'.0.sheet
told_lock slots word n m m' its t =
    let x : Sheet = m.0.sheet in
    let tries : is_step_on 0 0 (x.number + 1) (step slots 0 0 word none) ≡ true = eq-eqb word (x.number + 1) its in
    dite (ℕ_discrete n 0)
    (λ e.
    let w = t.0 e in
    let is : m'.0.sheet ≡ (won m.0 w.0).sheet = ap (λ (z : Sitter). z.0.sheet) w.2 in
    told (step slots 0 0 word none) x m'.0.sheet n true false tries refl (subst (λ (y : Sheet). Begins x.seen y.seen) (sym is) (w.1.begins.0, w.1.begins.1))
    (ap (λ (y : Sheet). y.found) is ∙ ap (λ k. x.found ++ k ∷ []) (sym e)) (ap (λ (y : Sheet). y.read) is ∙ sym (append-nil x.read)))
    (λ ne.
    let is : m'.0.sheet ≡ (lost m.0 n).sheet = ap (λ (z : Sitter). z.0.sheet) (t.1 ne).2 in
    told (step slots 0 0 word none) x m'.0.sheet n true false tries refl (subst (λ (y : Sheet). Begins x.seen y.seen) (sym is) ([], sym (append-nil x.seen)))
    (ap (λ (y : Sheet). y.found) is) (ap (λ (y : Sheet). y.read) is ∙ sym (append-nil x.read)))

-- a load of the front word
pub told_front : (slots n : ℕ) (m m' : Sitter) → reads m n m' → StepRule (step slots 1 0 0 none) m.0.sheet n m'.0.sheet
told_front slots n m m' r =
    let x : Sheet = m.0.sheet in
    let is : m'.0.sheet ≡ (has_read m.0 r.0 n).sheet = ap (λ (z : Sitter). z.0.sheet) r.4 in
    told (step slots 1 0 0 none) x m'.0.sheet n false true refl refl (subst (λ (y : Sheet). Begins x.seen y.seen) (sym is) (r.1.begins.0, r.1.begins.1))
    (ap (λ (y : Sheet). y.found) is ∙ sym (append-nil x.found)) (ap (λ (y : Sheet). y.read) is)

-- the store of 0 in the lock word
pub told_free : (slots : ℕ) (m m' : Sitter) → frees m 0 m' → StepRule (step slots 0 0 0 none) m.0.sheet 0 m'.0.sheet
told_free slots m m' f =
    let x : Sheet = m.0.sheet in
    let is : m'.0.sheet ≡ x = ap (λ (z : Sitter). z.0.sheet) f in
    told (step slots 0 0 0 none) x m'.0.sheet 0 false false (ne_eqb 0 (x.number + 1) (λ same. omega arith)) refl (subst (λ (y : Sheet). Begins x.seen y.seen) (sym is) ([], sym (append-nil x.seen)))
    (ap (λ (y : Sheet). y.found) is ∙ sym (append-nil x.found)) (ap (λ (y : Sheet). y.read) is ∙ sym (append-nil x.read))

-- the store of the number of entries in the front word, by who has an entry more
pub told_publish : (slots entries : ℕ) (v : SeatView) (x : EntryView) (d : DeskView) (m' : Sitter) → d.journal ≡ v.sheet.seen ++ x ∷ [] → entries ≡ length (v.sheet.seen ++ x ∷ [])
    → publishes (v, (0, Some d) ∷ []) entries m' → StepRule (step slots 1 entries 0 none) v.sheet entries m'.0.sheet
told_publish slots entries v x d m' journal count p =
    let s : Step (Option DeskView) = step slots 1 entries 0 none in
    let is : m'.0.sheet ≡ (published v d.journal).sheet = ap (λ (z : Sitter). z.0.sheet) p in
    let stored : (entries == 0) ≡ false = ne_eqb entries 0 (λ same. let n = length-append v.sheet.seen (x ∷ []) in omega arith) in
    told s v.sheet m'.0.sheet entries false false refl (ap (λ b. b && true) stored) (subst (λ (y : Sheet). Begins v.sheet.seen y.seen) (sym is) (x ∷ [], journal))
    (ap (λ (y : Sheet). y.found) is ∙ sym (append-nil v.sheet.found)) (ap (λ (y : Sheet). y.read) is ∙ sym (append-nil v.sheet.read))

-- a load that makes a seat
pub told_visit : (a : About) (slots n : ℕ) (m' : Sitter) → visits (stock a, []) n m' → StepRule (step slots 0 0 0 none) (stock a).sheet n m'.0.sheet
told_visit a slots n m' v =
    let is : m'.0.sheet ≡ new_sheet a.desk.value.journal 0 = ap (λ (z : SeatView). z.sheet) v in
    told (step slots 0 0 0 none) (stock a).sheet m'.0.sheet n false false refl refl (subst (λ (y : Sheet). Begins a.desk.value.journal y.seen) (sym is) ([], sym (append-nil a.desk.value.journal)))
    (ap (λ (y : Sheet). y.found) is) (ap (λ (y : Sheet). y.read) is)
