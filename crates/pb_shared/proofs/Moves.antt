-- What a step of one seat leaves true of the others.
use Rattle.std.proofs.Common.{◌≡◌, ◌≢◌, ◌⊎◌, ℕ, zero, suc, ◌+◌, ◌<◌, ◌==◌, Bool, true, false, List, [], ◌∷◌, ◌++◌, length, set, Option, sym, refl, ap, ◌∙◌, subst, ⊎_elim, inl, inr, arith, append_assoc, eq-eqb, ne_eqb, true≢false}
use mathlib.Core.Option.{none, some, some-injective, some-ne-none}
use mathlib.Core.Logic.{dite}
use mathlib.Core.List.{append-nil}
use native.Mathlib.Decide.{ℕ_discrete}
use lib.ListN.{get_elem?}
use Rattle.std.proofs.lemmas.List.Elements.{filter-append}
use Rattle.atomic_table.proofs.Lists.{at_set, set_here, set_else}
use Rattle.pb_core.specs.Request.{EntryView}
use Rattle.pb_desk.specs.Desk.{DeskView}
use Rattle.pb_shared.specs.Clerk.{Begins, GrowsByOthers, new_sheet}
use Rattle.pb_shared.specs.Inner.Entries.{entries_by}
use Rattle.pb_shared.specs.Rule.{SheetFits, RoleFits}
use Rattle.pb_shared.specs.Inner.Rule.{history}
use Rattle.pb_shared.specs.declared.seat_view.About.{About}
use Rattle.pb_shared.specs.declared.seat_view.Role.{Role}
use Rattle.pb_shared.specs.declared.seat_view.Role.TheVariants.{Stock, Clerk, Guest, Spent}
use Rattle.pb_shared.specs.declared.seat_view.SeatView.{SeatView}
use Rattle.pb_shared.specs.declared.seat_view.Sheet.{Sheet}

module _ {A : Type 0} where
  pub there : (l : List A) (i : ℕ) (a : A) → get_elem? l i ≡ some a → i < length l
  there [] i a e = absurd (some-ne-none a (sym e))
  there (x ∷ xs) zero a e = omega arith
  there (x ∷ xs) (suc i) a e = let h = there xs i a e in omega arith

  -- where an element of a list with one more at its end comes from
  pub at_end : (l : List A) (a b : A) (j : ℕ) → get_elem? (l ++ a ∷ []) j ≡ some b → (get_elem? l j ≡ some b) ⊎ ((j ≡ length l) × (a ≡ b))
  at_end [] a b zero e = inr (refl, some-injective a b e)
  at_end [] a b (suc j) e = absurd (some-ne-none b (sym e))
  at_end (x ∷ xs) a b zero e = inl e
  at_end (x ∷ xs) a b (suc j) e = ⊎_elim (λ t. inl t) (λ t. inr (ap suc t.0, t.1)) (at_end xs a b j e)

pub Begins-all : (journal : List EntryView) → Begins journal journal
Begins-all journal = ([], sym (append-nil journal))

pub Begins-more : (front journal more : List EntryView) → Begins front journal → Begins front (journal ++ more)
Begins-more front journal more b = (b.0 ++ more, ap (λ j. j ++ more) b.1 ∙ append_assoc front b.0 more)

pub Grows-all : (number : ℕ) (journal : List EntryView) → GrowsByOthers number journal journal
Grows-all number journal = ([], sym (append-nil journal), refl)

pub Grows-more : (number : ℕ) (front journal more : List EntryView) → entries_by number more ≡ [] → GrowsByOthers number front journal → GrowsByOthers number front (journal ++ more)
Grows-more number front journal more none_more b =
    (b.0 ++ more, ap (λ j. j ++ more) b.1 ∙ append_assoc front b.0 more, filter-append (λ (y : EntryView). y.clerk == number) b.0 more ∙ (λ i. b.2 i ++ none_more i))

pub history-more : (a : About) (later more : List EntryView) → history a (later ++ more) ≡ history a later ++ more
history-more a later more = sym (append_assoc a.desk.value.journal later more)

-- a word that is 0 or the holder's is nobody else's
pub not_its : (lock number : ℕ) → (lock == number + 1) ≡ false → lock ≢ number + 1
not_its lock number e same = true≢false (sym (eq-eqb lock (number + 1) same) ∙ e)

-- the seat of a clerk who holds the lock
abbrev pub Holds : SeatView → Type 0
Holds v = (v.role ≡ Clerk) × (v.holds ≡ true)

-- a step of one seat, the sheet of another
module _ (a : About) (lock lock' : ℕ) (home home' : mathlib.Core.Option.Option (Option DeskView)) (later later' more : List EntryView) (seat_of : ℕ → ℕ) (grows : later' ≡ later ++ more)
    (mover : ℕ)
    (others : (n : ℕ) → n ≢ mover → (lock ≢ n + 1) × (lock' ≢ n + 1) × (entries_by n more ≡ [])) where
  longer : (front : List EntryView) → Begins front (history a later) → Begins front (history a later')
  longer front b = subst (λ l. Begins front (history a l)) (sym grows) (subst (Begins front) (sym (history-more a later more)) (Begins-more front (history a later) more b))

  pub sheet_moves : (seat : ℕ) (holds : Bool) (x : Sheet) → x.number ≢ mover → SheetFits a lock home (history a later) later seat_of seat holds x → (holds ≡ false) × SheetFits a lock' home' (history a later') later' seat_of seat holds x
  sheet_moves seat holds x other f =
      let o = others x.number other in
      let idle : holds ≡ false = sym f.holding ∙ ne_eqb lock (x.number + 1) o.0 in (
        idle,
        record {
          known = f.known;
          its_seat = f.its_seat;
          begins = subst (λ l. GrowsByOthers x.number x.seen (history a l)) (sym grows) (subst (GrowsByOthers x.number x.seen) (sym (history-more a later more)) (Grows-more x.number x.seen (history a later) more o.2 f.begins));
          mine = ap (entries_by x.number) grows ∙ (filter-append (λ (y : EntryView). y.clerk == x.number) later more ∙ (ap (λ l. entries_by x.number later ++ l) o.2 ∙ (append-nil (entries_by x.number later) ∙ f.mine)));
          holding = ne_eqb lock' (x.number + 1) o.1 ∙ sym idle;
          whole = λ on. absurd (true≢false (sym on ∙ idle));
          found = f.found;
          read = f.read;
        },
      )

  -- what another seat knows stays true
  pub seat_moves : (role : Role) (seat : ℕ) (v : SeatView) → seat_of mover ≢ seat → RoleFits a lock home (history a later) later seat_of role seat v → RoleFits a lock' home' (history a later') later' seat_of role seat v
  seat_moves Stock seat v apart f =
      (f.0, λ n from below. let b = f.1 n from below in (sheet_moves seat false (new_sheet a.desk.value.journal n) (λ same. apart (ap seat_of (sym same) ∙ b.its_seat)) b).1)
  seat_moves Clerk seat v apart f =
      let s = sheet_moves seat v.holds v.sheet (λ same. apart (ap seat_of (sym same) ∙ f.1.its_seat)) f.1 in
      (f.0, s.1, longer v.told f.2, λ home_is. absurd (true≢false (sym (f.3 home_is).0 ∙ s.0)))
  seat_moves Guest seat v apart f =
      (f.0, longer v.sheet.seen f.1, λ k d inside. let x = f.2 k d inside in (sheet_moves seat false _ (λ same. apart (ap seat_of (sym same) ∙ x.its_seat)) x).1)
  seat_moves Spent seat v apart f = tt

-- a clerk gets another seat, the sheet and the seat of whoever stays
module _ (a : About) (lock : ℕ) (home : mathlib.Core.Option.Option (Option DeskView)) (later : List EntryView) (seat_of seat_of' : ℕ → ℕ) where
  pub sheet_stays : (seat seat' : ℕ) (holds : Bool) (x : Sheet) → seat_of' x.number ≡ seat' → SheetFits a lock home (history a later) later seat_of seat holds x → SheetFits a lock home (history a later) later seat_of' seat' holds x
  sheet_stays seat seat' holds x its f = record {
    known = f.known;
    its_seat = its;
    begins = f.begins;
    mine = f.mine;
    holding = f.holding;
    whole = f.whole;
    found = f.found;
    read = f.read;
  }

  pub seat_stays : (role : Role) (seat : ℕ) (v : SeatView) → ((n : ℕ) → seat_of n ≡ seat → seat_of' n ≡ seat) → RoleFits a lock home (history a later) later seat_of role seat v → RoleFits a lock home (history a later) later seat_of' role seat v
  seat_stays Stock seat v same f = (f.0, λ n from below. let b = f.1 n from below in sheet_stays seat seat false (new_sheet a.desk.value.journal n) (same n b.its_seat) b)
  seat_stays Clerk seat v same f = (f.0, sheet_stays seat seat v.holds v.sheet (same v.sheet.number f.1.its_seat) f.1, f.2, f.3)
  seat_stays Guest seat v same f = (f.0, f.1, λ k d inside. let x = f.2 k d inside in sheet_stays seat seat false _ (same _ x.its_seat) x)
  seat_stays Spent seat v same f = tt

-- the views after the step of one seat
module _ (Fits : ℕ → SeatView → Type 0) where
  pub each_of : (views : List SeatView) (id : ℕ) (w : SeatView) → Fits id w → ((j : ℕ) (u : SeatView) → j ≢ id → get_elem? views j ≡ some u → Fits j u) → (j : ℕ) (u : SeatView) → get_elem? (set views id w) j ≡ some u → Fits j u
  each_of views id w own others j u at =
      ⊎_elim (λ (t : (j ≡ id) × (w ≡ u)). subst (λ (p : ℕ × SeatView). Fits p.0 p.1) (λ i. (sym t.0 i, t.1 i)) own) (λ (t : (j ≢ id) × (get_elem? views j ≡ some u)). others j u t.0 t.1) (at_set views id j w u at)

  pub each_and : (views : List SeatView) (w : SeatView) → Fits (length views) w → ((j : ℕ) (u : SeatView) → get_elem? views j ≡ some u → Fits j u) → (j : ℕ) (u : SeatView) → get_elem? (views ++ w ∷ []) j ≡ some u → Fits j u
  each_and views w own others j u at =
      ⊎_elim (λ t. others j u t) (λ (t : (j ≡ length views) × (w ≡ u)). subst (λ (p : ℕ × SeatView). Fits p.0 p.1) (λ i. (sym t.0 i, t.1 i)) own) (at_end views w u j at)

-- some seat has this view after one seat's step, if some seat had it before and the step keeps it
pub stays_there : (P : SeatView → Type 0) (views : List SeatView) (id : ℕ) (v w : SeatView) → get_elem? views id ≡ some v → (P v → P w) → (j : ℕ) → ((u : SeatView) × (get_elem? views j ≡ some u) × P u)
    → (u : SeatView) × (get_elem? (set views id w) j ≡ some u) × P u
stays_there P views id v w at keep j h =
    dite (ℕ_discrete j id)
    (λ same.
    let old : v ≡ h.0 = some-injective v h.0 (sym at ∙ (ap (get_elem? views) (sym same) ∙ h.1)) in (
      w,
      ap (get_elem? (set views id w)) same ∙ set_here views id w (there views id v at),
      keep (subst P (sym old) h.2),
    ))
    (λ other. (h.0, set_else views id j w other ∙ h.1, h.2))
