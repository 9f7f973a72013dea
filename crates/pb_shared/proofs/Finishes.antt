-- What the last state of the table says of the desk that it gives back.
use Rattle.std.proofs.Common.{◌≡◌, ◌≢◌, ℕ, zero, suc, ◌+◌, List, [], ◌∷◌, ◌++◌, length, map, All, Option, Some, None, sym, refl, ap, ◌∙◌, subst, arith}
use mathlib.Core.Option.{some, some-injective}
use lib.ListN.{get_elem?}
use Rattle.std.proofs.Math.ListN.{get_or-map}
use Rattle.atomic_table.specs.Seated.{TableId}
use Rattle.atomic_table.specs.Table.{State, Final, Seen}
use Rattle.pb_shared.specs.Inner.Desk.{desk_with}
use Rattle.pb_core.specs.Request.{EntryView}
use Rattle.pb_desk.specs.Desk.{DeskView}
use Rattle.pb_shared.specs.Clerk.{SharedView, ClerkView, Begins, IsAnothers, IsMergeOf}
use Rattle.pb_shared.specs.Inner.AllClerks.{AreAll}
use Rattle.pb_shared.specs.Inner.Entries.{entries_by}
use Rattle.pb_shared.specs.Rule.{RoleFits, Runs, DeskRule}
use Rattle.pb_shared.specs.Inner.Rule.{history}
use Rattle.pb_shared.specs.Inner.SharedView.{shared_view}
use Rattle.pb_shared.specs.Inner.Seats.{newcomer}
use Rattle.pb_shared.specs.declared.seat_view.About.{About}
use Rattle.pb_shared.specs.declared.seat_view.Role.TheVariants.{Guest}
use Rattle.pb_shared.specs.declared.seat_view.SeatView.{SeatView}
use Rattle.pb_shared.specs.declared.seat_view.Sheet.{Sheet}
use Rattle.pb_shared.proofs.LockSteps.{Slot, S, lock_known}
use Rattle.pb_shared.proofs.Moves.{not_its}

pub all_mid : {X : Type 0} (P : X → Type 0) (xs : List X) (x : X) (ys : List X) → All P (xs ++ x ∷ ys) → P x
all_mid P [] x ys h = h 0 x (omega arith)
all_mid P (y ∷ xs) x ys h = all_mid P xs x ys (λ k d inside. h (suc k) d (omega arith))

length_map : {X : Type 0} (f : ClerkView → X) (xs : List ClerkView) → length (map f xs) ≡ length xs
length_map f [] = refl
length_map f (x ∷ xs) = ap suc (length_map f xs)

-- the sheets of all clerks that were handed back are true
of_clerks : (P : Sheet → Type 0) (clerks : List ClerkView) (sheets : List Sheet) → sheets ≡ map (λ (c : ClerkView). c.sheet) clerks → All P sheets → All (λ c. P c.sheet) clerks
of_clerks P clerks sheets same all k d inside =
    let n = length_map (λ (c : ClerkView). c.sheet) clerks in subst P (get_or-map (λ (c : ClerkView). c.sheet) clerks k d) (subst (All P) same all k d.sheet (omega arith))

-- the last state, as it was when the table was closed
pub record IsLast (a : About) (word : ℕ) (slot : Option DeskView) (id : ℕ) (v : SeatView) : Type 0 where
  pub home : Slot
  pub later : List EntryView
  pub seat_of : ℕ → ℕ
  pub views : List SeatView
  pub runs : Runs a word home (history a later) later seat_of views
  pub guest : RoleFits a word home (history a later) later seat_of Guest id v
  pub back : word ≡ 0 → slot ≡ Some (desk_with a.desk.value (history a later))

pub ends : (a : About) (id : ℕ) (v : SeatView) (words : List ℕ) (slots : List S) (word : ℕ) (slot : Option DeskView) → v.role ≡ Guest → Final (Seen (DeskRule a) id v) words slots
    → get_elem? words 0 ≡ some word → get_elem? slots 0 ≡ some slot → IsLast a word slot id v
ends a id v words slots word slot role f found took =
    let s : State S SeatView = f.0 in
    let rule : DeskRule a s = f.1.0 in
    let lock : ℕ = rule.0 in let home : Slot = rule.1 in let later : List EntryView = rule.2 in let seat_of : ℕ → ℕ = rule.3 in
    let same : lock ≡ word = some-injective lock word (ap (λ (l : List ℕ). get_elem? l 0) (sym rule.4 ∙ f.2) ∙ found) in
    let runs : Runs a word home (history a later) later seat_of s.views = subst (λ n. Runs a n home (history a later) later seat_of s.views) same rule.6 in record {
      home = home;
      later = later;
      seat_of = seat_of;
      views = s.views;
      runs = runs;
      guest = subst (λ ρ. RoleFits a word home (history a later) later seat_of ρ id v) role (runs.each id v f.1.1);
      back = λ free.
          let d : DeskView = desk_with a.desk.value (history a later) in
          let at_home : get_elem? s.homes 0 ≡ some (some (Some d)) = ap (λ (h : List Slot). get_elem? h 0) rule.5 ∙ ap some (runs.free free) in
          some-injective slot (Some d) (sym took ∙ f.4 0 (Some d) at_home);
    }

abbrev desk_in : DeskView → Option DeskView → DeskView
desk_in e (Some x) = x
desk_in e None = e

some_inside : (x y : DeskView) → Some x ≡ Some y → x ≡ y
some_inside x y e = ap (desk_in x) e

-- the desk comes back with the merge of the clerks' entries as its journal
pub merges : (a : About) (tid : TableId) (id : ℕ) (v : SeatView) (d : SharedView) (clerks : List ClerkView) (word : ℕ) (slot : Option DeskView) (desk : DeskView) → IsLast a word slot id v
    → shared_view tid a ≡ d → v.returned ≡ map (λ (c : ClerkView). c.sheet) clerks → word ≡ 0 → slot ≡ Some desk → (desk ≡ desk_with d.start desk.journal) × IsMergeOf d clerks desk.journal
merges a tid id v d clerks word slot desk last view same free is =
    let runs = last.runs in
    let whole : List EntryView = history a last.later in
    let desk_is : desk_with a.desk.value whole ≡ desk = some_inside (desk_with a.desk.value whole) desk (sym (last.back free) ∙ is) in
    subst (λ (e : DeskView). (e ≡ desk_with d.start e.journal) × IsMergeOf d clerks e.journal) desk_is
    (subst (λ (e : SharedView). (desk_with a.desk.value whole ≡ desk_with e.start whole) × IsMergeOf e clerks whole) view (
      refl,
      record {
        later = last.later;
        journal_is = refl;
        can_be = runs.can_be;
        agrees = of_clerks (λ (x : Sheet). Begins x.seen whole × (entries_by x.number last.later ≡ x.mine)) clerks v.returned same
            (λ k e inside. let f = last.guest.2 k e inside in ((f.begins.0, f.begins.1), f.mine));
        by_clerks = runs.by_clerks;
      },
    ))

-- the lock is held for a clerk who was not handed back
pub is_held : (a : About) (tid : TableId) (id : ℕ) (v : SeatView) (d : SharedView) (clerks : List ClerkView) (word : ℕ) (slot : Option DeskView) → IsLast a word slot id v
    → shared_view tid a ≡ d → v.returned ≡ map (λ (c : ClerkView). c.sheet) clerks → word ≢ 0 → IsAnothers d (map (λ (c : ClerkView). c.sheet) clerks) word
is_held a tid id v d clerks zero slot last view same held = absurd (held refl)
is_held a tid id v d clerks (suc holder) slot last view same held =
    subst (λ (e : SharedView). IsAnothers e (map (λ (c : ClerkView). c.sheet) clerks) (suc holder)) view (
      omega arith,
      (let known = lock_known a (suc holder) last.home last.later last.seat_of last.views last.runs in omega arith),
      subst (All (λ (x : Sheet). suc holder ≢ x.number + 1)) same (λ k e inside. let f = last.guest.2 k e inside in not_its (suc holder) _ f.holding),
    )

-- where all clerks were handed back, nobody holds the lock
pub not_held : (d : SharedView) (clerks : List ClerkView) (word : ℕ) → AreAll d clerks → IsAnothers d (map (λ (c : ClerkView). c.sheet) clerks) word → ⊥
not_held d clerks zero all h = let some = h.0 in omega arith
not_held d clerks (suc holder) all h =
    let at = all holder (let few = h.1 in omega arith) in
    let number : ClerkView → ℕ = λ c. c.sheet.number in
    let sheet : ClerkView → Sheet = λ c. c.sheet in
    let c = newcomer d holder in
    let n = length_map number clerks in
    let m = length_map sheet clerks in
    let inside = at.1 in
    let its = ap (λ (x : Sheet). x.number) (get_or-map sheet clerks at.0 c) ∙ (sym (get_or-map number clerks at.0 c) ∙ at.2) in
    h.2 at.0 c.sheet (omega arith) (omega (arith, its))

pub emptied : {X : Type 0} (items taken all : List X) → length items ≡ 0 → items ++ taken ≡ all → taken ≡ all
emptied [] taken all none_left e = e
emptied (x ∷ xs) taken all none_left e = absurd (omega arith)
