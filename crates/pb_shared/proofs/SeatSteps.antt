-- Making the table keeps the rule, and so do the splits and joins of seats.
use Rattle.std.proofs.Common.{◌≡◌, ◌≢◌, ℕ, ◌+◌, ◌<◌, ◌≤◌, ◌==◌, Bool, true, false, List, [], ◌∷◌, ◌++◌, length, set, Some, sym, refl, ap, ◌∙◌, subst, arith, eq-eqb, ne_eqb, true≢false, if◌then◌else◌, slice_index_or, slice_index}
use mathlib.Core.Option.{none, some, some-injective, some-ne-none}
use mathlib.Core.Logic.{dite}
use mathlib.Core.List.{append-nil}
use native.Mathlib.Decide.{ℕ_discrete}
use lib.ListN.{get_elem?}
use Rattle.std.proofs.lemmas.List.Elements.{All-cons, All-nil}
use Rattle.atomic_table.specs.Table.{opening, step, Enters, Splits, Joins}
use Rattle.atomic_table.proofs.Lists.{set_again, set_else, at_longer}
use Rattle.pb_shared.specs.Inner.Desk.{desk_with}
use Rattle.pb_core.specs.Request.{EntryView}
use Rattle.pb_desk.specs.Replay.{IsLegal}
use Rattle.pb_shared.specs.Clerk.{CanHave, new_sheet}
use Rattle.pb_shared.specs.Rule.{SheetFits, RoleFits, Runs, DeskRule}
use Rattle.pb_shared.specs.Inner.Rule.{history, seated, stock}
use Rattle.pb_shared.specs.Steps.{StepRule}
use Rattle.pb_shared.specs.Inner.Plays.{visits, dealt_left, dealt_right, note_of, informed, handed, nobody}
use Rattle.pb_shared.specs.declared.seat_view.About.{About}
use Rattle.pb_shared.specs.declared.seat_view.Role.{Role}
use Rattle.pb_shared.specs.declared.seat_view.Role.TheVariants.{Stock, Clerk, Guest, Spent}
use Rattle.pb_shared.specs.declared.seat_view.SeatView.{SeatView}
use Rattle.pb_shared.proofs.Told.{told_visit}
use Rattle.pb_shared.proofs.Moves.{Holds, not_its, sheet_stays, seat_stays, each_of, each_and, stays_there}
use Rattle.pb_shared.proofs.LockSteps.{Slot, fits}

-- whether a role is a clerk's
abbrev is_clerk : Role → Bool
is_clerk Stock = false
is_clerk Clerk = true
is_clerk Guest = false
is_clerk Spent = false

-- who is no clerk does not hold the lock
holds_not : (v : SeatView) → is_clerk v.role ≡ false → ¬ (Holds v)
holds_not v no_clerk h = true≢false (sym (ap is_clerk h.0) ∙ no_clerk)

module _ (a : About) (lock : ℕ) (home : Slot) (later : List EntryView) (seat_of : ℕ → ℕ) where
  -- only the views change, and who holds what
  views_change : (seat_of' : ℕ → ℕ) (views views' : List SeatView) → Runs a lock home (history a later) later seat_of views
      → ((n : ℕ) → lock ≡ n + 1 → (v : SeatView) × (get_elem? views' (seat_of' n) ≡ some v) × Holds v)
      → ((j : ℕ) (v : SeatView) → get_elem? views' j ≡ some v → RoleFits a lock home (history a later) later seat_of' v.role j v) → Runs a lock home (history a later) later seat_of' views'
  views_change seat_of' views views' r holder each = record {
    can_be = r.can_be;
    by_clerks = r.by_clerks;
    holder = holder;
    free = r.free;
    in_slot = r.in_slot;
    each = each;
  }

  -- one seat more, which is no clerk's
  comes : (views : List SeatView) (w : SeatView) → Runs a lock home (history a later) later seat_of views → RoleFits a lock home (history a later) later seat_of w.role (length views) w → Runs a lock home (history a later) later seat_of (views ++ w ∷ [])
  comes views w r own = views_change seat_of views (views ++ w ∷ []) r
      (λ n is. let h = r.holder n is in (h.0, at_longer views (w ∷ []) (seat_of n) h.0 h.1, h.2))
      (each_and (λ j u. RoleFits a lock home (history a later) later seat_of u.role j u) views w own r.each)

-- the table at the start
pub starts : (a : About) → IsLegal a.desk.value.opening a.desk.value.journal → length a.desk.value.journal ≤ a.desk.value.room
    → DeskRule a (opening (0 ∷ length a.desk.value.journal ∷ []) (Some a.desk.value ∷ []) (stock a))
starts a legal room =
    let same : history a [] ≡ a.desk.value.journal = append-nil a.desk.value.journal in
    let home : Slot = some (Some a.desk.value) in
    let seat_of : ℕ → ℕ = λ _. 0 in (
      0,
      home,
      [],
      seat_of,
      (λ i. 0 ∷ length (sym same i) ∷ []),
      refl,
      record {
        can_be = subst (CanHave a.desk.value) (sym same) (legal, room);
        by_clerks = All-nil (λ (x : EntryView). x.clerk < a.clerks);
        holder = λ n is. absurd (omega arith);
        free = λ _. λ i. some (Some (desk_with a.desk.value (sym same i)));
        in_slot = λ x is. some-injective x (Some (desk_with a.desk.value (history a []))) (sym is ∙ (λ i. some (Some (desk_with a.desk.value (sym same i)))));
        each = each_and (λ j u. RoleFits a 0 home (history a []) [] seat_of u.role j u) [] (stock a) (
          refl,
          λ n from below. record {
            known = below;
            its_seat = refl;
            begins = ([], refl, refl);
            mine = refl;
            holding = ne_eqb 0 (n + 1) (λ is. omega arith);
            whole = λ is. absurd (true≢false (sym is));
            found = All-nil (λ word. (word ≤ a.clerks) × (word ≢ n + 1));
            read = All-nil (λ word. word ≤ length a.desk.value.journal);
          },
        ) (λ j u none_there. absurd (some-ne-none u (sym none_there)));
      },
    )

-- a seat to hand the clerks back to
pub comes_to_finish : (a : About) (slots : ℕ) → Enters (DeskRule a) slots 0 (λ n w. StepRule (step slots 0 0 0 none) (stock a).sheet n w.sheet × visits (stock a, []) n (w, []))
comes_to_finish a slots s r count small =
    let w : SeatView = seated Guest a (new_sheet a.desk.value.journal 0) in
    let lock : ℕ = r.0 in let home : Slot = r.1 in let later : List EntryView = r.2 in let seat_of : ℕ → ℕ = r.3 in (
      w,
      (
        lock,
        home,
        later,
        seat_of,
        r.4,
        r.5,
        comes a lock home later seat_of s.views w r.6 (refl, (later, refl), All-nil (SheetFits a lock home (history a later) later seat_of (length s.views) false)),
      ),
      (told_visit a slots (slice_index s.words 0) (w, []) refl, refl),
    )

-- a clerk writes a note
pub writes : (a : About) (id : ℕ) (v : SeatView) → v.role ≡ Clerk → Splits (DeskRule a) id v v (note_of v)
writes a id v role s r at =
    let lock : ℕ = r.0 in let home : Slot = r.1 in let later : List EntryView = r.2 in let seat_of : ℕ → ℕ = r.3 in
    let own = fits a lock home later seat_of s.views id v role r.6 at in
    let w : SeatView = note_of v in
    subst (λ (views : List SeatView). DeskRule a record { words = s.words; homes = s.homes; views = views ++ w ∷ [] }) (sym (set_again s.views id v at)) (
      lock,
      home,
      later,
      seat_of,
      r.4,
      r.5,
      comes a lock home later seat_of s.views w r.6 (own.about, (own.sheet.begins.0, own.sheet.begins.1), All-nil (SheetFits a lock home (history a later) later seat_of (length s.views) false)),
    )

-- what the seat knows that is another's no more
module _ (a : About) (lock : ℕ) (home : Slot) (later : List EntryView) (seat_of seat_of' : ℕ → ℕ) (views : List SeatView) (id other : ℕ) (v w both : SeatView) (r : Runs a lock home (history a later) later seat_of views)
    (at : get_elem? views id ≡ some v) (apart : other ≢ id) (that : get_elem? views other ≡ some w) where
  -- a seat takes in what another knows, which has it no more
  merges : (keep : Holds v → Holds both) → (none_of : ¬ (Holds w)) → ((n : ℕ) → lock ≡ n + 1 → seat_of' n ≡ seat_of n)
      → ((j : ℕ) → j ≢ id → j ≢ other → (n : ℕ) → seat_of n ≡ j → seat_of' n ≡ j)
      → RoleFits a lock home (history a later) later seat_of' both.role id both → Runs a lock home (history a later) later seat_of' (set (set views id both) other nobody)
  merges keep none_of held still own =
      let Fits : ℕ → SeatView → Type 0 = λ j u. RoleFits a lock home (history a later) later seat_of' u.role j u in
      views_change a lock home later seat_of seat_of' views (set (set views id both) other nobody) r
      (λ n is. let h = r.holder n is in
      subst (λ j. (u : SeatView) × (get_elem? (set (set views id both) other nobody) j ≡ some u) × Holds u) (sym (held n is))
      (stays_there Holds (set views id both) other w nobody (set_else views id other both apart ∙ that) (λ no. absurd (none_of no)) (seat_of n)
      (stays_there Holds views id v both at keep (seat_of n) h)))
      (each_of Fits (set views id both) other nobody tt
      (λ j u not_other there_. each_of (λ i x. i ≢ other → Fits i x) views id both (λ _. own)
      (λ i x not_id at_i not_other_i. seat_stays a lock home later seat_of seat_of' x.role i x (still i not_id not_other_i) (r.each i x at_i)) j u there_ not_other))

-- a clerk is told what a note has
pub tells : (a : About) (id other : ℕ) (v w : SeatView) → v.role ≡ Clerk → w.role ≡ Guest → Joins (DeskRule a) id v other w (informed v w) nobody
tells a id other v w role role' s r at apart that =
    let lock : ℕ = r.0 in let home : Slot = r.1 in let later : List EntryView = r.2 in let seat_of : ℕ → ℕ = r.3 in
    let both : SeatView = informed v w in
    let there_ : get_elem? s.views other ≡ some w = sym (set_else s.views id other both apart) ∙ that in
    let own = fits a lock home later seat_of s.views id v role r.6 at in
    let its : RoleFits a lock home (history a later) later seat_of Guest other w = subst (λ ρ. RoleFits a lock home (history a later) later seat_of ρ other w) role' (r.6.each other w there_) in (
      lock,
      home,
      later,
      seat_of,
      r.4,
      r.5,
      merges a lock home later seat_of seat_of s.views id other v w both r.6 at apart there_
          (λ h. h) (holds_not w (ap is_clerk role')) (λ n is. refl) (λ j _ _ n e. e)
          (subst (λ ρ. RoleFits a lock home (history a later) later seat_of ρ id both) (sym role) (own.about, own.sheet, its.1, own.brought)),
    )

-- the numbers' seats, with this seat for one of them
reseated : (ℕ → ℕ) → ℕ → ℕ → ℕ → ℕ
reseated seat_of number seat n = if n == number then seat else seat_of n

reseated-here : (seat_of : ℕ → ℕ) (number seat n : ℕ) → n ≡ number → reseated seat_of number seat n ≡ seat
unfolding reseated
reseated-here seat_of number seat n same = ap (λ b. if b then seat else seat_of n) (eq-eqb n number same)

reseated-else : (seat_of : ℕ → ℕ) (number seat n : ℕ) → n ≢ number → reseated seat_of number seat n ≡ seat_of n
unfolding reseated
reseated-else seat_of number seat n other = ap (λ b. if b then seat else seat_of n) (ne_eqb n number other)

-- the next clerk leaves the stock
pub deals : (a : About) (id : ℕ) (v : SeatView) → v.role ≡ Stock → v.sheet.number < a.clerks → Splits (DeskRule a) id v (dealt_left v) (dealt_right v)
deals a id v role few s r at =
    let lock : ℕ = r.0 in let home : Slot = r.1 in let later : List EntryView = r.2 in let seat_of : ℕ → ℕ = r.3 in
    let k : ℕ = v.sheet.number in
    let left : SeatView = dealt_left v in
    let right : SeatView = dealt_right v in
    let views' : List SeatView = set s.views id left in
    let seat : ℕ = length views' in
    let seat_of' : ℕ → ℕ = reseated seat_of k seat in
    let runs = r.6 in
    let own : RoleFits a lock home (history a later) later seat_of Stock id v = subst (λ ρ. RoleFits a lock home (history a later) later seat_of ρ id v) role (runs.each id v at) in
    let its = own.1 k (omega arith) few in
    let Fits : ℕ → SeatView → Type 0 = λ j u. RoleFits a lock home (history a later) later seat_of' u.role j u in (
      lock,
      home,
      later,
      seat_of',
      r.4,
      r.5,
      views_change a lock home later seat_of seat_of' s.views (views' ++ right ∷ []) runs
          (λ n is.
          let other : n ≢ k = λ same. not_its lock k its.holding (is ∙ ap (λ m. m + 1) same) in
          let h = stays_there Holds s.views id v left at (λ h. absurd (holds_not v (ap is_clerk role) h)) (seat_of n) (runs.holder n is) in
          subst (λ j. (u : SeatView) × (get_elem? (views' ++ right ∷ []) j ≡ some u) × Holds u) (sym (reseated-else seat_of k seat n other))
          (h.0, at_longer views' (right ∷ []) (seat_of n) h.0 h.1, h.2))
          (each_and Fits views' right (
            own.0,
            subst (λ (z : About). SheetFits a lock home (history a later) later seat_of' seat false (new_sheet z.desk.value.journal k)) (sym own.0) (sheet_stays a lock home later seat_of seat_of' id seat false (new_sheet a.desk.value.journal k) (reseated-here seat_of k seat k refl) its),
            (history a later, refl),
            λ is. absurd (true≢false (sym is)),
          ) (each_of Fits s.views id left
          (subst (λ ρ. RoleFits a lock home (history a later) later seat_of' ρ id left) (sym role) (
            own.0,
            λ n from below.
                let other : n ≢ k = λ same. omega arith in
                let b = own.1 n (omega arith) below in
                sheet_stays a lock home later seat_of seat_of' id id false (new_sheet a.desk.value.journal n) (reseated-else seat_of k seat n other ∙ b.its_seat) b,
          ))
          (λ j u not_id there_. seat_stays a lock home later seat_of seat_of' u.role j u
          (λ n e. reseated-else seat_of k seat n (λ same. not_id (sym e ∙ (ap seat_of same ∙ its.its_seat))) ∙ e) (runs.each j u there_)))),
    )

-- a clerk is handed back
pub hands_back : (a : About) (id other : ℕ) (v w : SeatView) → v.role ≡ Guest → w.role ≡ Clerk → w.holds ≡ false → Joins (DeskRule a) id v other w (handed v w) nobody
hands_back a id other v w role role' idle s r at apart that =
    let lock : ℕ = r.0 in let home : Slot = r.1 in let later : List EntryView = r.2 in let seat_of : ℕ → ℕ = r.3 in
    let k : ℕ = w.sheet.number in
    let both : SeatView = handed v w in
    let seat_of' : ℕ → ℕ = reseated seat_of k id in
    let there_ : get_elem? s.views other ≡ some w = sym (set_else s.views id other both apart) ∙ that in
    let own : RoleFits a lock home (history a later) later seat_of Guest id v = subst (λ ρ. RoleFits a lock home (history a later) later seat_of ρ id v) role (r.6.each id v at) in
    let its = (fits a lock home later seat_of s.views other w role' r.6 there_).sheet in (
      lock,
      home,
      later,
      seat_of',
      r.4,
      r.5,
      merges a lock home later seat_of seat_of' s.views id other v w both r.6 at apart there_
          (λ h. absurd (holds_not v (ap is_clerk role) h))
          (λ h. true≢false (sym h.1 ∙ idle))
          (λ n is. reseated-else seat_of k id n (λ same. not_its lock k (its.holding ∙ idle) (is ∙ ap (λ m. m + 1) same)))
          (λ j not_id not_other n e. reseated-else seat_of k id n (λ same. not_other (sym e ∙ (ap seat_of same ∙ its.its_seat))) ∙ e)
          (subst (λ ρ. RoleFits a lock home (history a later) later seat_of' ρ id both) (sym role) (
            own.0,
            own.1,
            All-cons (SheetFits a lock home (history a later) later seat_of' id false) w.sheet v.returned
                (sheet_stays a lock home later seat_of seat_of' other id false w.sheet (reseated-here seat_of k id k refl) (subst (λ b. SheetFits a lock home (history a later) later seat_of other b w.sheet) idle its))
                (λ n d inside. let x = own.2 n d inside in
                let y = slice_index_or v.returned n d in
                sheet_stays a lock home later seat_of seat_of' id id false y (dite (ℕ_discrete y.number k) (λ same. reseated-here seat_of k id y.number same) (λ other_. reseated-else seat_of k id y.number other_ ∙ x.its_seat)) x),
          )),
    )
