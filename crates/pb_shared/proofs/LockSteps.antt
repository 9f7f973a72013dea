-- The steps on the words keep the rule: the exchange, the two stores, and the load of the front word.
use Rattle.std.proofs.Common.{◌≡◌, ◌≢◌, ℕ, ◌+◌, ◌<◌, ◌≤◌, ◌==◌, true, false, List, [], ◌∷◌, ◌++◌, length, All, set, Option, Some, sym, refl, ap, ◌∙◌, subst, arith, add-one, zero, suc, eq-eqb, ne_eqb, eqb-true, true≢false, slice_index, length-append, cond}
use mathlib.Core.Option.{none, some, some-injective, some-ne-none}
use mathlib.Core.List.{append-nil}
use prog.Atomic.{either}
use lib.ListN.{get_elem?}
use Rattle.std.proofs.Math.Seq.{drop-append_seam}
use Rattle.std.proofs.lemmas.List.Elements.{All-append, All-cons, All-nil, filter-append}
use Rattle.atomic_table.specs.Table.{State, Act, keeps, takes, gives, stepped, Valid, carried_after, Allows}
use Rattle.atomic_table.proofs.Lists.{exchanged, set_here}
use Rattle.pb_shared.specs.Inner.Desk.{desk_with}
use Rattle.pb_core.specs.Request.{EntryView}
use Rattle.pb_desk.specs.Desk.{DeskView}
use Rattle.pb_desk.specs.Replay.{IsLegal}
use Rattle.pb_shared.specs.Clerk.{Begins, CanHave, GrowsByOthers}
use Rattle.pb_shared.specs.Inner.Entries.{entries_by}
use Rattle.pb_shared.specs.Inner.ClerkFits.{ClerkFits}
use Rattle.pb_shared.specs.Rule.{RoleFits, Runs, DeskRule}
use Rattle.pb_shared.specs.Inner.Rule.{history, Sitter}
use Rattle.pb_shared.specs.Inner.Plays.{CanSee, won, lost, published, freed, has_read, tries_lock, publishes, frees, reads}
use Rattle.pb_shared.specs.declared.seat_view.About.{About}
use Rattle.pb_shared.specs.declared.seat_view.Role.TheVariants.{Clerk}
use Rattle.pb_shared.specs.declared.seat_view.SeatView.{SeatView}
use Rattle.pb_shared.proofs.Moves.{Begins-more, Grows-all, history-more, Holds, not_its, seat_moves, each_of, stays_there, there}

abbrev pub Slot : Type 0
Slot = mathlib.Core.Option.Option (Option DeskView)

abbrev pub S : Type 0
S = Option DeskView

-- a word that the clerk's exchanges can find
abbrev its_word : ℕ → ℕ → ℕ → Type 0
its_word clerks number word = (word ≤ clerks) × (word ≢ number + 1)

-- a state of the table with these words and this in the slot
abbrev running : ℕ → ℕ → Slot → List SeatView → State S SeatView
running lock front home views = record { words = lock ∷ front ∷ []; homes = home ∷ []; views = views }

-- what a step has to give, where the table is so
abbrev Goes : About → ℕ → Sitter → ℕ → (ℕ → ℕ) → (ℕ → Sitter → Type 0) → State S SeatView → Type 0
Goes a id me i f then s = (w : SeatView) × (act : Act S) × Valid s.homes me.1 act × DeskRule a (stepped s i (f (slice_index s.words i)) id me.1 w act) × then (slice_index s.words i) (w, carried_after me.1 act)

-- it is enough to go on from each state that the rule allows
abbrev GoesOn : About → ℕ → Sitter → ℕ → (ℕ → ℕ) → (ℕ → Sitter → Type 0) → Type 0
GoesOn a id me i f then =
    (views : List SeatView) (lock : ℕ) (home : Slot) (later : List EntryView) (seat_of : ℕ → ℕ)
    → Runs a lock home (history a later) later seat_of views → get_elem? views id ≡ some me.0 → Goes a id me i f then (running lock (length (history a later)) home views)

goes_on : (a : About) (slots id : ℕ) (me : Sitter) (i : ℕ) (f : ℕ → ℕ) (then : ℕ → Sitter → Type 0) → GoesOn a id me i f then → Allows (DeskRule a) slots id me i f then
goes_on a slots id me i f then go s r count at small =
    let lock : ℕ = r.0 in let home : Slot = r.1 in let later : List EntryView = r.2 in let seat_of : ℕ → ℕ = r.3 in
    subst (Goes a id me i f then) (λ k. record { words = sym r.4 k; homes = sym r.5 k; views = s.views }) (go s.views lock home later seat_of r.6 at)

-- the clerk at this seat
module _ (a : About) (lock : ℕ) (home : Slot) (later : List EntryView) (seat_of : ℕ → ℕ) (views : List SeatView) (id : ℕ) (v : SeatView) (role : v.role ≡ Clerk)
    (r : Runs a lock home (history a later) later seat_of views) (at : get_elem? views id ≡ some v) where
  pub fits : ClerkFits a lock home (history a later) later seat_of id v
  fits =
      let own : RoleFits a lock home (history a later) later seat_of Clerk id v = subst (λ ρ. RoleFits a lock home (history a later) later seat_of ρ id v) role (r.each id v at) in record {
        about = own.0;
        sheet = own.1;
        told = own.2;
        brought = own.3;
      }

  can_see : CanSee v (history a later)
  can_see = record {
    can_be = subst (λ (z : About). CanHave z.desk.value (history a later)) (sym fits.about) r.can_be;
    begins = fits.sheet.begins;
  }

  -- a step that changes neither the lock nor the slot nor the history
  quiet : (w : SeatView) → w.role ≡ Clerk → (Holds v → Holds w) → ClerkFits a lock home (history a later) later seat_of id w → Runs a lock home (history a later) later seat_of (set views id w)
  quiet w role' keep own = record {
    can_be = r.can_be;
    by_clerks = r.by_clerks;
    holder = λ n e. stays_there Holds views id v w at keep (seat_of n) (r.holder n e);
    free = r.free;
    in_slot = r.in_slot;
    each = each_of (λ j u. RoleFits a lock home (history a later) later seat_of u.role j u) views id w (subst (λ ρ. RoleFits a lock home (history a later) later seat_of ρ id w) (sym role') (own.about, own.sheet, own.told, own.brought)) (λ j u other there. r.each j u there);
  }

  -- a step of the clerk who holds the lock before it or after it
  moves : (lock' : ℕ) (home' : Slot) (later' more : List EntryView) → later' ≡ later ++ more → ((n : ℕ) → n ≢ v.sheet.number → (lock ≢ n + 1) × (lock' ≢ n + 1) × (entries_by n more ≡ []))
      → (w : SeatView) → w.role ≡ Clerk → ClerkFits a lock' home' (history a later') later' seat_of id w
      → CanHave a.desk.value (history a later') → All (λ x. x.clerk < a.clerks) more
      → ((n : ℕ) → lock' ≡ n + 1 → (u : SeatView) × (get_elem? (set views id w) (seat_of n) ≡ some u) × Holds u)
      → (lock' ≡ 0 → home' ≡ some (Some (desk_with a.desk.value (history a later')))) → ((x : Option DeskView) → home' ≡ some x → x ≡ Some (desk_with a.desk.value (history a later')))
      → Runs a lock' home' (history a later') later' seat_of (set views id w)
  moves lock' home' later' more grows others w role' own can' by' holder' free' in_slot' = record {
    can_be = can';
    by_clerks = subst (All (λ (x : EntryView). x.clerk < a.clerks)) (sym grows) (All-append (λ (x : EntryView). x.clerk < a.clerks) later more r.by_clerks by');
    holder = holder';
    free = free';
    in_slot = in_slot';
    each = each_of (λ j u. RoleFits a lock' home' (history a later') later' seat_of u.role j u) views id w (subst (λ ρ. RoleFits a lock' home' (history a later') later' seat_of ρ id w) (sym role') (own.about, own.sheet, own.told, own.brought))
        (λ j u other there. seat_moves a lock lock' home home' later later' more seat_of grows v.sheet.number others u.role j u (λ same. other (sym same ∙ fits.sheet.its_seat)) (r.each j u there));
  }

-- the lock is free, or a clerk's
pub lock_known : (a : About) (lock : ℕ) (home : Slot) (later : List EntryView) (seat_of : ℕ → ℕ) (views : List SeatView) → Runs a lock home (history a later) later seat_of views → lock ≤ a.clerks
lock_known a zero home later seat_of views r = omega arith
lock_known a (suc n) home later seat_of views r =
    let h = r.holder n (sym (add-one n)) in
    let f = (fits a (suc n) home later seat_of views (seat_of n) h.0 h.2.0 r h.1).sheet in
    let its : suc n ≡ h.0.sheet.number + 1 = eqb-true (suc n) (h.0.sheet.number + 1) (f.holding ∙ h.2.1) in
    let known = f.known in
    omega arith

-- numbers up to a list's length are so for a longer one
pub all_read : (seen journal : List EntryView) (words : List ℕ) → Begins seen journal → All (λ word. word ≤ length seen) words → All (λ word. word ≤ length journal) words
all_read seen journal words b all k d inside = let h = all k d inside in let n : length journal ≡ length seen + length b.0 = ap length b.1 ∙ length-append seen b.0 in omega arith

one : {X : Type 0} (P : X → Type 0) (x : X) → P x → All P (x ∷ [])
one P x h = All-cons P x [] h (All-nil P)

-- the exchange
pub locks : (a : About) (slots id : ℕ) (v : SeatView) → v.role ≡ Clerk → v.holds ≡ false
    → Allows (DeskRule a) slots id (v, []) 0 (λ n. either (n == 0) (v.sheet.number + 1) n) (tries_lock (v, []))
locks a slots id v role idle = goes_on a slots id (v, []) 0 (λ n. either (n == 0) (v.sheet.number + 1) n) (tries_lock (v, [])) (λ views lock home later seat_of r at.
    let k : ℕ = v.sheet.number in
    let seen : List EntryView = history a later in
    let own = fits a lock home later seat_of views id v role r at in
    let f = own.sheet in
    exchanged lock 0 (k + 1) (λ x. (w : SeatView) × (act : Act S) × Valid (home ∷ []) [] act × DeskRule a (stepped (running lock (length seen) home views) 0 x id [] w act) × tries_lock (v, []) lock (w, carried_after [] act))
    (λ e. (
      won v seen,
      takes 0 (Some (desk_with v.about.desk.value seen)),
      ap some (r.free e) ∙ ap (λ (z : About). some (some (Some (desk_with z.desk.value seen)))) (sym own.about),
      (
        k + 1,
        none,
        later,
        seat_of,
        refl,
        refl,
        moves a lock home later seat_of views id v role r at (k + 1) none later [] (sym (append-nil later))
            (λ n other. ((λ is. omega arith), (λ is. other (omega arith)), refl))
            (won v seen) role record {
              about = own.about;
              sheet = record {
                known = f.known;
                its_seat = f.its_seat;
                begins = Grows-all k seen;
                mine = f.mine;
                holding = eq-eqb (k + 1) (k + 1) refl;
                whole = λ _. refl;
                found = All-append (its_word a.clerks k) v.sheet.found (0 ∷ []) f.found (one (its_word a.clerks k) 0 (omega arith, λ is. omega arith));
                read = all_read v.sheet.seen seen v.sheet.read (f.begins.0, f.begins.1) f.read;
              };
              told = own.told;
              brought = λ home_is. absurd (true≢false (sym (own.brought home_is).0 ∙ idle));
            }
            r.can_be (All-nil (λ (x : EntryView). x.clerk < a.clerks))
            (λ n is. let same : n ≡ k = omega arith in (
              won v seen,
              ap (get_elem? (set views id (won v seen))) (ap seat_of same ∙ f.its_seat) ∙ set_here views id (won v seen) (there views id v at),
              (role, refl),
            ))
            (λ is. absurd (omega arith)) (λ x is. absurd (some-ne-none x (sym is))),
      ),
      ((λ _. (seen, can_see a lock home later seat_of views id v role r at, refl)), (λ ne. absurd (ne e))),
    ))
    (λ ne. let others = not_its lock k (f.holding ∙ idle) in (
      lost v lock,
      keeps,
      tt,
      (
        lock,
        home,
        later,
        seat_of,
        refl,
        refl,
        quiet a lock home later seat_of views id v role r at (lost v lock) role (λ h. h) record {
          about = own.about;
          sheet = record {
            known = f.known;
            its_seat = f.its_seat;
            begins = f.begins;
            mine = f.mine;
            holding = f.holding;
            whole = f.whole;
            found = All-append (its_word a.clerks k) v.sheet.found (lock ∷ []) f.found (one (its_word a.clerks k) lock (lock_known a lock home later seat_of views r, others));
            read = f.read;
          };
          told = own.told;
          brought = own.brought;
        },
      ),
      ((λ e. absurd (ne e)), (λ _. (subst (λ (z : About). lock ≤ z.clerks) (sym own.about) (lock_known a lock home later seat_of views r), others, refl))),
    )))

-- the load of the front word
pub loads : (a : About) (slots id : ℕ) (me : Sitter) → me.0.role ≡ Clerk → Allows (DeskRule a) slots id me 1 (λ n. n) (reads me)
loads a slots id me role = goes_on a slots id me 1 (λ n. n) (reads me) (λ views lock home later seat_of r at.
    let v : SeatView = me.0 in
    let seen : List EntryView = history a later in
    let own = fits a lock home later seat_of views id v role r at in
    let f = own.sheet in (
      has_read v seen (length seen),
      keeps,
      tt,
      (
        lock,
        home,
        later,
        seat_of,
        refl,
        refl,
        quiet a lock home later seat_of views id v role r at (has_read v seen (length seen)) role (λ h. h) record {
          about = own.about;
          sheet = record {
            known = f.known;
            its_seat = f.its_seat;
            begins = Grows-all v.sheet.number seen;
            mine = f.mine;
            holding = f.holding;
            whole = λ _. refl;
            found = f.found;
            read = All-append (λ word. word ≤ length seen) v.sheet.read (length seen ∷ []) (all_read v.sheet.seen seen v.sheet.read (f.begins.0, f.begins.1) f.read) (one (λ word. word ≤ length seen) (length seen) (omega arith));
          };
          told = own.told;
          brought = own.brought;
        },
      ),
      (seen, can_see a lock home later seat_of views id v role r at, own.told, refl, refl),
    ))

-- the store that frees the lock, with what is in the slot after it
free_from : (a : About) (lock : ℕ) (home home' : Slot) (later : List EntryView) (seat_of : ℕ → ℕ) (views : List SeatView) (id : ℕ) (v : SeatView) → v.role ≡ Clerk → v.holds ≡ true
    → Runs a lock home (history a later) later seat_of views → get_elem? views id ≡ some v → home' ≡ some (Some (desk_with a.desk.value (history a later))) → Runs a 0 home' (history a later) later seat_of (set views id (freed v))
free_from a lock home home' later seat_of views id v role on r at back =
    let k : ℕ = v.sheet.number in
    let own = fits a lock home later seat_of views id v role r at in
    let f = own.sheet in
    let its : lock ≡ k + 1 = eqb-true lock (k + 1) (f.holding ∙ on) in
    moves a lock home later seat_of views id v role r at 0 home' later [] (sym (append-nil later))
    (λ n other. ((λ is. other (omega arith)), (λ is. omega arith), refl))
    (freed v) role record {
      about = own.about;
      sheet = record {
        known = f.known;
        its_seat = f.its_seat;
        begins = f.begins;
        mine = f.mine;
        holding = ne_eqb 0 (k + 1) (λ is. omega arith);
        whole = λ is. absurd (true≢false (sym is));
        found = f.found;
        read = f.read;
      };
      told = own.told;
      brought = λ is. absurd (true≢false (sym is));
    }
    r.can_be (All-nil (λ (x : EntryView). x.clerk < a.clerks))
    (λ n is. absurd (omega arith))
    (λ _. back) (λ x is. some-injective x (Some (desk_with a.desk.value (history a later))) (sym is ∙ back))

-- where the clerk has brought the desk back before
pub frees_home : (a : About) (slots id : ℕ) (v : SeatView) → v.role ≡ Clerk → v.home ≡ true → Allows (DeskRule a) slots id (v, []) 0 (λ _. 0) (λ _. frees (v, []) 0)
frees_home a slots id v role at_home = goes_on a slots id (v, []) 0 (λ _. 0) (λ _. frees (v, []) 0) (λ views lock home later seat_of r at.
    let b = (fits a lock home later seat_of views id v role r at).brought at_home in
    (freed v, keeps, tt, (0, home, later, seat_of, refl, refl, free_from a lock home home later seat_of views id v role b.0 r at b.1), refl))

-- where the desk is brought back now, as it was taken out
pub frees_out : (a : About) (slots id : ℕ) (v : SeatView) → v.role ≡ Clerk → v.holds ≡ true
    → Allows (DeskRule a) slots id (v, (0, Some (desk_with v.about.desk.value v.sheet.seen)) ∷ []) 0 (λ _. 0) (λ _. frees (v, (0, Some (desk_with v.about.desk.value v.sheet.seen)) ∷ []) 0)
frees_out a slots id v role on =
    let me : Sitter = (v, (0, Some (desk_with v.about.desk.value v.sheet.seen)) ∷ []) in
    goes_on a slots id me 0 (λ _. 0) (λ _. frees me 0) (λ views lock home later seat_of r at.
    let own = fits a lock home later seat_of views id v role r at in
    let home' : Slot = some (Some (desk_with v.about.desk.value v.sheet.seen)) in
    let back : home' ≡ some (Some (desk_with a.desk.value (history a later))) = λ i. some (Some (desk_with (own.about i).desk.value (own.sheet.whole on i))) in
    (freed v, gives, tt, (0, home', later, seat_of, refl, refl, free_from a lock home home' later seat_of views id v role on r at back), refl))

-- the store that publishes an entry, which the desk has that is brought back
pub stores : (a : About) (slots id : ℕ) (v : SeatView) (x : EntryView) (entries : ℕ) → v.role ≡ Clerk → v.holds ≡ true
    → x.clerk ≡ v.sheet.number → IsLegal v.about.desk.value.opening (v.sheet.seen ++ x ∷ []) → length (v.sheet.seen ++ x ∷ []) ≤ v.about.desk.value.room → entries ≡ length (v.sheet.seen ++ x ∷ [])
    → Allows (DeskRule a) slots id (v, (0, Some (desk_with v.about.desk.value (v.sheet.seen ++ x ∷ []))) ∷ []) 1 (λ _. entries)
    (λ _. publishes (v, (0, Some (desk_with v.about.desk.value (v.sheet.seen ++ x ∷ []))) ∷ []) entries)
stores a slots id v x entries role on by legal room count =
    let journal : List EntryView = v.sheet.seen ++ x ∷ [] in
    let me : Sitter = (v, (0, Some (desk_with v.about.desk.value journal)) ∷ []) in
    let w : SeatView = published v journal in
    goes_on a slots id me 1 (λ _. entries) (λ _. publishes me entries) (λ views lock home later seat_of r at.
    let k : ℕ = v.sheet.number in
    let own = fits a lock home later seat_of views id v role r at in
    let f = own.sheet in
    let its : lock ≡ k + 1 = eqb-true lock (k + 1) (f.holding ∙ on) in
    let later' : List EntryView = later ++ x ∷ [] in
    let home' : Slot = some (Some (desk_with v.about.desk.value journal)) in
    let grown : history a later' ≡ journal = history-more a later (x ∷ []) ∙ ap (λ j. j ++ x ∷ []) (sym (f.whole on)) in
    let back : home' ≡ some (Some (desk_with a.desk.value (history a later'))) = λ i. some (Some (desk_with (own.about i).desk.value (sym grown i))) in
    let mine : entries_by k (x ∷ []) ≡ x ∷ [] = ap (λ b. cond b (x ∷ []) []) (eq-eqb x.clerk k by) in
    let more : (front : List EntryView) → Begins front (history a later) → Begins front (history a later') = λ front b. subst (Begins front) (sym (history-more a later (x ∷ []))) (Begins-more front (history a later) (x ∷ []) b) in (
      w,
      gives,
      tt,
      (
        lock,
        home',
        later',
        seat_of,
        (λ i. lock ∷ (count ∙ ap length (sym grown)) i ∷ []),
        refl,
        moves a lock home later seat_of views id v role r at lock home' later' (x ∷ []) refl
            (λ n other. ((λ is. other (omega arith)), (λ is. other (omega arith)), ap (λ b. cond b (x ∷ []) []) (ne_eqb x.clerk n (λ is. other (sym is ∙ by)))))
            w role record {
              about = own.about;
              sheet = record {
                known = f.known;
                its_seat = f.its_seat;
                begins = subst (λ j. GrowsByOthers k j (history a later')) grown (Grows-all k (history a later'));
                mine = filter-append (λ (y : EntryView). y.clerk == k) later (x ∷ []) ∙ (λ i. f.mine i ++ (mine ∙ sym (drop-append_seam v.sheet.seen (x ∷ []))) i);
                holding = f.holding;
                whole = λ _. sym grown;
                found = f.found;
                read = all_read v.sheet.seen journal v.sheet.read (x ∷ [], refl) f.read;
              };
              told = more v.told own.told;
              brought = λ _. (on, back);
            }
            (subst (λ (z : About). CanHave z.desk.value (history a later')) own.about (subst (CanHave v.about.desk.value) (sym grown) (legal, room)))
            (one (λ (y : EntryView). y.clerk < a.clerks) x (subst (λ n. n < a.clerks) (sym by) f.known))
            (λ n is. stays_there Holds views id v w at (λ h. h) (seat_of n) (r.holder n is))
            (λ is. absurd (omega arith)) (λ x is. some-injective x (Some (desk_with a.desk.value (history a later'))) (sym is ∙ back)),
      ),
      refl,
    ))
