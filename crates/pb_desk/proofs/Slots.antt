-- Ballots in slots.
use Rattle.std.proofs.Common.{◌≡◌, ◌≢◌, ℕ, zero, suc, ◌+◌, ◌-◌, ◌<◌, ◌≤◌, ◌⊎◌, if◌then◌else◌, inl, inr, Bool, true, false, cond, List, [], ◌∷◌, ◌++◌, length, get_or, slice_get, slice_set, drop, Option, Some, None, is_some, refl, sym, ap, subst, ◌∙◌, true≢false, add-one, arith, length-append}
use Rattle.std.specs.Bool.{⊤}
use Rattle.std.specs.FinMap as map
use Rattle.std.specs.List.{cons_option}
use Rattle.std.specs.Map.{lookup, remove_entry, set_value}
use Rattle.std.specs.Option.{option_map}
use Rattle.std.specs.Str.{bytes_eq}
use Rattle.std.proofs.lemmas.Bool.Decides.{eqb_tells}
use Rattle.std.proofs.lemmas.List.{drop_all, length-set}
use Rattle.std.proofs.lemmas.List.Elements.{filter_map-append}
use Rattle.std.proofs.lemmas.Map.{NonePasses, lookup-none}
use Rattle.std.proofs.lemmas.Option.{none-some, same_Some, slice_get_read, slice_get_within}
use Rattle.std.proofs.lemmas.Slice.Eq.{bytes_eq-Decides}
use Rattle.pb_ids.specs.Inner.Places.{Places, get_inserted}
use Rattle.pb_desk.specs.declared.source.Source.{Source}
use Rattle.pb_desk.specs.Inner.Slots.{filed, IsListing}
use Rattle.pb_desk.proofs.Ballots.{set_value-absent}
use Rattle.pb_desk.proofs.Places.{get-drop, get-push_cases, get-set_here, get-set_other}

-- the ballots before that in a slot and after it, under a test that none before it passes
record Parted (test : List ℕ → Bool) (slots : List (Option (List ℕ × Source))) (s : ℕ) (b : List ℕ × Source) : Type 0 where
  front : List (List ℕ × Source)
  back : List (List ℕ × Source)
  other : NonePasses test front
  is : filed slots ≡ front ++ b ∷ back
  set : (now : Option (List ℕ × Source)) → filed (slice_set slots s now) ≡ front ++ cons_option now back

parted : (test : List ℕ → Bool) (slots : List (Option (List ℕ × Source))) (s : ℕ) (b : List ℕ × Source) → slice_get slots s ≡ Some (Some b) →
    ((t : ℕ) (p : List ℕ × Source) → t ≢ s → slice_get slots t ≡ Some (Some p) → test p.0 ≡ false) → Parted test slots s b
parted test [] s b at fails = absurd (none-some (Some b) at)
parted test (None ∷ slots) zero b at fails = absurd (none-some b (same_Some None (Some b) at))
parted test (Some p ∷ slots) zero b at fails =
    record { front = []; back = filed slots; other = tt; is = ap (λ q. q ∷ filed slots) (same_Some p b (same_Some (Some p) (Some b) at)); set = λ now. refl }
parted test (None ∷ slots) (suc s) b at fails =
    let rest = parted test slots s b at (λ t p apart. fails (suc t) p (omega (arith, apart))) in
    record { front = rest.front; back = rest.back; other = rest.other; is = rest.is; set = rest.set }
parted test (Some p ∷ slots) (suc s) b at fails =
    let rest = parted test slots s b at (λ t q apart. fails (suc t) q (omega (arith, apart))) in
    record {
      front = p ∷ rest.front;
      back = rest.back;
      other = (fails zero p (omega arith) refl, rest.other);
      is = ap (λ ballots. p ∷ ballots) rest.is;
      set = λ now. ap (λ ballots. p ∷ ballots) (rest.set now);
    }

lookup_parted : (test : List ℕ → Bool) (front back : List (List ℕ × Source)) (b : List ℕ × Source) → NonePasses test front → test b.0 ≡ true → lookup test (front ++ b ∷ back) ≡ Some b.1
lookup_parted test [] back b other passes = ap (λ t. cond t (Some b.1) (lookup test back)) passes
lookup_parted test (p ∷ front) back b other passes =
    ap (λ t. cond t (Some p.1) (lookup test (front ++ b ∷ back))) other.0 ∙ lookup_parted test front back b other.1 passes

remove_parted : (test : List ℕ → Bool) (front back : List (List ℕ × Source)) (b : List ℕ × Source) → NonePasses test front → test b.0 ≡ true → remove_entry test (front ++ b ∷ back) ≡ front ++ back
remove_parted test [] back b other passes = ap (λ t. cond t back (b ∷ remove_entry test back)) passes
remove_parted test (p ∷ front) back b other passes =
    ap (λ t. cond t (front ++ b ∷ back) (p ∷ remove_entry test (front ++ b ∷ back))) other.0 ∙ ap (λ rest. p ∷ rest) (remove_parted test front back b other.1 passes)

set_parted : (test : List ℕ → Bool) (front back : List (List ℕ × Source)) (b : List ℕ × Source) (w : Source) → NonePasses test front → test b.0 ≡ true →
    set_value test (front ++ b ∷ back) w ≡ front ++ (b.0, w) ∷ back
set_parted test [] back b w other passes = ap (λ t. cond t ((b.0, w) ∷ back) (b ∷ set_value test back w)) passes
set_parted test (p ∷ front) back b w other passes =
    ap (λ t. cond t ((p.0, w) ∷ front ++ b ∷ back) (p ∷ set_value test (front ++ b ∷ back) w)) other.0 ∙ ap (λ rest. p ∷ rest) (set_parted test front back b w other.1 passes)

-- where no ballot passes a test
absent : (test : List ℕ → Bool) (slots : List (Option (List ℕ × Source))) →
    ((t : ℕ) (p : List ℕ × Source) → slice_get slots t ≡ Some (Some p) → test p.0 ≡ false) → NonePasses test (filed slots)
absent test [] fails = tt
absent test (None ∷ slots) fails = absent test slots (λ t. fails (suc t))
absent test (Some p ∷ slots) fails = (fails zero p refl, absent test slots (λ t. fails (suc t)))

remove_absent : (test : List ℕ → Bool) (es : List (List ℕ × Source)) → NonePasses test es → remove_entry test es ≡ es
remove_absent test [] none = refl
remove_absent test (e ∷ es) none = ap (λ t. cond t es (e ∷ remove_entry test es)) none.0 ∙ ap (λ rest. e ∷ rest) (remove_absent test es none.1)

-- an id is another, or it is not
fails_other : (id other : List ℕ) → id ≢ other → bytes_eq id other ≡ false
fails_other id other differ = by (bytes_eq id other) refl
  where
    by : (t : Bool) → bytes_eq id other ≡ t → t ≡ false
    by false says = refl
    by true says = absurd (differ ((bytes_eq-Decides id other).0 says))

same_or_other : (id other : List ℕ) → (id ≡ other) ⊎ (id ≢ other)
same_or_other id other = by (bytes_eq id other) refl
  where
    by : (t : Bool) → bytes_eq id other ≡ t → (id ≡ other) ⊎ (id ≢ other)
    by true says = inl ((bytes_eq-Decides id other).0 says)
    by false says = inr (λ same. true≢false (sym ((bytes_eq-Decides id other).1 same) ∙ says))

pub filed-push : (slots : List (Option (List ℕ × Source))) (b : List ℕ × Source) → filed (slots ++ Some b ∷ []) ≡ filed slots ++ b ∷ []
filed-push slots b = filter_map-append (λ (slot : Option (List ℕ × Source)). slot) slots (Some b ∷ [])

pub filed-drop : (slots : List (Option (List ℕ × Source))) (k : ℕ) (slot : Option (List ℕ × Source)) → slice_get slots k ≡ Some slot →
    filed (drop k slots) ≡ cons_option slot (filed (drop (suc k) slots))
filed-drop [] k slot at = absurd (none-some slot at)
filed-drop (o ∷ slots) zero slot at = ap (λ here. cons_option here (filed slots)) (same_Some o slot at)
filed-drop (o ∷ slots) (suc k) slot at = filed-drop slots k slot at

pub length-filed : (slots : List (Option (List ℕ × Source))) → length (filed slots) < length slots + 1
length-filed [] = omega arith
length-filed (None ∷ slots) = let rest = length-filed slots in omega (arith, rest)
length-filed (Some b ∷ slots) = let rest = length-filed slots in omega (arith, rest)

-- before any ballot is cast
pub IsListing-none : (slot_of : List ℕ → Option ℕ) → ((id : List ℕ) → slot_of id ≡ None) → IsListing slot_of [] 0
IsListing-none slot_of none = record {
  there = λ s b at. absurd (none-some (Some b) at);
  own = λ id s b is at. absurd (none-some s (sym (none id) ∙ is));
  within = λ id s is. absurd (none-some s (sym (none id) ∙ is));
  count = refl;
}

module _ (slot_of : List ℕ → Option ℕ) (slots : List (Option (List ℕ × Source))) (count : ℕ) (is : IsListing slot_of slots count) (voter : List ℕ) where
  -- the voter's ballot stands in no slot but the voter's
  others_fail : (s t : ℕ) (p : List ℕ × Source) → slot_of voter ≡ Some s → t ≢ s → slice_get slots t ≡ Some (Some p) → bytes_eq voter p.0 ≡ false
  others_fail s t p known apart at = fails_other voter p.0 (λ same. apart (same_Some t s (sym (is.there t p at) ∙ ap slot_of (sym same) ∙ known)))

  -- a voter with no slot has no ballot, and none has one whose slot is a gap
  absent_unknown : slot_of voter ≡ None → NonePasses (bytes_eq voter) (filed slots)
  absent_unknown unknown = absent (bytes_eq voter) slots (λ t p at. fails_other voter p.0 (λ same. none-some t (sym unknown ∙ ap slot_of same ∙ is.there t p at)))

  absent_gap : (s : ℕ) → slot_of voter ≡ Some s → slice_get slots s ≡ Some None → NonePasses (bytes_eq voter) (filed slots)
  absent_gap s known gap =
      absent (bytes_eq voter) slots (λ t p at.
      fails_other voter p.0 (λ same.
      let here : t ≡ s = same_Some t s (sym (is.there t p at) ∙ ap slot_of (sym same) ∙ known) in
      none-some p (same_Some None (Some p) (sym gap ∙ ap (slice_get slots) (sym here) ∙ at))))

  pub get_unknown : slot_of voter ≡ None → None ≡ lookup (bytes_eq voter) (filed slots)
  get_unknown unknown = sym (lookup-none (bytes_eq voter) (filed slots) (absent_unknown unknown))

  get_gap : (s : ℕ) → slot_of voter ≡ Some s → slice_get slots s ≡ Some None → None ≡ lookup (bytes_eq voter) (filed slots)
  get_gap s known gap = sym (lookup-none (bytes_eq voter) (filed slots) (absent_gap s known gap))

  pub remove_unknown : slot_of voter ≡ None → filed slots ≡ remove_entry (bytes_eq voter) (filed slots)
  remove_unknown unknown = sym (remove_absent (bytes_eq voter) (filed slots) (absent_unknown unknown))

  remove_gap : (s : ℕ) → slot_of voter ≡ Some s → slice_get slots s ≡ Some None → filed slots ≡ remove_entry (bytes_eq voter) (filed slots)
  remove_gap s known gap = sym (remove_absent (bytes_eq voter) (filed slots) (absent_gap s known gap))

  pub replace_unknown : (w : Source) → slot_of voter ≡ None → filed slots ≡ set_value (bytes_eq voter) (filed slots) w
  replace_unknown w unknown = sym (set_value-absent (bytes_eq voter) (filed slots) w (sym (get_unknown unknown)))

  replace_gap : (w : Source) (s : ℕ) → slot_of voter ≡ Some s → slice_get slots s ≡ Some None → filed slots ≡ set_value (bytes_eq voter) (filed slots) w
  replace_gap w s known gap = sym (set_value-absent (bytes_eq voter) (filed slots) w (sym (get_gap s known gap)))

  -- a voter whose ballot stands in this slot
  module _ (s : ℕ) (b : List ℕ × Source) (known : slot_of voter ≡ Some s) (at : slice_get slots s ≡ Some (Some b)) where
    passes : bytes_eq voter b.0 ≡ true
    passes = (bytes_eq-Decides voter b.0).1 (sym (is.own voter s b known at))

    here : Parted (bytes_eq voter) slots s b
    here = parted (bytes_eq voter) slots s b at (λ t p apart at_t. others_fail s t p known apart at_t)

    get_filled : Some b.1 ≡ lookup (bytes_eq voter) (filed slots)
    get_filled = sym (ap (lookup (bytes_eq voter)) here.is ∙ lookup_parted (bytes_eq voter) here.front here.back b here.other passes)

    remove_filled : filed (slice_set slots s None) ≡ remove_entry (bytes_eq voter) (filed slots)
    remove_filled = here.set None ∙ sym (ap (remove_entry (bytes_eq voter)) here.is ∙ remove_parted (bytes_eq voter) here.front here.back b here.other passes)

    replace_filled : (w : Source) → filed (slice_set slots s (Some (b.0, w))) ≡ set_value (bytes_eq voter) (filed slots) w
    replace_filled w =
        here.set (Some (b.0, w)) ∙ sym (ap (λ ballots. set_value (bytes_eq voter) ballots w) here.is ∙ set_parted (bytes_eq voter) here.front here.back b w here.other passes)

    -- how many there are
    some_filled : zero < count
    some_filled = let long = ap length here.is in let counted = is.count in omega (arith, long, counted, length-append here.front (b ∷ here.back))

    -- the slot gets another ballot of the voter, or becomes a gap
    changed : (now : Option (List ℕ × Source)) (n : ℕ) → ((p : List ℕ × Source) → now ≡ Some p → p.0 ≡ b.0) → length (filed (slice_set slots s now)) ≡ n →
        IsListing slot_of (slice_set slots s now) n
    changed now n keeps counted =
        let written : slice_get (slice_set slots s now) s ≡ Some now = get-set_here slots s now (Some b) at in
        record {
          there = λ t p at_t. elim (eqb_tells t s) [
            | inl same ↦
                let is_now : now ≡ Some p = same_Some now (Some p) (sym written ∙ ap (slice_get (slice_set slots s now)) (sym same.1) ∙ at_t) in
                ap slot_of (keeps p is_now) ∙ is.there s b at ∙ ap Some (sym same.1)
            | inr apart ↦ is.there t p (sym (get-set_other slots s t now apart.1) ∙ at_t)
          ];
          own = λ id t p known_t at_t. elim (eqb_tells t s) [
            | inl same ↦
                let is_now : now ≡ Some p = same_Some now (Some p) (sym written ∙ ap (slice_get (slice_set slots s now)) (sym same.1) ∙ at_t) in
                keeps p is_now ∙ is.own id s b (known_t ∙ ap Some same.1) at
            | inr apart ↦ is.own id t p known_t (sym (get-set_other slots s t now apart.1) ∙ at_t)
          ];
          within = λ id t known_t. let below = is.within id t known_t in omega (arith, below, length-set slots s now);
          count = counted;
        }

    IsListing-replaced : (w : Source) → IsListing slot_of (slice_set slots s (Some (b.0, w))) count
    IsListing-replaced w =
        changed (Some (b.0, w)) count (λ p is_now. ap (λ (q : List ℕ × Source). q.0) (sym (same_Some (b.0, w) p is_now)))
        (let long = ap length here.is in let now = ap length (here.set (Some (b.0, w))) in let counted = is.count in
        omega (arith, long, now, counted, length-append here.front (b ∷ here.back), length-append here.front ((b.0, w) ∷ here.back)))

    IsListing-removed : IsListing slot_of (slice_set slots s None) (count - 1)
    IsListing-removed =
        changed None (count - 1) (λ p is_now. absurd (none-some p is_now))
        (let long = ap length here.is in let now = ap length (here.set None) in let counted = is.count in
        omega (arith, long, now, counted, length-append here.front (b ∷ here.back), length-append here.front here.back))

  -- a ballot of a voter who has none, in a slot of its own
  module _ (slot_now : List ℕ → Option ℕ) (n : ℕ) (source : Source) (given : (id : List ℕ) → slot_now id ≡ (if bytes_eq voter id then Some n else slot_of id))
      (last : n ≡ length slots) (new : lookup (bytes_eq voter) (filed slots) ≡ None) where
    given_own : (id : List ℕ) → voter ≡ id → slot_now id ≡ Some n
    given_own id same = given id ∙ ap (λ t. cond t (Some n) (slot_of id)) ((bytes_eq-Decides voter id).1 same)

    given_other : (id : List ℕ) → voter ≢ id → slot_now id ≡ slot_of id
    given_other id differ = given id ∙ ap (λ t. cond t (Some n) (slot_of id)) (fails_other voter id differ)

    not_filed : (t : ℕ) (p : List ℕ × Source) → slice_get slots t ≡ Some (Some p) → voter ≢ p.0
    not_filed t p at same = none-some p.1 (sym new ∙ sym (get_filled t p (ap slot_of same ∙ is.there t p at) at))

    there_now : (t : ℕ) (p : List ℕ × Source) → slice_get (slots ++ Some (voter, source) ∷ []) t ≡ Some (Some p) → slot_now p.0 ≡ Some t
    there_now t p at = elim (get-push_cases slots (Some (voter, source)) t (Some p) at) [
      | inl old ↦ given_other p.0 (not_filed t p old) ∙ is.there t p old
      | inr pushed ↦ given_own p.0 (ap (λ (q : List ℕ × Source). q.0) (same_Some (voter, source) p pushed.1)) ∙ ap Some (last ∙ sym pushed.0)
    ]

    own_now : (id : List ℕ) (t : ℕ) (p : List ℕ × Source) → slot_now id ≡ Some t → slice_get (slots ++ Some (voter, source) ∷ []) t ≡ Some (Some p) → p.0 ≡ id
    own_now id t p known at = elim (get-push_cases slots (Some (voter, source)) t (Some p) at) [
      | inl old ↦ elim (same_or_other voter id) [
        | inl same ↦ let below = slice_get_within slots t (Some p) old in let is_last = same_Some n t (sym (given_own id same) ∙ known) in absurd (omega (arith, below, is_last, last))
        | inr differ ↦ is.own id t p (sym (given_other id differ) ∙ known) old
      ]
      | inr pushed ↦ elim (same_or_other voter id) [
        | inl same ↦ ap (λ (q : List ℕ × Source). q.0) (sym (same_Some (voter, source) p pushed.1)) ∙ same
        | inr differ ↦ let below = is.within id t (sym (given_other id differ) ∙ known) in let is_last = pushed.0 in absurd (omega (arith, below, is_last))
      ]
    ]

    within_now : (id : List ℕ) (t : ℕ) → slot_now id ≡ Some t → t < length (slots ++ Some (voter, source) ∷ [])
    within_now id t known = elim (same_or_other voter id) [
      | inl same ↦ let is_last = same_Some n t (sym (given_own id same) ∙ known) in omega (arith, is_last, last, length-append slots (Some (voter, source) ∷ []))
      | inr differ ↦ let below = is.within id t (sym (given_other id differ) ∙ known) in omega (arith, below, length-append slots (Some (voter, source) ∷ []))
    ]

    pub IsListing-push : IsListing slot_now (slots ++ Some (voter, source) ∷ []) (count + 1)
    IsListing-push = record {
      there = there_now;
      own = own_now;
      within = within_now;
      count = let long = ap length (filed-push slots (voter, source)) in let counted = is.count in omega (arith, long, counted, length-append (filed slots) ((voter, source) ∷ []));
    }

-- what a call finds in the voter's slot
set_same : {X : Type 0} (xs : List X) (k : ℕ) (x : X) → slice_get xs k ≡ Some x → slice_set xs k x ≡ xs
set_same [] k x at = refl
set_same (y ∷ ys) zero x at = ap (λ z. z ∷ ys) (sym (same_Some y x at))
set_same (y ∷ ys) (suc k) x at = ap (λ zs. y ∷ zs) (set_same ys k x at)

module _ (slot_of : List ℕ → Option ℕ) (slots : List (Option (List ℕ × Source))) (count : ℕ) (is : IsListing slot_of slots count)
    (ballots : List (List ℕ × Source)) (listed : filed slots ≡ ballots) (voter text : List ℕ) (told : text ≡ voter) (looked : Option ℕ) (got : looked ≡ slot_of text) where
  -- the table has no slot of the voter
  module _ (none : looked ≡ None) where
    unknown : slot_of voter ≡ None
    unknown = ap slot_of (sym told) ∙ sym got ∙ none

    pub none_found : None ≡ lookup (bytes_eq voter) ballots
    none_found = get_unknown slot_of slots count is voter unknown ∙ ap (lookup (bytes_eq voter)) listed

    pub none_replaced : (w : Source) → ballots ≡ set_value (bytes_eq voter) ballots w
    none_replaced w = sym listed ∙ replace_unknown slot_of slots count is voter w unknown ∙ ap (λ bs. set_value (bytes_eq voter) bs w) listed

    pub none_removed : ballots ≡ remove_entry (bytes_eq voter) ballots
    none_removed = sym listed ∙ remove_unknown slot_of slots count is voter unknown ∙ ap (remove_entry (bytes_eq voter)) listed

  -- the slot that the table names is a gap, or the voter's
  module _ (s : ℕ) (says : looked ≡ Some s) (slot : Option (List ℕ × Source)) (read : slot ≡ get_or slots s slot) where
    known : slot_of voter ≡ Some s
    known = ap slot_of (sym told) ∙ sym got ∙ says

    at : slice_get slots s ≡ Some slot
    at = slice_get_read slots (length slots) s slot refl (is.within voter s known) read

    pub slot_found : option_map (λ (b : List ℕ × Source). b.1) slot ≡ lookup (bytes_eq voter) ballots
    slot_found = by slot at ∙ ap (lookup (bytes_eq voter)) listed
      where
        by : (there : Option (List ℕ × Source)) → slice_get slots s ≡ Some there → option_map (λ (b : List ℕ × Source). b.1) there ≡ lookup (bytes_eq voter) (filed slots)
        by None gap = get_gap slot_of slots count is voter s known gap
        by (Some b) filled = get_filled slot_of slots count is voter s b known filled

    pub slot_replaced : (w : Source) (now : Option (List ℕ × Source)) → now ≡ option_map (λ (b : List ℕ × Source). (b.0, w)) slot →
        filed (slice_set slots s now) ≡ set_value (bytes_eq voter) ballots w
    slot_replaced w now written = ap (λ o. filed (slice_set slots s o)) written ∙ by slot at ∙ ap (λ bs. set_value (bytes_eq voter) bs w) listed
      where
        by : (there : Option (List ℕ × Source)) → slice_get slots s ≡ Some there →
            filed (slice_set slots s (option_map (λ (b : List ℕ × Source). (b.0, w)) there)) ≡ set_value (bytes_eq voter) (filed slots) w
        by None gap = ap filed (set_same slots s None gap) ∙ replace_gap slot_of slots count is voter w s known gap
        by (Some b) filled = replace_filled slot_of slots count is voter s b known filled w

    pub IsListing-slot_replaced : (w : Source) (now : Option (List ℕ × Source)) → now ≡ option_map (λ (b : List ℕ × Source). (b.0, w)) slot → IsListing slot_of (slice_set slots s now) count
    IsListing-slot_replaced w now written = rw written (by slot at)
      where
        by : (there : Option (List ℕ × Source)) → slice_get slots s ≡ Some there → IsListing slot_of (slice_set slots s (option_map (λ (b : List ℕ × Source). (b.0, w)) there)) count
        by None gap = subst (λ os. IsListing slot_of os count) (sym (set_same slots s None gap)) is
        by (Some b) filled = IsListing-replaced slot_of slots count is voter s b known filled w

    pub slot_removed : (now : Option (List ℕ × Source)) → now ≡ None → filed (slice_set slots s now) ≡ remove_entry (bytes_eq voter) ballots
    slot_removed now emptied = ap (λ o. filed (slice_set slots s o)) emptied ∙ by slot at ∙ ap (remove_entry (bytes_eq voter)) listed
      where
        by : (there : Option (List ℕ × Source)) → slice_get slots s ≡ Some there → filed (slice_set slots s None) ≡ remove_entry (bytes_eq voter) (filed slots)
        by None gap = ap filed (set_same slots s None gap) ∙ remove_gap slot_of slots count is voter s known gap
        by (Some b) filled = remove_filled slot_of slots count is voter s b known filled

    pub IsListing-slot_removed : (now : Option (List ℕ × Source)) → now ≡ None → is_some slot ≡ true → IsListing slot_of (slice_set slots s now) (count - 1)
    IsListing-slot_removed now emptied stood = rw emptied (by slot at stood)
      where
        by : (there : Option (List ℕ × Source)) → slice_get slots s ≡ Some there → is_some there ≡ true → IsListing slot_of (slice_set slots s None) (count - 1)
        by None gap stood = absurd (true≢false (sym stood))
        by (Some b) filled stood = IsListing-removed slot_of slots count is voter s b known filled

    pub IsListing-gap_kept : (now : Option (List ℕ × Source)) → now ≡ None → is_some slot ≡ false → IsListing slot_of (slice_set slots s now) count
    IsListing-gap_kept now emptied none_stood = rw emptied (by slot at none_stood)
      where
        by : (there : Option (List ℕ × Source)) → slice_get slots s ≡ Some there → is_some there ≡ false → IsListing slot_of (slice_set slots s None) count
        by None gap none_stood = subst (λ os. IsListing slot_of os count) (sym (set_same slots s None gap)) is
        by (Some b) filled none_stood = absurd (true≢false none_stood)

    pub some_stood : is_some slot ≡ true → zero < count
    some_stood stood = by slot at stood
      where
        by : (there : Option (List ℕ × Source)) → slice_get slots s ≡ Some there → is_some there ≡ true → zero < count
        by None gap stood = absurd (true≢false (sym stood))
        by (Some b) filled stood = some_filled slot_of slots count is voter s b known filled

-- a list whose table and slots are as they were
pub IsListing-kept : (table now : Places) (slots slots_now : List (Option (List ℕ × Source))) (count : ℕ) → IsListing (map.get table) slots count → now ≡ table → slots_now ≡ slots →
    IsListing (map.get now) slots_now count
IsListing-kept table now slots slots_now count is same kept = rw (same, kept) is

-- a list with a ballot more
module _ (slots between slots_now : List (Option (List ℕ × Source))) (voter own : List ℕ) (source : Source)
    (grown : slots_now ≡ between ++ Some (own, source) ∷ []) (kept : between ≡ slots) (copied : own ≡ voter) where
  are_now : slots_now ≡ slots ++ Some (voter, source) ∷ []
  are_now = grown ∙ (λ j. kept j ++ Some (copied j, source) ∷ [])

  pub IsListing-pushed : (table now : Places) (count slot : ℕ) (text : List ℕ) → IsListing (map.get table) slots count → now ≡ map.insert table text slot → text ≡ voter →
      slot ≡ length slots → lookup (bytes_eq voter) (filed slots) ≡ None → IsListing (map.get now) slots_now (count + 1)
  IsListing-pushed table now count slot text is inserted told last new =
      let given : (id : List ℕ) → map.get now id ≡ (if bytes_eq voter id then Some slot else map.get table id) =
      λ id. ap (λ (m : Places). map.get m id) inserted ∙ ap (λ (t : List ℕ). map.get (map.insert table t slot) id) told ∙ get_inserted table voter slot id in
      rw are_now (IsListing-push (map.get table) slots count is voter (map.get now) slot source given last new)

  pub filed_pushed : (ballots : List (List ℕ × Source)) → filed slots ≡ ballots → filed slots_now ≡ ballots ++ (voter, source) ∷ []
  filed_pushed ballots listed = ap filed are_now ∙ filed-push slots (voter, source) ∙ ap (λ bs. bs ++ (voter, source) ∷ []) listed

-- no voter stands twice
abbrev pub NoneTwice : List (List ℕ × Source) → Type 0
NoneTwice [] = ⊤
NoneTwice (s ∷ sources) = NonePasses (bytes_eq s.0) sources × NoneTwice sources

none_twice : (slots : List (Option (List ℕ × Source))) →
    ((s t : ℕ) (b p : List ℕ × Source) → s ≢ t → slice_get slots s ≡ Some (Some b) → slice_get slots t ≡ Some (Some p) → bytes_eq b.0 p.0 ≡ false) → NoneTwice (filed slots)
none_twice [] differ = tt
none_twice (None ∷ slots) differ = none_twice slots (λ s t b p apart. differ (suc s) (suc t) b p (omega (arith, apart)))
none_twice (Some b ∷ slots) differ = (
  absent (bytes_eq b.0) slots (λ t p at. differ zero (suc t) b p (omega arith) refl at),
  none_twice slots (λ s t b p apart. differ (suc s) (suc t) b p (omega (arith, apart))),
)

pub NoneTwice-filed : (slot_of : List ℕ → Option ℕ) (slots : List (Option (List ℕ × Source))) (count : ℕ) → IsListing slot_of slots count → NoneTwice (filed slots)
NoneTwice-filed slot_of slots count is =
    none_twice slots (λ s t b p apart at_s at_t. others_fail slot_of slots count is b.0 s t p (is.there s b at_s) (λ same. apart (sym same)) at_t)

-- the voter in a slot does not stand after it
pub none_after : (slot_of : List ℕ → Option ℕ) (slots : List (Option (List ℕ × Source))) (count : ℕ) → IsListing slot_of slots count → (k : ℕ) (b : List ℕ × Source) →
    slice_get slots k ≡ Some (Some b) → NonePasses (bytes_eq b.0) (filed (drop (suc k) slots))
none_after slot_of slots count is k b at =
    absent (bytes_eq b.0) (drop (suc k) slots) (λ t p at_t.
    others_fail slot_of slots count is b.0 k (suc k + t) p (is.there k b at) (omega arith) (get-drop (suc k) slots t ∙ at_t))

-- the ballot at a place in the order of the slots, looked for from a slot on
module _ (slots : List (Option (List ℕ × Source))) (k left place : ℕ) (so_far : slice_get (filed (drop k slots)) left ≡ slice_get (filed slots) place) where
  pub nth_past : length slots ≤ k → None ≡ slice_get (filed slots) place
  nth_past past = sym (ap (λ os. slice_get (filed os) left) (drop_all k slots past)) ∙ so_far

  module _ (slot : Option (List ℕ × Source)) (below : k < length slots) (is : slot ≡ get_or slots k slot) where
    begins_here : filed (drop k slots) ≡ cons_option slot (filed (drop (k + 1) slots))
    begins_here = filed-drop slots k slot (slice_get_read slots (length slots) k slot refl below is) ∙ ap (λ n. cons_option slot (filed (drop n slots))) (sym (add-one k))

    pub nth_gap : slot ≡ None → slice_get (filed (drop (k + 1) slots)) left ≡ slice_get (filed slots) place
    nth_gap gap = sym (ap (λ bs. slice_get bs left) (begins_here ∙ ap (λ o. cons_option o (filed (drop (k + 1) slots))) gap)) ∙ so_far

    pub nth_here : (b : List ℕ × Source) → slot ≡ Some b → left ≡ 0 → Some b ≡ slice_get (filed slots) place
    nth_here b filled last = sym ((λ j. slice_get ((begins_here ∙ ap (λ o. cons_option o (filed (drop (k + 1) slots))) filled) j) (last j))) ∙ so_far

    pub nth_later : (b : List ℕ × Source) → slot ≡ Some b → zero < left → slice_get (filed (drop (k + 1) slots)) (left - 1) ≡ slice_get (filed slots) place
    nth_later b filled more =
        let one_less : left ≡ suc (left - 1) = omega (arith, more) in
        sym ((λ j. slice_get ((begins_here ∙ ap (λ o. cons_option o (filed (drop (k + 1) slots))) filled) j) (one_less j))) ∙ so_far
