-- Records stand for one election at most, or have one first fault.
use Rattle.std.proofs.Common.{◌≡◌, ◌<◌, ◌≤◌, ◌+◌, ◌-◌, ◌⊎◌, ◌==◌, ℕ, cond, not, List, [], ◌∷◌, ◌++◌, length, take, Some, refl, ap, sym, ◌∙◌, subst, arith, inl, inr, append_assoc, length-append}
use Rattle.std.specs.List.{list_all}
use Rattle.std.specs.Str.{is_utf8}
use Rattle.std.proofs.lemmas.Bool.{cases_order}
use Rattle.std.proofs.lemmas.Option.{same_Some}
use Rattle.std.proofs.Math.Seq.{take-append-add, take-append_seam}
use Rattle.std.proofs.lemmas.List.{append-nil}
use Rattle.pb_core.specs.Election.{ElectionView}
use Rattle.pb_rows.specs.Reading.{Fields}
use Rattle.pb_read.proofs.Alike.{Alike, alike, at_just}
use Rattle.pb_read.proofs.LowestKind.{lowest_is}
use Rattle.pb_read.proofs.GoesOn.{IsAtFault, is_at_fault, reached_without_fault, rows_of-are_full, run_from_start}
use Rattle.pb_read.proofs.ListFacts.{same_Ok}
use Rattle.pb_read.proofs.Runs.{runs}
use Rattle.pb_read.specs.Inner.Forms.{next_row}
use Rattle.pb_read.specs.FirstFault.{HasNoFault, IsFaultAt, IsFirstFault, IsFromOutside}
use Rattle.pb_read.specs.Inner.Machine.{Position, start, run, lowest_kind}
use Rattle.pb_read.specs.Inner.Tracking.{Reached}
use Rattle.pb_read.specs.Inner.Fields.{trimmed}
use Rattle.pb_read.specs.Rows.{rows_of}
use Rattle.pb_read.specs.Stages.{the_end}
use Rattle.pb_read.specs.StandsFor.{Describes, StandsFor, most_records}
use Rattle.pb_read.specs.declared.fault.ReadKind.{ReadKind}
use Rattle.pb_read.specs.declared.fault.ReadKind.TheVariants as kinds
use Rattle.pb_read.specs.declared.progress.Stage.TheVariants.{InVotes}

pub one_election : (records : List Fields) (e f : ElectionView) → StandsFor records e → StandsFor records f → e ≡ f
one_election records e f se sf =
    let here = runs (InVotes se.describes.columns, e) (rows_of records) (rows_of-are_full records) se.describes.rows se.describes.is_election in
    let there = runs (InVotes sf.describes.columns, f) (rows_of records) (rows_of-are_full records) sf.describes.rows sf.describes.is_election in
    ap (λ p. p.1) (same_Ok (sym here ∙ there))

-- the first fault of records, with where they are cut, and the position to which those before it were read
record IsFirst (records : List Fields) (kind : ReadKind) (at : ℕ) : Type 0 where
  done : List Fields
  left : List Fields
  cut : records ≡ done ++ left
  at_is : at ≡ length done + 1
  no_fault_before : HasNoFault done
  place : Position
  reached : Reached done place
  lowest : lowest_kind (length done) place left ≡ Some kind

at_fault_of : (records : List Fields) (kind : ReadKind) (at : ℕ) (fault : IsFirst records kind at) → IsAtFault fault.done fault.left
at_fault_of records kind at fault = is_at_fault fault.done fault.left fault.place kind fault.reached fault.lowest

lowest_alike : (done : ℕ) (p q : Position) (left : List Fields) → Alike p q → lowest_kind done p left ≡ lowest_kind done q left
lowest_alike done p q [] same = same the_end
lowest_alike done p q (next ∷ rest) same =
    ap (λ found. cond (not (list_all is_utf8 next)) (Some kinds.NotText) (cond (done == most_records) (Some kinds.TooManyRecords) found)) (same (next_row (trimmed next)))

-- a first fault, from where the records before it have come
first_from : (records : List Fields) (kind : ReadKind) (at : ℕ) (fault : IsFaultAt records kind at) → IsFirstFault fault.0 fault.1 kind → IsFirst records kind at
first_from records kind at fault first =
    let read = reached_without_fault fault.0 fault.4 in
    let same = alike (rows_of fault.0) first.stage read.0 first.so_far (at_just (rows_of fault.0) read.0 read.1.at) in
    let lowest = lowest_is (length fault.0) first.stage fault.1 kind first.applies first.lowest in
    record {
      done = fault.0;
      left = fault.1;
      cut = fault.2;
      at_is = fault.3;
      no_fault_before = fault.4;
      place = read.0;
      reached = read.1;
      lowest = sym (lowest_alike (length fault.0) first.stage read.0 fault.1 same) ∙ lowest;
    }

-- what stands has no fault
no_first_fault : (records : List Fields) (e : ElectionView) (kind : ReadKind) (at : ℕ) → StandsFor records e → ¬ IsFirst records kind at
no_first_fault records e kind at stands fault = go fault.done fault.left fault.cut (at_fault_of records kind at fault)
  where
    go : (done left : List Fields) → records ≡ done ++ left → IsAtFault done left → ⊥
    go done [] cut none = none e (subst (λ xs. StandsFor xs e) (cut ∙ append-nil done) stands)
    go done (next ∷ rest) cut none =
        let size : length records ≡ length done + length (next ∷ rest) = ap length cut ∙ length-append done (next ∷ rest) in
        none (
          omega (arith, size, stands.few, length-append done (next ∷ [])),
          rest,
          e,
          subst (λ xs. Describes xs e) (cut ∙ sym (append_assoc done (next ∷ []) rest)) stands.describes,
        )

same_rest : (front xs ys : List Fields) → front ++ xs ≡ front ++ ys → xs ≡ ys
same_rest [] xs ys e = e
same_rest (x ∷ front) xs ys e = let tails : front ++ xs ≡ front ++ ys = cc in same_rest front xs ys tails

same_head : (front : List Fields) (x y : Fields) (xs ys : List Fields) → front ++ x ∷ xs ≡ front ++ y ∷ ys → x ≡ y
same_head front x y xs ys e = let rests : x ∷ xs ≡ y ∷ ys = same_rest front (x ∷ xs) (y ∷ ys) e in cc

same_front : (xs ys us vs : List Fields) → xs ++ us ≡ ys ++ vs → length xs ≡ length ys → xs ≡ ys
same_front [] [] us vs e l = refl
same_front [] (y ∷ ys) us vs e l = absurd (omega (arith, l))
same_front (x ∷ xs) [] us vs e l = absurd (omega (arith, l))
same_front (x ∷ xs) (y ∷ ys) us vs e l =
    let heads : x ≡ y = cc in
    let tails : xs ++ us ≡ ys ++ vs = cc in
    let rest : xs ≡ ys = same_front xs ys us vs tails (omega (arith, l)) in
    cc

regrouped : (done other : List Fields) (next x : Fields) (more tail : List Fields) → other ≡ done ++ x ∷ more → next ≡ x → other ++ tail ≡ (done ++ next ∷ []) ++ (more ++ tail)
regrouped done other next x more tail e same =
    ap (λ xs. xs ++ tail) e
    ∙ append_assoc done (x ∷ more) tail
    ∙ ap (λ y. done ++ y ∷ (more ++ tail)) (sym same)
    ∙ sym (append_assoc done (next ∷ []) (more ++ tail))

-- a fault does not come after another
not_after : (records : List Fields) (k l : ReadKind) (a b : ℕ) (f : IsFirst records k a) (g : IsFirst records l b) → length f.done < length g.done → ⊥
not_after records k l a b f g shorter = go f.left f.cut (at_fault_of records k a f)
  where
    within : (done left : List Fields) (other rest : List Fields) → done ++ left ≡ other ++ rest → length done < length other → (next : Fields) × (more : List Fields) × (other ≡ done ++ next ∷ more)
    within [] left [] rest e l = absurd (omega (arith, l))
    within [] left (y ∷ other) rest e l = (y, other, refl)
    within (x ∷ done) left [] rest e l = absurd (omega (arith, l))
    within (x ∷ done) left (y ∷ other) rest e l =
        let heads : x ≡ y = cc in
        let tails : done ++ left ≡ other ++ rest = cc in
        let found = within done left other rest tails (omega (arith, l)) in
        (found.0, found.1, cc (heads, found.2))

    go : (left : List Fields) → records ≡ f.done ++ left → IsAtFault f.done left → ⊥
    go [] cut none =
        let size : length records ≡ length g.done + length g.left = ap length g.cut ∙ length-append g.done g.left in
        let all : length records ≡ length f.done = ap length (cut ∙ append-nil f.done) in
        absurd (omega (arith, size, all, shorter))
    go (next ∷ rest) cut none =
        let found = within f.done (next ∷ rest) g.done g.left (sym cut ∙ g.cut) shorter in
        let whole : f.done ++ next ∷ rest ≡ f.done ++ (found.0 ∷ (found.1 ++ g.left)) =
        sym cut ∙ g.cut ∙ ap (λ xs. xs ++ g.left) found.2 ∙ append_assoc f.done (found.0 ∷ found.1) g.left in
        let same : next ≡ found.0 = same_head f.done next found.0 rest (found.1 ++ g.left) whole in
        let way = g.no_fault_before in
        none (
          omega (arith, shorter, way.0, length-append f.done (next ∷ [])),
          found.1 ++ way.1,
          way.2,
          subst (λ xs. Describes xs way.2) (regrouped f.done g.done next found.0 found.1 way.1 found.2 same) way.3,
        )

-- the first fault is one
one_first_fault : (records : List Fields) (k l : ReadKind) (a b : ℕ) → IsFirst records k a → IsFirst records l b → (k ≡ l) × (a ≡ b)
one_first_fault records k l a b f g = go (cases_order (length f.done) (length g.done))
  where
    go : (length f.done ≡ length g.done) ⊎ ((length f.done < length g.done) ⊎ (length g.done < length f.done)) → (k ≡ l) × (a ≡ b)
    go (inr (inl shorter)) = absurd (not_after records k l a b f g shorter)
    go (inr (inr longer)) = absurd (not_after records l k b a g f longer)
    go (inl same) =
        let done : f.done ≡ g.done = same_front f.done g.done f.left g.left (sym f.cut ∙ g.cut) same in
        let left : f.left ≡ g.left = same_rest f.done f.left g.left (sym f.cut ∙ g.cut ∙ ap (λ xs. xs ++ g.left) (sym done)) in
        let place : f.place ≡ g.place = same_Ok (sym (run_from_start f.done f.place f.reached) ∙ ap (λ xs. run start (rows_of xs)) done ∙ run_from_start g.done g.place g.reached) in (
          same_Some k l (sym f.lowest ∙ (λ i. lowest_kind (length (done i)) (place i) (left i)) ∙ g.lowest),
          f.at_is ∙ ap (λ n. n + 1) same ∙ sym g.at_is,
        )

pub refused_from_outside : (records : List Fields) (e : ElectionView) (kind : ReadKind) (at : ℕ) → StandsFor records e → IsFaultAt records kind at → IsFromOutside kind
refused_from_outside records e kind at stands fault = go fault.5
  where
    go : IsFirstFault fault.0 fault.1 kind ⊎ IsFromOutside kind → IsFromOutside kind
    go (inl first) = absurd (no_first_fault records e kind at stands (first_from records kind at fault first))
    go (inr outside) = outside

first_unless : (records : List Fields) (kind : ReadKind) (at : ℕ) → IsFaultAt records kind at → ¬ IsFromOutside kind → IsFirst records kind at
first_unless records kind at fault inside = go fault.5
  where
    go : IsFirstFault fault.0 fault.1 kind ⊎ IsFromOutside kind → IsFirst records kind at
    go (inl first) = first_from records kind at fault first
    go (inr outside) = absurd (inside outside)

-- a fault that is not from outside is one
pub one_fault : (records : List Fields) (k l : ReadKind) (a b : ℕ) → IsFaultAt records k a → IsFaultAt records l b → ¬ IsFromOutside k → ¬ IsFromOutside l → (k ≡ l) × (a ≡ b)
one_fault records k l a b f g inside within = one_first_fault records k l a b (first_unless records k a f inside) (first_unless records l b g within)

-- the records before the one at fault have no fault
pub none_before : (records : List Fields) (kind : ReadKind) (at : ℕ) → IsFaultAt records kind at → HasNoFault (take (at - 1) records)
none_before records kind at fault =
    let size : at - 1 ≡ length fault.0 = omega (arith, fault.3) in
    let first : take (at - 1) records ≡ fault.0 = (λ i. take (size i) (fault.2 i)) ∙ take-append_seam fault.0 fault.1 in
    subst HasNoFault (sym first) fault.4

-- with it they have one
pub one_with_it : (records : List Fields) (kind : ReadKind) (at : ℕ) → IsFaultAt records kind at → ¬ IsFromOutside kind → at ≤ length records → ¬ HasNoFault (take at records)
one_with_it records kind at fault inside within = go found.left found.cut (at_fault_of records kind at found)
  where
    found : IsFirst records kind at
    found = first_unless records kind at fault inside

    go : (left : List Fields) → records ≡ found.done ++ left → IsAtFault found.done left → ¬ HasNoFault (take at records)
    go [] cut none =
        let size : length records ≡ length found.done = ap length (cut ∙ append-nil found.done) in
        absurd (omega (arith, size, within, found.at_is))
    go (next ∷ rest) cut none =
        let up_to : take at records ≡ found.done ++ next ∷ [] =
        (λ i. take (found.at_is i) (cut i)) ∙ take-append-add found.done (next ∷ rest) 1 in
        subst (λ xs. ¬ HasNoFault xs) (sym up_to) none
