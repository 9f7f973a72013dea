-- Which item of a list is the first of a project: the loops that number projects go from the last item to the first.
use Rattle.std.proofs.Common.{◌≡◌, ℕ, ◌+◌, ◌<◌, ◌≤◌, List, [], ◌∷◌, length, get_or, set, drop, true, false, ltb, suc, refl, sym, ◌∙◌, ap, inl, inr, arith}
use Rattle.std.specs.Prelude.{◌==◌, not, slice_index, replicate}
use Rattle.std.specs.List.{list_any, position_or_len}
use Rattle.std.proofs.lemmas.Bool.{cases_eq, cases_lt, eq-eqb, ne_eqb, lt-ltb, le-ltb}
use Rattle.std.proofs.lemmas.List.{get_or-replicate, get_or-set_same, get_or-set_other, length-set}
use Rattle.std.proofs.lemmas.List.Sums.{prefix_len-drop_yes, prefix_len-drop_no, prefix_len-drop_all}

-- from this item on, each project has the number of its first item
pub record AreNumberedFrom {X : Type 0} (project : X → ℕ) (projects : ℕ) (items : List X) (numbers : List ℕ) (number : ℕ) : Type 0 where
  pub one_each : length numbers ≡ projects
  pub within : number ≤ length items
  pub numbered : (place : ℕ) → place < projects
      → slice_index numbers place ≡ number + position_or_len (λ x. project x == place) (drop number items)

module _ {X : Type 0} (project : X → ℕ) (projects : ℕ) (items : List X) (numbers : List ℕ) where
  pub none_numbered : numbers ≡ replicate projects (length items) → length numbers ≡ projects
      → AreNumberedFrom project projects items numbers (length items)
  none_numbered is one_each = record {
    one_each = one_each;
    within = omega arith;
    numbered = λ place known.
        ap (λ (l : List ℕ). slice_index l place) is ∙ get_or-replicate projects place (length items) 0 known
        ∙ rw (prefix_len-drop_all (λ x. not (project x == place)) items (length items) (omega arith)) (omega arith);
  }

  pub one_numbered : (number : ℕ) (x : X) → AreNumberedFrom project projects items numbers (number + 1)
      → x ≡ get_or items number x → project x < projects
      → AreNumberedFrom project projects items (set numbers (project x) number) number
  one_numbered number x so_far here known = record {
    one_each = simp length-set so_far.one_each;
    within = let le = so_far.within in omega arith;
    numbered = λ place below. elim (cases_eq place (project x)) [
      | inl same ↦
          let inside : project x < length numbers = omega (arith, so_far.one_each) in
          let hit : not (project (get_or items number x) == place) ≡ false = rw (← here, same) (ap not (eq-eqb (project x) (project x) refl)) in
          let none = prefix_len-drop_no (λ y. not (project y == place)) items number x (let le = so_far.within in omega arith) hit in
          rw (none, same) (get_or-set_same numbers (project x) number 0 inside ∙ omega arith)
      | inr other ↦
          let miss : not (project (get_or items number x) == place) ≡ true = rw (← here) (ap not (ne_eqb (project x) place (λ e. other (sym e)))) in
          let more = prefix_len-drop_yes (λ y. not (project y == place)) items number x (let le = so_far.within in omega arith) miss in
          rw more (get_or-set_other numbers (project x) place number 0 other ∙ so_far.numbered place below ∙ omega arith)
    ];
  }

-- an item is a project's just where one comes before the end
pub some_has_position : {X : Type 0} (project : X → ℕ) (items : List X) (place : ℕ)
    → list_any (λ x. project x == place) items ≡ ltb (position_or_len (λ x. project x == place) items) (length items)
some_has_position project [] place = refl
some_has_position project (x ∷ items) place = elim (cases_eq (project x) place) [
  | inl same ↦ rw (eq-eqb (project x) place same) (sym (lt-ltb 0 (suc (length items)) (omega arith)))
  | inr other ↦ rw (ne_eqb (project x) place other) (some_has_position project items place ∙ shift (position_or_len (λ y. project y == place) items) (length items))
]
  where
    shift : (i n : ℕ) → ltb i n ≡ ltb (1 + i) (suc n)
    shift i n = elim (cases_lt i n) [
      | inl less ↦ lt-ltb i n less ∙ sym (lt-ltb (1 + i) (suc n) (omega arith))
      | inr more ↦ le-ltb i n more ∙ sym (le-ltb (1 + i) (suc n) (omega arith))
    ]
